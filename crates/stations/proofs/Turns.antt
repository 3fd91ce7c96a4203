-- The parts in turn: each starts by its arrival and by the part that had its place before, and leaves by its start.
use Rattle.std.proofs.Common.{◌≡◌, ℕ, zero, suc, ◌+◌, ◌-◌, ◌/◌, ◌<◌, ◌≤◌, max, cond, ltb, leb, List, [], ◌∷◌, map, length, get_or, sym, refl, ap, ◌∙◌, mod-lt, div-add-mod', arith}
use native.Mathlib.Decide.{dec_le}
use native.Mathlib.Nat.{mul-mod_left}
use lib.ListN.{length-map}
use Rattle.std.proofs.lemmas.List.{get_or-map}
use Rattle.std.proofs.lemmas.Bool.{lt-ltb, le-ltb}
use Rattle.std.proofs.lemmas.Bool.Decides.{nat_tests}
use Rattle.calendar.specs.Clock.{cut}
use Rattle.stations.specs.Lists.{at}
use Rattle.stations.specs.Rule.{Rule}
use Rattle.stations.specs.Serving.{Pace, start, served, machine, oven, round_up}
use Rattle.stations.specs.ServingLaw.{LeavesInTurn, RoundedUp, StartsInTurn}

-- the starts, not yet cut
abbrev begun : ℕ → Pace → List ℕ → Rule
begun k w free [] = []
begun k w free (a ∷ arrivals) = start k w free a ∷ begun k w (cut (start k w free a + w.turn) ∷ free) arrivals

-- when the places are free again
abbrev frees : ℕ → Pace → List ℕ → Rule
frees k w free arrivals = map (λ s. cut (s + w.turn)) (begun k w free arrivals)

begun_length : (k : ℕ) (w : Pace) (free arrivals : List ℕ) → length (begun k w free arrivals) ≡ length arrivals
begun_length k w free [] = refl
begun_length k w free (a ∷ arrivals) = ap suc (begun_length k w (cut (start k w free a + w.turn) ∷ free) arrivals)

served_begun : (k : ℕ) (w : Pace) (free arrivals : List ℕ) → served k w free arrivals ≡ map (λ s. cut (s + w.stay)) (begun k w free arrivals)
served_begun k w free [] = refl
served_begun k w free (a ∷ arrivals) =
    ap (λ (l : List ℕ). cut (start k w free a + w.stay) ∷ l) (served_begun k w (cut (start k w free a + w.turn) ∷ free) arrivals)

-- when the place of the part at i is free: by the part k before, of those since, fs, or of those at the beginning
abbrev prior : ℕ → List ℕ → List ℕ → ℕ → ℕ
prior k free fs i = cond (leb k i) (get_or fs (i - k) 0) (get_or free (k - 1 - i) 0)

prior_since : (k : ℕ) (free fs : List ℕ) (i : ℕ) → k ≤ i → prior k free fs i ≡ get_or fs (i - k) 0
prior_since k free fs i h = grind (arith, nat_tests)

prior_first : (k : ℕ) (free fs : List ℕ) (i : ℕ) → i < k → prior k free fs i ≡ get_or free (k - 1 - i) 0
prior_first k free fs i h = grind (arith, nat_tests)

-- the same after one part more
prior_more : (k f : ℕ) (free fs : List ℕ) (i : ℕ) → prior k (f ∷ free) fs i ≡ prior k free (f ∷ fs) (suc i)
prior_more k f free fs i = go (dec_le k i) (dec_le k (suc i))
  where
    go : Dec (k ≤ i) → Dec (k ≤ suc i) → prior k (f ∷ free) fs i ≡ prior k free (f ∷ fs) (suc i)
    go (yes y) z =
        let e : suc (i - k) ≡ suc i - k = omega arith in
        prior_since k (f ∷ free) fs i y ∙ ap (λ n. get_or (f ∷ fs) n 0) e ∙ sym (prior_since k free (f ∷ fs) (suc i) (omega arith))
    go (no n) (yes y) =
        let e : k - 1 - i ≡ 0 = omega arith in
        let z : 0 ≡ suc i - k = omega arith in
        prior_first k (f ∷ free) fs i (omega arith)
        ∙ ap (λ n. get_or (f ∷ free) n 0) e ∙ ap (λ n. get_or (f ∷ fs) n 0) z
        ∙ sym (prior_since k free (f ∷ fs) (suc i) y)
    go (no n) (no m) =
        let e : k - 1 - i ≡ suc (k - 1 - suc i) = omega arith in
        prior_first k (f ∷ free) fs i (omega arith)
        ∙ ap (λ n. get_or (f ∷ free) n 0) e
        ∙ sym (prior_first k free (f ∷ fs) (suc i) (omega arith))

begun_at :
    (k : ℕ) (w : Pace) (free arrivals : List ℕ) (i : ℕ) → 1 ≤ k → i < length arrivals
    → get_or (begun k w free arrivals) i 0 ≡ max (w.from (get_or arrivals i 0)) (prior (k) free (frees k w free arrivals) i)
begun_at k w free [] i h l = absurd (omega arith)
begun_at k w free (a ∷ arrivals) zero h l =
    let e : k - 1 ≡ k - 1 - 0 = omega arith in
    ap (max (w.from a))
    (ap (λ n. get_or free n 0) e ∙ sym (prior_first (k) free (frees k w free (a ∷ arrivals)) zero (omega arith)))
begun_at k w free (a ∷ arrivals) (suc i) h l =
    let f : ℕ = cut (start k w free a + w.turn) in
    begun_at k w (f ∷ free) arrivals i h (omega arith)
    ∙ ap (max (w.from (get_or arrivals i 0))) (prior_more (k) f free (frees k w (f ∷ free) arrivals) i)

-- from the beginning there is no part before
prior_at : (k : ℕ) (fs : List ℕ) (i : ℕ) → prior k [] fs i ≡ at fs (suc i - k)
prior_at k fs i = go (dec_le k i)
  where
    go : Dec (k ≤ i) → prior k [] fs i ≡ at fs (suc i - k)
    go (yes y) = let e : suc (i - k) ≡ suc i - k = omega arith in prior_since k [] fs i y ∙ ap (at fs) e
    go (no n) = let e : 0 ≡ suc i - k = omega arith in prior_first k [] fs i (omega arith) ∙ ap (at fs) e

-- what is worked out from a start stands in its place
from_start : (f : ℕ → ℕ) (k : ℕ) (w : Pace) (arrivals : List ℕ) (i : ℕ) → i < length arrivals → get_or (map f (begun k w [] arrivals)) i 0 ≡ f (get_or (begun k w [] arrivals) i 0)
from_start f k w arrivals i h = get_or-map f (begun k w [] arrivals) i 0 0 (omega (arith, begun_length k w [] arrivals))

pub leaves_in_turn : (k p : ℕ) → 1 ≤ k → LeavesInTurn k p (served k (machine p) [])
leaves_in_turn k p h arrivals zero o l = absurd (omega arith)
leaves_in_turn k p h arrivals (suc i) o l =
    let w : Pace = machine p in
    let is = served_begun k w [] arrivals in
    ap (λ (d : List ℕ). get_or d i 0) is
    ∙ from_start (λ s. cut (s + p)) k w arrivals i (omega arith)
    ∙ ap (λ s. cut (s + p))
    (begun_at k w [] arrivals i h (omega arith)
    ∙ ap (max (get_or arrivals i 0)) (prior_at k (frees k w [] arrivals) i ∙ ap (λ (d : List ℕ). at d (suc i - k)) (sym is)))

rounded_up : (t a : ℕ) → 1 ≤ t → RoundedUp t a (round_up t a)
rounded_up t a h =
    let m = mod-lt (a + (t - 1)) h in
    let d = div-add-mod' (a + (t - 1)) t in
    record { multiple = mul-mod_left ((a + (t - 1)) / t) t; not_before = omega arith; least = omega arith }

-- a start of an oven by the start as many parts before as it has places
oven_start :
    (t b p : ℕ) (arrivals : List ℕ) (i : ℕ) → 1 ≤ b → i < length arrivals
    → at (map cut (begun b (oven t p) [] arrivals)) (suc i)
    ≡ cut
    (max (round_up t (get_or arrivals i 0)) (cond (ltb b (suc i)) (at (map cut (begun b (oven t p) [] arrivals)) (suc i - b) + t) 0))
oven_start t b p arrivals i h l = go (dec_le b i)
  where
    u : ℕ
    u = round_up t (get_or arrivals i 0)

    start_at : (j : ℕ) → j < length arrivals → get_or (map cut (begun b (oven t p) [] arrivals)) j 0 ≡ cut (get_or (begun b (oven t p) [] arrivals) j 0)
    start_at j k = from_start cut b (oven t p) arrivals j k

    waited :
        get_or (begun b (oven t p) [] arrivals) i 0 ≡ max (round_up t (get_or arrivals i 0)) (prior b [] (frees b (oven t p) [] arrivals) i)
    waited = begun_at b (oven t p) [] arrivals i h l

    go :
        Dec (b ≤ i)
        → at (map cut (begun b (oven t p) [] arrivals)) (suc i)
        ≡ cut
        (max (round_up t (get_or arrivals i 0)) (cond (ltb b (suc i)) (at (map cut (begun b (oven t p) [] arrivals)) (suc i - b) + t) 0))
    go (yes y) =
        let e : suc (i - b) ≡ suc i - b = omega arith in
        let s : at (map cut (begun b (oven t p) [] arrivals)) (suc i - b) ≡ cut (get_or (begun b (oven t p) [] arrivals) (i - b) 0) =
        sym (ap (at (map cut (begun b (oven t p) [] arrivals))) e) ∙ start_at (i - b) (omega arith) in
        let f : prior b [] (frees b (oven t p) [] arrivals) i ≡ cut (get_or (begun b (oven t p) [] arrivals) (i - b) 0 + t) =
        prior_since b [] (frees b (oven t p) [] arrivals) i y ∙ from_start (λ s. cut (s + t)) b (oven t p) arrivals (i - b) (omega arith) in
        let m : cond (ltb b (suc i)) (at (map cut (begun b (oven t p) [] arrivals)) (suc i - b) + t) 0
        ≡ at (map cut (begun b (oven t p) [] arrivals)) (suc i - b) + t =
        ap (λ c. cond c (at (map cut (begun b (oven t p) [] arrivals)) (suc i - b) + t) 0) (lt-ltb b (suc i) (omega arith)) in
        omega (arith, start_at i l, waited)
    go (no n) =
        let f : prior b [] (frees b (oven t p) [] arrivals) i ≡ 0 = prior_first b [] (frees b (oven t p) [] arrivals) i (omega arith) in
        let m : cond (ltb b (suc i)) (at (map cut (begun b (oven t p) [] arrivals)) (suc i - b) + t) 0 ≡ 0 =
        ap (λ c. cond c (at (map cut (begun b (oven t p) [] arrivals)) (suc i - b) + t) 0) (le-ltb b (suc i) (omega arith)) in
        omega (arith, start_at i l, waited)

pub starts_in_turn : (t b p : ℕ) → 1 ≤ t → 1 ≤ b → StartsInTurn t b p (served b (oven t p) [])
starts_in_turn t b p h k = (
  λ a. rounded_up t a h,
  λ arrivals. (
    map cut (begun b (oven t p) [] arrivals),
    record {
      one_each = length-map (begun b (oven t p) [] arrivals) cut ∙ begun_length b (oven t p) [] arrivals;
      in_turn = λ n. in_turn arrivals n;
      leaves = λ n. leaves arrivals n;
    },
  ),
)
  where
    in_turn :
        (arrivals : List ℕ) (n : ℕ) → 1 ≤ n → n ≤ length arrivals
        → at (map cut (begun b (oven t p) [] arrivals)) n
        ≡ cut (max (round_up t (at arrivals n)) (cond (ltb b n) (at (map cut (begun b (oven t p) [] arrivals)) (n - b) + t) 0))
    in_turn arrivals zero o l = absurd (omega arith)
    in_turn arrivals (suc i) o l = oven_start t b p arrivals i k (omega arith)

    leaves :
        (arrivals : List ℕ) (n : ℕ) → 1 ≤ n → n ≤ length arrivals
        → at (served b (oven t p) [] arrivals) n ≡ cut (at (map cut (begun b (oven t p) [] arrivals)) n + p)
    leaves arrivals zero o l = absurd (omega arith)
    leaves arrivals (suc i) o l =
        let d : get_or (served b (oven t p) [] arrivals) i 0 ≡ cut (get_or (begun b (oven t p) [] arrivals) i 0 + p) =
        ap (λ (d : List ℕ). get_or d i 0) (served_begun b (oven t p) [] arrivals)
        ∙ from_start (λ s. cut (s + p)) b (oven t p) arrivals i (omega arith) in
        omega (arith, from_start cut b (oven t p) arrivals i (omega arith))
