-- Each load of a station with places takes the rule one part further.
use Rattle.std.specs.Prelude.{◌≡◌, ℕ, zero, suc, ◌+◌, ◌-◌, ◌*◌, ◌/◌, ◌%◌, ◌<◌, ◌≤◌, max, List, [], ◌∷◌, length, take, replicate, Some, None, Ok, Option, slice_index, refl}
use Rattle.std.proofs.Common.{sym, ap, ◌∙◌, subst, arith, mod-lt, div-add-mod', mul-le-mul_right, add-mul, one-mul}
use Rattle.std.proofs.Math.Path.{fun_ext}
use Rattle.std.specs.Int.{next_multiple_of}
use Rattle.std.proofs.Math.Nat.{mod_self, mod-eq_of_lt}
use Rattle.std.proofs.Math.Decide.{dec_le}
use Rattle.std.proofs.lemmas.List.{get_or-take, length-take, length-replicate}
use Rattle.std.proofs.lemmas.Nat.{div-mul-add}
use Rattle.calendar.specs.Clock.{cut}
use Rattle.stations.specs.Load.{refusal, Loaded}
use Rattle.stations.specs.Layering.{granted}
use Rattle.stations.specs.Rule.{Rule, Meaning, before}
use Rattle.stations.specs.Serving.{Pace, start, served, serving, round_up}
use Rattle.stations.specs.Serves.{again, leaves}

-- two tables that agree as far back as the station looks
more_same :
    (k c : ℕ) (xs ys : List ℕ) → ((i : ℕ) → i < k → slice_index xs i ≡ slice_index ys i) → (i : ℕ) → i < k
    → slice_index (c ∷ xs) i ≡ slice_index (c ∷ ys) i
more_same k c xs ys f zero h = refl
more_same k c xs ys f (suc i) h = f i (omega arith)

served_agree :
    (k : ℕ) (w : Pace) (free free' arrivals : List ℕ) → 1 ≤ k → ((i : ℕ) → i < k → slice_index free i ≡ slice_index free' i)
    → served k w free arrivals ≡ served k w free' arrivals
served_agree k w free free' [] h f = refl
served_agree k w free free' (a ∷ arrivals) h f =
    ap (λ r. cut (max (w.from a) r + w.stay) ∷ served k w (cut (max (w.from a) r + w.turn) ∷ free) arrivals) (f (k - 1) (omega arith))
    ∙ ap (λ (l : List ℕ). leaves k w free' a ∷ l)
    (served_agree k w (again k w free' a ∷ free) (again k w free' a ∷ free') arrivals h (more_same k _ free free' f))

zeros : (n i : ℕ) → ◌≡◌ {A = ℕ} (slice_index (replicate n 0) i) 0
zeros zero i = refl
zeros (suc n) zero = refl
zeros (suc n) (suc i) = zeros n i

-- places that are all free mean a fresh station, however many times the table has
serves_unused :
    (k k' n : ℕ) (w : Pace) (free : List ℕ) → 1 ≤ k → k' ≡ k → free ≡ replicate n 0 → serving k' w free None ≡ serving k w [] None
serves_unused k k' n w free h same e =
    ap (λ m. serving m w free None) same
    ∙ ap {B = Meaning} (λ (r : Rule). record { rule = r; fresh = served k w []; early = before None })
    (ap (served k w) e ∙ fun_ext (λ arrivals. served_agree k w (replicate n 0) [] arrivals h (λ i l. zeros n i)))

pub serves_fresh :
    (k k' : ℕ) (w : Pace) (free : List ℕ) → 1 ≤ k → k' ≡ k → free ≡ replicate 16 0 → serving k' w free None ≡ serving k w [] None
serves_fresh k k' w free h same e = serves_unused k k' 16 w free h same e

-- the same for a table of one time for each place
pub serves_fresh_places :
    (k : ℕ) (w : Pace) (free : List ℕ) → 1 ≤ k → free ≡ replicate k 0 → serving (length free) w free None ≡ serving k w [] None
serves_fresh_places k w free h e = serves_unused k (length free) k w free h (ap length e ∙ length-replicate k 0) e

-- one load: the part may start at e, starts at s, leaves at d, and its place is taken, as far back as the station looks
serves_seen :
    (k k' : ℕ) (w : Pace) (free free' : List ℕ) (last : Option ℕ) (a e u v s d : ℕ) → 1 ≤ k → k' ≡ k
    → None ≡ refusal (before last) a → e ≡ w.from (cut a) → u ≡ w.turn → v ≡ w.stay → s ≡ max e (slice_index free (k - 1))
    → d ≡ cut (s + v) → ((i : ℕ) → i < k → slice_index free' i ≡ slice_index (cut (s + u) ∷ free) i)
    → Loaded (serving k w free last) a (Ok d) (serving k' w free' (Some a))
serves_seen k k' w free free' last a e u v s d h same ok from turn stay es ed f =
    let P : ℕ → Type 0 = λ n. Loaded (serving k w free last) a (Ok d) (serving n w free' (Some a)) in
    subst P (sym same) (
      sym ok,
      refl,
      refl,
      λ arrivals r.
          ap (λ n. cut (n + w.stay) ∷ served k w (cut (n + w.turn) ∷ free) arrivals) (sym starts)
          ∙ ap (λ n. n ∷ served k w (cut (s + w.turn) ∷ free) arrivals) (sym leaves_at)
          ∙ ap (λ (l : List ℕ). d ∷ l) (served_agree k w (cut (s + w.turn) ∷ free) free' arrivals h (λ i l. sym (taken i l))),
    )
  where
    on_clock : cut a ≡ a
    on_clock = omega (arith, (granted (before last) a (sym ok)).0)

    starts : s ≡ start k w free a
    starts = es ∙ ap (λ n. max n (slice_index free (k - 1))) (from ∙ ap w.from on_clock)

    leaves_at : d ≡ cut (s + w.stay)
    leaves_at = ed ∙ ap (λ n. cut (s + n)) stay

    taken : (i : ℕ) → i < k → slice_index free' i ≡ slice_index (cut (s + w.turn) ∷ free) i
    taken i l = f i l ∙ ap (λ n. slice_index (cut (s + n) ∷ free) i) turn

pub serves :
    (k k' : ℕ) (w : Pace) (free free' : List ℕ) (last : Option ℕ) (a e u v s d : ℕ) → 1 ≤ k → k ≤ 16 → k' ≡ k
    → None ≡ refusal (before last) a → e ≡ w.from (cut a) → u ≡ w.turn → v ≡ w.stay → s ≡ max e (slice_index free (k - 1))
    → d ≡ cut (s + v) → ((i : ℕ) → i < 16 → slice_index free' i ≡ slice_index (cut (s + u) ∷ free) i)
    → Loaded (serving k w free last) a (Ok d) (serving k' w free' (Some a))
serves k k' w free free' last a e u v s d h fit same ok from turn stay es ed f =
    serves_seen k k' w free free' last a e u v s d h same ok from turn stay es ed (λ i l. f i (omega arith))

-- the same for a table of one time for each place
pub serves_places :
    (w : Pace) (free free' : List ℕ) (last : Option ℕ) (a e u v s d : ℕ) → 1 ≤ length free
    → None ≡ refusal (before last) a → e ≡ w.from (cut a) → u ≡ w.turn → v ≡ w.stay → s ≡ max e (slice_index free (length free - 1))
    → d ≡ cut (s + v) → free' ≡ cut (s + u) ∷ take (length free - 1) free
    → Loaded (serving (length free) w free last) a (Ok d) (serving (length free') w free' (Some a))
serves_places w free free' last a e u v s d h ok from turn stay es ed f =
    serves_seen (length free) (length free') w free free' last a e u v s d h same ok from turn stay es ed
    (λ i l. ap (λ (g : List ℕ). slice_index g i) f ∙ kept (cut (s + u)) i l)
  where
    same : length free' ≡ length free
    same = ap length f ∙ omega (arith, length-take (length free - 1) free)

    kept : (c i : ℕ) → i < length free → slice_index (c ∷ take (length free - 1) free) i ≡ slice_index (c ∷ free) i
    kept c zero l = refl
    kept c (suc i) l = get_or-take (length free - 1) free i 0 (omega arith)

more_times : (q u n : ℕ) → q < u → q * n + n ≤ u * n
more_times q u n h = let k : (q + 1) * n ≤ u * n = mul-le-mul_right n (omega arith) in omega (arith, add-mul q 1 n, one-mul n)

pub round_up_below : (t a : ℕ) → round_up t a ≤ a + (t - 1)
round_up_below t a = omega (arith, div-add-mod' (a + (t - 1)) t)

-- the library's next multiple is the minute rounded up
pub next_rounds : (a t : ℕ) → 1 ≤ t → (next_multiple_of a t ≡ round_up t a) × (round_up t a < a + t)
next_rounds a t h = (go (dec_le 1 (a % t)), omega (arith, div-add-mod' (a + (t - 1)) t))
  where
    go : Dec (1 ≤ a % t) → next_multiple_of a t ≡ round_up t a
    go (yes y) =
        let m = mod-lt a h in
        let d = div-add-mod' a t in
        let e : a + (t - 1) ≡ (a / t + 1) * t + (a % t - 1) = omega (arith, add-mul (a / t) 1 t, one-mul t) in
        let q : round_up t a ≡ (a / t + 1) * t = ap (λ n. n / t * t) e ∙ ap (λ n. n * t) (div-mul-add (a / t + 1) t (a % t - 1) (omega arith)) in
        let r : (t - a % t) % t ≡ t - a % t = mod-eq_of_lt (omega arith) in
        omega (arith, add-mul (a / t) 1 t, one-mul t)
    go (no n) =
        let d = div-add-mod' a t in
        let e : a + (t - 1) ≡ a / t * t + (t - 1) = omega arith in
        let q : round_up t a ≡ a / t * t = ap (λ n. n / t * t) e ∙ ap (λ n. n * t) (div-mul-add (a / t) t (t - 1) (omega arith)) in
        let z : t - a % t ≡ t = omega arith in
        let r : (t - a % t) % t ≡ 0 = ap (λ n. n % t) z ∙ mod_self t in
        omega arith
