-- Stations with places are lawful at every pace.
use Rattle.std.specs.Prelude.{◌≡◌, ℕ, zero, suc, ◌+◌, ◌-◌, ◌/◌, ◌<◌, ◌≤◌, ◌⊎◌, List, [], ◌∷◌, length, take, slice_index, slice_index_or, refl}
use Rattle.std.proofs.Common.{ap, inl, inr, arith, mod-lt, div-add-mod', mul-le-mul_right}
use Rattle.std.proofs.Math.Decide.{dec_le}
use Rattle.std.proofs.Math.Nat.{div-mul-le_self}
use Rattle.std.proofs.lemmas.Nat.{le-div}
use Rattle.calendar.specs.Clock.{E, cut}
use Rattle.stations.specs.Rule.{Rising, Below, Later, Lawful}
use Rattle.stations.specs.Serving.{Pace, Steady, start, served, machine, oven}

-- when the place is free again, and the departure
abbrev pub again : ℕ → Pace → List ℕ → ℕ → ℕ
again k w free a = cut (start k w free a + w.turn)

abbrev pub leaves : ℕ → Pace → List ℕ → ℕ → ℕ
leaves k w free a = cut (start k w free a + w.stay)

-- times, the latest first
abbrev Falling : List ℕ → Type 0
Falling free = (i : ℕ) → slice_index free (suc i) ≤ slice_index free i

falling_more : (c : ℕ) (free : List ℕ) → slice_index free 0 ≤ c → Falling free → Falling (c ∷ free)
falling_more c free h f zero = h
falling_more c free h f (suc i) = f i

served_rising :
    (k : ℕ) (w : Pace) → Steady w → (low d : ℕ) (free arrivals : List ℕ) → Falling free → slice_index free 0 ≤ again k w free low
    → d ≤ leaves k w free low → Rising low arrivals → Rising d (served k w free arrivals)
served_rising k w W low d free [] f h l r = tt
served_rising k w W low d free (a ∷ arrivals) f h l r =
    let c : ℕ = again k w free a in
    let u : w.from low ≤ w.from a = W.rises low a r.0 in
    let f' : Falling (c ∷ free) = falling_more c free (omega arith) f in
    let g : slice_index_or free (k - 1) 0 ≤ slice_index_or (c ∷ free) (k - 1) 0 = f' (k - 1) in
    (omega arith, omega arith, served_rising k w W a (leaves k w free a) (c ∷ free) arrivals f' (omega arith) (omega arith) r.2)

served_length : (k : ℕ) (w : Pace) (free arrivals : List ℕ) → length (served k w free arrivals) ≡ length arrivals
served_length k w free [] = refl
served_length k w free (a ∷ arrivals) = ap suc (served_length k w (again k w free a ∷ free) arrivals)

served_later : (k : ℕ) (w : Pace) → Steady w → (free arrivals : List ℕ) → Later arrivals (served k w free arrivals)
served_later k w W free [] = tt
served_later k w W free (a ∷ arrivals) = (one, served_later k w W (again k w free a ∷ free) arrivals)
  where
    one : (a < leaves k w free a) ⊎ (leaves k w free a ≡ E)
    one =
        let u : a ≤ w.from a = W.waits a in
        let s : 1 ≤ w.stay = W.stays in
        elim (dec_le E (start k w free a + w.stay)) [ yes y ↦ inr (omega arith) | no n ↦ inl (omega arith) ]

served_causal :
    (k : ℕ) (w : Pace) (free arrivals : List ℕ) (n : ℕ) → take n (served k w free arrivals) ≡ served k w free (take n arrivals)
served_causal k w free arrivals zero = refl
served_causal k w free [] (suc n) = refl
served_causal k w free (a ∷ arrivals) (suc n) =
    ap (λ (l : List ℕ). leaves k w free a ∷ l) (served_causal k w (again k w free a ∷ free) arrivals n)

more : (c d : ℕ) (xs ys : List ℕ) → c ≤ d → ((i : ℕ) → slice_index xs i ≤ slice_index ys i) → (i : ℕ) → slice_index (c ∷ xs) i ≤ slice_index (d ∷ ys) i
more c d xs ys h f zero = h
more c d xs ys h f (suc i) = f i

served_monotone :
    (k : ℕ) (w : Pace) → Steady w → (free free' arrivals bs : List ℕ) → ((i : ℕ) → slice_index free i ≤ slice_index free' i) → Below arrivals bs
    → Below (served k w free arrivals) (served k w free' bs)
served_monotone k w W free free' [] bs f b = tt
served_monotone k w W free free' (a ∷ arrivals) [] f b = b
served_monotone k w W free free' (a ∷ arrivals) (b ∷ bs) f h =
    let u : w.from a ≤ w.from b = W.rises a b h.0 in
    let g = f (k - 1) in (
      omega arith,
      served_monotone k w W (again k w free a ∷ free) (again k w free' b ∷ free') arrivals bs (more _ _ free free' (omega arith) f) h.1,
    )

pub served_lawful : (k : ℕ) (w : Pace) → Steady w → Lawful (served k w [])
served_lawful k w W =
    record {
      in_order = λ arrivals r. served_rising k w W 0 0 [] arrivals (λ i. omega arith) (omega arith) (omega arith) r;
      one_each = λ arrivals r. served_length k w [] arrivals;
      later = λ arrivals r. served_later k w W [] arrivals;
      causal = λ arrivals n r. served_causal k w [] arrivals n;
      monotone = λ arrivals bs e r s b. served_monotone k w W [] [] arrivals bs (λ i. omega arith) b;
    }

pub machine_steady : (p : ℕ) → 1 ≤ p → Steady (machine p)
machine_steady p h = record { rises = λ a b l. l; waits = λ a. omega arith; stays = h }

pub oven_steady : (t p : ℕ) → 1 ≤ t → 1 ≤ p → Steady (oven t p)
oven_steady t p h k =
    record {
      rises = λ a c l. mul-le-mul_right t (le-div ((a + (t - 1)) / t) (c + (t - 1)) t h (omega (arith, div-mul-le_self (a + (t - 1)) t)));
      waits = λ a. let m = mod-lt (a + (t - 1)) h in omega (arith, div-add-mod' (a + (t - 1)) t);
      stays = k;
    }
