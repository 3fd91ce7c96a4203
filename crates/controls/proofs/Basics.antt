-- Induction over parts and, within a part, over steps; and what `at`, `latest` and `Each` give.
use Rattle.std.proofs.Common.{◌≡◌, ℕ, zero, suc, ◌-◌, ◌<◌, ◌≤◌, ◌⊎◌, List, [], ◌∷◌, map, take, sym, refl, subst, inl, inr, not-suc-le-zero, lt-suc_self, arith, get_or-take}
use Rattle.std.specs.List.{AllByRecursion, AllZip}
use native.Mathlib.Decide.{ℕ_discrete}
use Rattle.controls.specs.Lists.{latest}
use Rattle.stations.specs.Lists.{at}

-- The event f of part j is worked out before the event e of part n.
abbrev pub Before : {A : Type 0} → (A → ℕ) → A → ℕ → A → ℕ → Type 0
Before step f j e n = (j < n) ⊎ ((j ≡ n) × (step f < step e))

module _ {A : Type 0} (step : A → ℕ) (P : A → ℕ → Type 0) (next : (e : A) (n : ℕ) → ((f : A) (j : ℕ) → Before step f j e n → P f j) → P e n) where
  in_part : (n : ℕ) → ((j : ℕ) → j < n → (f : A) → P f j) → (k : ℕ) (e : A) → step e < k → P e n
  in_part n before zero e h = absurd (not-suc-le-zero h)
  in_part n before (suc k) e h =
      next e n (λ f j. elim [ inl l ↦ before j l f | inr p ↦ subst (P f) (sym p.0) (in_part n before k f (omega arith)) ])

  parts_below : (n j : ℕ) → j < n → (f : A) → P f j
  parts_below zero j h f = absurd (not-suc-le-zero h)
  parts_below (suc n) j h f = in_part j (λ i l g. parts_below n i (omega arith) g) (suc (step f)) f (lt-suc_self (step f))

  pub by_parts_and_steps : (e : A) (n : ℕ) → P e n
  by_parts_and_steps e n = parts_below (suc n) n (lt-suc_self n) e

pub source_before :
    {A : Type 0} (step : A → ℕ) (f e : A) (n L : ℕ) → 1 ≤ n → (L ≡ 0 → step f < step e) → Before step f (n - L) e n
source_before step f e n L h fits =
    elim (ℕ_discrete L 0) [ yes z ↦ inr (omega arith, fits z) | no nz ↦ inl (omega arith) ]

pub at_take : (k : ℕ) (xs : List ℕ) (n : ℕ) → n ≤ k → at (take k xs) n ≡ at xs n
at_take k xs zero h = refl
at_take k xs (suc p) h = get_or-take k xs p 0 h

pub latest_mono : {A : Type 0} (f g : A → ℕ) (ws : List A) → AllByRecursion (λ w. f w ≤ g w) ws → latest (map f ws) ≤ latest (map g ws)
latest_mono f g [] h = omega arith
latest_mono f g (w ∷ ws) h = let r = latest_mono f g ws h.1 in omega arith

pub latest_below : {A : Type 0} (f : A → ℕ) (b : ℕ) (ws : List A) → AllByRecursion (λ w. f w ≤ b) ws → latest (map f ws) ≤ b
latest_below f b [] h = omega arith
latest_below f b (w ∷ ws) h = let r = latest_below f b ws h.1 in omega arith

pub latest_both :
    {A B : Type 0} (f : A → ℕ) (g : B → ℕ) (ws : List A) (vs : List B) → AllZip (λ w v. f w ≤ g v) ws vs
    → latest (map f ws) ≤ latest (map g vs)
latest_both f g [] [] h = omega arith
latest_both f g [] (v ∷ vs) h = absurd h
latest_both f g (w ∷ ws) [] h = absurd h
latest_both f g (w ∷ ws) (v ∷ vs) h = let r = latest_both f g ws vs h.1 in omega arith

pub each_map : {A : Type 0} {P Q : A → Type 0} (ws : List A) → ((w : A) → P w → Q w) → AllByRecursion P ws → AllByRecursion Q ws
each_map [] f h = tt
each_map (w ∷ ws) f h = (f w h.0, each_map ws f h.1)

pub each_map₂ : {A : Type 0} {P Q R : A → Type 0} (ws : List A) → ((w : A) → P w → Q w → R w) → AllByRecursion P ws → AllByRecursion Q ws → AllByRecursion R ws
each_map₂ [] f h k = tt
each_map₂ (w ∷ ws) f h k = (f w h.0 k.0, each_map₂ ws f h.1 k.1)

pub both_map :
    {A B : Type 0} {P : A → B → Type 0} {Q : B → A → Type 0} {R : B → Type 0} {S : A → B → Type 0} (ws : List A) (vs : List B)
    → ((w : A) (v : B) → P w v → Q v w → R v → S w v) → AllZip P ws vs → AllZip Q vs ws → AllByRecursion R vs → AllZip S ws vs
both_map [] [] f h k l = tt
both_map [] (v ∷ vs) f h k l = absurd h
both_map (w ∷ ws) [] f h k l = absurd h
both_map (w ∷ ws) (v ∷ vs) f h k l = (f w v h.0 k.0 l.0, both_map ws vs f h.1 k.1 l.1)
