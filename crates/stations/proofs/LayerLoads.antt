-- What a load of a layer answers, by what the station below answers.
use Rattle.std.specs.Prelude.{◌≡◌, ℕ, ◌≤◌, Bool, true, ◌||◌, ltb, map, IsErrAnd, Some, None, Ok, Err, Option, Result, nat_lt}
use Rattle.std.proofs.Common.{sym, ap, ◌∙◌, subst, arith}
use Rattle.std.proofs.Math.Path.{fun_ext}
use Rattle.std.proofs.lemmas.Bool.{or_from, or_right}
use Rattle.std.proofs.lemmas.Bool.Decides.{nat_tests}
use Rattle.calendar.specs.Clock.{E}
use Rattle.stations.specs.Layer.{Pass, Layer, through, layered}
use Rattle.stations.specs.Load.{number, refusal, Loaded}
use Rattle.stations.specs.Rule.{Meaning, before}
use Rattle.stations.specs.declared.loading.LoadFault.{LoadFault}
use Rattle.stations.specs.Layering.{rising_map, granted, grants}

-- what a layer refuses after a load of a is what comes before a
collapse : (f : ℕ → ℕ) → ((a b : ℕ) → a ≤ b → f a ≤ f b) → (a : ℕ) → ◌≡◌ {A = ℕ → Bool} (λ b. nat_lt b a || nat_lt (f b) (f a)) (λ b. ltb b a)
collapse f up a = fun_ext (λ b. let u = up a b in grind (arith, nat_tests))

-- a load on the clock is refused as too early, or not at all
pub too_early : (early : ℕ → Bool) (a n : ℕ) → a ≤ E → refusal early a ≡ Some n → (early a ≡ true) × (n ≡ 4)
too_early early a n h e = (grind (arith, nat_tests), grind (arith, nat_tests))

pub refuses_early : (early : ℕ → Bool) (a : ℕ) → a ≤ E → early a ≡ true → refusal early a ≡ Some 4
refuses_early early a h e = grind (arith, nat_tests)

pub layer_loads :
    (p : Pass) → Layer p → (own : Option ℕ) (m m' : Meaning) (a b d : ℕ) → refusal (before own) a ≡ None → b ≡ p.down a
    → Loaded m b (Ok d) m' → Loaded (layered p own m) a (Ok (p.up d)) (layered p (Some a) m')
layer_loads p L own m m' a b d h e l' =
    let P : ℕ → Type 0 = λ n. Loaded m n (Ok d) m' in
    let l : Loaded m (p.down a) (Ok d) m' = subst P e l' in
    let ok = granted (before own) a h in (
      grants (layered p own m).early a ok.0 (or_from _ _ ok.1 (granted m.early (p.down a) l.0).1),
      ap {B = ℕ → Bool} (λ (t : ℕ → Bool) b. nat_lt b a || t (p.down b)) l.1 ∙ collapse p.down L.down_rises a,
      ap (through p) l.2,
      λ arrivals r. ap (map p.up) (l.3 (map p.down arrivals) (rising_map p.down L.down_rises L.down_in a arrivals r)),
    )

-- the exit of a `?` after a refusal
pub exits :
    (m m' : Meaning) (a : ℕ) (r : Result ℕ LoadFault) (e : LoadFault) → IsErrAnd r (λ y. y ≡ e) → Loaded m a (Err e) m' → Loaded m a r m'
exits m m' a (Ok d) e h l = absurd h
exits m m' a (Err y) e h l = let P : LoadFault → Type 0 = λ z. Loaded m a (Err z) m' in subst P (sym h) l

-- the fault of the station below passes up
pub layer_passes :
    (p : Pass) → Layer p → (own : Option ℕ) (m m' : Meaning) (a b : ℕ) (r : Result ℕ LoadFault) (e : LoadFault)
    → refusal (before own) a ≡ None → b ≡ p.down a → Loaded m b (Err e) m' → IsErrAnd r (λ y. y ≡ e)
    → Loaded (layered p own m) a r (layered p own m')
layer_passes p L own m m' a b r e h is l x =
    let ok = granted (before own) a h in
    let k = too_early m.early (p.down a) (number e) (L.down_in a ok.0) (ap (refusal m.early) (sym is) ∙ l.0) in
    exits _ _ a r e x
    (refuses_early (layered p own m).early a ok.0 (or_right (before own a) _ k.0) ∙ ap {B = Option ℕ} Some (sym k.1), ap (layered p own) l.1)
