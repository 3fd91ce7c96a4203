-- Lawful counts have a table of times.
use Rattle.std.proofs.Common.{◌≡◌, ℕ, zero, suc, ◌+◌, ◌-◌, ◌<◌, ◌≤◌, List, ◌∷◌, map, length, take, sym, refl, ap, ◌∙◌, subst, inl, inr, arith, length-take-le, take-take, ext_get_or}
use Rattle.std.specs.List.{AllByRecursion, range_with_len}
use Rattle.std.proofs.lemmas.List.FromFn.{length-map-range_with_len, get_or-map-range_with_len, take-map-range_with_len}
use mathlib.Core.WellFounded.{Acc, WellFounded, fix, fix-eq}
use native.Mathlib.Decide.{ℕ_discrete, dec_lt}
use Rattle.stations.specs.declared.numbers.StageNo.{StageNo}
use Rattle.controls.specs.declared.events.Event.{Event}
use Rattle.controls.specs.declared.events.Event.TheVariants.{Pass, Release, Completion, Delivery}
use Rattle.controls.specs.declared.events.Wait.{Wait}
use Rattle.controls.specs.declared.events.Wait.TheVariants.{Call, After}
use Rattle.controls.proofs.Rules.{Granted, LawfulRules, lawful_rules, rising_granted}
use Rattle.controls.specs.Control.{Meaning, StepFits, Steps, LawfulControl}
use Rattle.controls.specs.Events.{IsStage, InLine, Waits, SourceIn}
use Rattle.controls.specs.Filling.{SourceKnown, Filled}
use Rattle.controls.specs.Lists.{latest}
use Rattle.controls.specs.Times.{Row, Table, wait_end, TimesOf, Times}
use Rattle.stations.specs.Lists.{at}
use Rattle.controls.specs.Claims.{Exist}
use Rattle.controls.proofs.Basics.{Before, by_parts_and_steps, source_before, at_take, each_map}
use Rattle.controls.proofs.Steady.{releases_granted}
use Rattle.controls.proofs.Filling.{same_latest}

-- The list of f 1 to f n.
abbrev list : (ℕ → ℕ) → ℕ → List ℕ
list f n = map f (range_with_len 1 n)

at_list : (f : ℕ → ℕ) → f 0 ≡ 0 → (m n : ℕ) → n ≤ m → at (list f m) n ≡ f n
at_list f z m zero h = sym z
at_list f z m (suc p) h = get_or-map-range_with_len f 1 m p (suc p) 0 h (omega arith)

same_list : (f g : ℕ → ℕ) (a n : ℕ) → ((j : ℕ) → j < a + n → f j ≡ g j) → map f (range_with_len a n) ≡ map g (range_with_len a n)
same_list f g a zero h = refl
same_list f g a (suc n) h = λ i. h a (omega arith) i ∷ same_list f g (a + 1) n (λ j l. h j (omega arith)) i

pick : {P : Type 0} → Dec P → (P → ℕ) → ℕ
pick (yes p) f = f p
pick (no n) f = 0

pick_is : {P : Type 0} (d : Dec P) (v : ℕ) → P → pick d (λ p. v) ≡ v
unfolding pick
pick_is (yes p) v h = refl
pick_is (no n) v h = absurd (n h)

before_trans :
    {A : Type 0} (step : A → ℕ) (a b c : A) (i j k : ℕ) → Before step a i b j → Before step b j c k → Before step a i c k
before_trans step a b c i j k (inl p) (inl q) = inl (omega arith)
before_trans step a b c i j k (inl p) (inr q) = inl (omega (arith, q.0))
before_trans step a b c i j k (inr p) (inl q) = inl (omega (arith, p.0))
before_trans step a b c i j k (inr p) (inr q) = inr (p.0 ∙ q.0, omega (arith, p.1, q.1))

abbrev Slot : Type 0
Slot = Event × ℕ

module _ (N : ℕ) (waits : Event → List Wait) (row : Row) (calls : List ℕ) (steps : Steps N waits)
    (inside : (e : Event) → InLine N e → Waits e → AllByRecursion (SourceIn N) (waits e)) (lawful : LawfulRules N row) (called : Granted calls) where
  abbrev Under : Slot → Slot → Type 0
  Under y x = Before steps.step y.0 y.1 x.0 x.1

  under : WellFounded Under
  under = record { apply = λ a. by_parts_and_steps steps.step (λ e n. Acc Under (e, n)) (λ e n ih. Acc.intro (e, n) (λ y b. ih y.0 y.1 b)) a.0 a.1 }

  is_under : (y x : Slot) → Dec (Under y x)
  is_under y x = elim (dec_lt y.1 x.1) [
    | yes l ↦ yes (inl l)
    | no nl ↦ elim (ℕ_discrete y.1 x.1) [
      | yes e ↦ elim (dec_lt (steps.step y.0) (steps.step x.0)) [ yes s ↦ yes (inr (e, s)) | no ns ↦ no (elim [ inl l ↦ nl l | inr p ↦ ns p.1 ]) ]
      | no ne ↦ no (elim [ inl l ↦ nl l | inr p ↦ ne p.0 ])
    ]
  ]

  ends : ℕ → (Slot → ℕ) → Wait → ℕ
  ends n g Call = at calls n
  ends n g (After s L) = g (s, n - L)

  -- The minute of an event from those before it.
  work : (Slot → ℕ) → ℕ → Event → ℕ
  work g zero e = 0
  work g (suc p) (Pass i) = latest (map (ends (suc p) g) (waits (Pass i)))
  work g (suc p) (Release i) = latest (map (ends (suc p) g) (waits (Release i)))
  work g (suc p) (Completion i) = at (row i (list (λ j. g (Release i, j)) (suc p))) (suc p)
  work g (suc p) Delivery = latest (map (ends (suc p) g) (waits Delivery))

  from : (x : Slot) → ((y : Slot) → Under y x → ℕ) → ℕ
  from x rec = work (λ y. pick (is_under y x) (rec y)) x.1 x.0

  minute : Event → ℕ → ℕ
  minute e n = fix under from (e, n)

  -- What the work sees: the minutes before.
  seen : Slot → Slot → ℕ
  seen x y = pick (is_under y x) (λ u. minute y.0 y.1)

  minute_is : (e : Event) (n : ℕ) → minute e n ≡ work (seen (e, n)) n e
  unfolding minute seen from
  minute_is e n = fix-eq under from (e, n)

  seen_is : (x y : Slot) → Under y x → seen x y ≡ minute y.0 y.1
  unfolding seen
  seen_is x y u = pick_is (is_under y x) (minute y.0 y.1) u

  minute_none : (e : Event) → minute e 0 ≡ 0
  unfolding work
  minute_none e = minute_is e 0

  table : Table
  table e = list (minute e) (length calls)

  at_table : (e : Event) (n : ℕ) → n ≤ length calls → at (table e) n ≡ minute e n
  unfolding table
  at_table e n h = at_list (minute e) (minute_none e) (length calls) n h

  worked : (g : Slot → ℕ) (p : ℕ) (e : Event) → Waits e → work g (suc p) e ≡ latest (map (ends (suc p) g) (waits e))
  unfolding work
  worked g p (Pass i) w = refl
  worked g p (Release i) w = refl
  worked g p (Completion i) w = absurd w
  worked g p Delivery w = refl

  ends_is :
      (e : Event) (n : ℕ) → 1 ≤ n → n ≤ length calls → (w : Wait) → StepFits steps.step e w
      → ends n (seen (e, n)) w ≡ wait_end calls table n w
  unfolding ends
  ends_is e n pos le Call h = refl
  ends_is e n pos le (After s L) h = seen_is (e, n) (s, n - L) (source_before steps.step s e n L pos h) ∙ sym (at_table s (n - L) (omega arith))

  waited :
      (e : Event) → InLine N e → Waits e → (n : ℕ) → 1 ≤ n → n ≤ length calls
      → at (table e) n ≡ latest (map (wait_end calls table n) (waits e))
  waited e e_in we zero pos le = absurd (omega arith)
  waited e e_in we (suc p) pos le =
      at_table e (suc p) le ∙ minute_is e (suc p) ∙ worked (seen (e, suc p)) p e we ∙
      same_latest (ends (suc p) (seen (e, suc p))) (wait_end calls table (suc p)) (waits e) (each_map (waits e) (ends_is e (suc p) pos le) (steps.fits e e_in we))

  released : (i : StageNo) → IsStage N i → (n j : ℕ) → j ≤ n → Before steps.step (Release i) j (Completion i) n
  released i i_in n j h = elim (ℕ_discrete j n) [ yes e ↦ inr (e, steps.done i i_in) | no ne ↦ inl (omega arith) ]

  departed :
      (i : StageNo) → IsStage N i → (n : ℕ) → 1 ≤ n → n ≤ length calls
      → at (table (Completion i)) n ≡ at (row i (take n (table (Release i)))) n
  unfolding work table
  departed i i_in zero pos le = absurd (omega arith)
  departed i i_in (suc p) pos le =
      at_table (Completion i) (suc p) le ∙ minute_is (Completion i) (suc p) ∙
      ap (λ xs. at (row i xs) (suc p))
      (same_list (λ j. seen (Completion i, suc p) (Release i, j)) (minute (Release i)) 1 (suc p) (λ j h. seen_is (Completion i, suc p) (Release i, j) (released i i_in (suc p) j (omega arith)))
      ∙ sym (take-map-range_with_len (minute (Release i)) 1 (length calls) (suc p) le))

  sized : (e : Event) → length (table e) ≡ length calls
  unfolding table
  sized e = length-map-range_with_len (minute e) 1 (length calls)

  abbrev Done : Event → ℕ → Type 0
  Done (Pass i) n = Unit
  Done (Release i) n = Unit
  Done (Completion i) n = IsStage N i → n ≤ length calls → take n (table (Completion i)) ≡ row i (take n (table (Release i)))
  Done Delivery n = Unit

  -- The minutes before a completion are times, so its releases are granted.
  module _ (i : StageNo) (n : ℕ) (i_in : IsStage N i) (le : n ≤ length calls) (before : (f : Event) (j : ℕ) → Before steps.step f j (Completion i) n → Done f j) where
    abbrev Known : Event → ℕ → Type 0
    Known f j = (j ≤ length calls) × Before steps.step f j (Completion i) n

    known_source : (e : Event) (m : ℕ) → 1 ≤ m → Known e m → (w : Wait) → StepFits steps.step e w → SourceKnown Known m w
    known_source e m pos k Call h = tt
    known_source e m pos k (After s L) h =
        (let l = k.0 in omega arith, before_trans steps.step s e (Completion i) (m - L) m n (source_before steps.step s e m L pos h) k.1)

    known_down : (e : Event) (m j : ℕ) → j ≤ m → Known e m → Known e j
    known_down e m j l k = elim (ℕ_discrete j m) [
      | yes z ↦ subst (Known e) (sym z) k
      | no nz ↦ (let a = k.0 in omega arith, before_trans steps.step e e (Completion i) j m n (inl (omega arith)) k.1)
    ]

    granted : Granted (take n (table (Release i)))
    granted = releases_granted times filled steps inside lawful called i n i_in (le, released i i_in n n (omega arith))
      where
        times : TimesOf Known N waits row calls table
        times = record {
          sized = λ e e_in. sized e;
          waited = λ e e_in we m pos k. waited e e_in we m pos k.0;
          completed = λ j j-in m k. before (Completion j) m k.1 j-in k.0;
        }

        filled : Filled N waits (length calls) Known
        filled = record {
          within = λ e m e_in k. k.0;
          down = λ e m j e_in l k. known_down e m j l k;
          source = λ e m e_in we pos k. each_map (waits e) (known_source e m pos k) (steps.fits e e_in we);
          release = λ j m j-in k. (k.0, before_trans steps.step (Release j) (Completion j) (Completion i) m m n (inr (refl, steps.done j j-in)) k.1);
        }

    complete : take n (table (Completion i)) ≡ row i (take n (table (Release i)))
    complete =
        let R = table (Release i) in
        let cs = table (Completion i) in
        let rule = lawful i i_in in
        let a : length (take n cs) ≡ n = length-take-le n cs (let s = sized (Completion i) in omega arith) in
        let r : length (take n R) ≡ n = length-take-le n R (let s = sized (Release i) in omega arith) in
        let b : length (row i (take n R)) ≡ n = rule.each (take n R) granted ∙ r in
        ext_get_or 0 (take n cs) (row i (take n R)) (a ∙ sym b) (λ p l.
        let h : suc p ≤ n = omega arith in
        at_take n cs (suc p) h ∙ departed i i_in (suc p) (omega arith) (omega arith) ∙
        ap (λ xs. at (row i xs) (suc p)) (sym (take-take (suc p) n R h)) ∙
        ap (λ xs. at xs (suc p)) (rule.causal (take n R) granted (suc p) (omega arith)) ∙
        at_take (suc p) (row i (take n R)) (suc p) (omega arith))

  done : (e : Event) (n : ℕ) → ((f : Event) (j : ℕ) → Before steps.step f j e n → Done f j) → Done e n
  done (Pass i) n before = tt
  done (Release i) n before = tt
  done (Completion i) n before = λ i_in le. complete i n i_in le before
  done Delivery n before = tt

  pub all_times : (t : Table) × Times N waits row calls t
  all_times = (
    table,
    record {
      sized = λ e e_in. sized e;
      waited = waited;
      completed = λ i i_in n le. by_parts_and_steps steps.step Done done (Completion i) n i_in le;
    },
  )

pub have_times : (C : Meaning) → LawfulControl C → Exist C
have_times C laws N K row calls set =
    all_times N (C.waits N K) row calls (laws.steps N K set.fits set.lawful) (laws.inside N K set.fits)
    (lawful_rules set.row_lawful) (rising_granted calls set.calls_lawful)
