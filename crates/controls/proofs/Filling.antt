-- A table that is filled minute by minute.
use Rattle.std.proofs.Common.{◌≡◌, ℕ, suc, ◌-◌, ◌≤◌, Bool, true, false, ◌⊎◌, List, [], ◌∷◌, map, length, take, sym, refl, ap, ◌∙◌, subst, inl, inr, arith, length-take-le, ext_get_or}
use Rattle.std.specs.List.{AllByRecursion}
use native.Mathlib.Decide.{ℕ_discrete}
use Rattle.stations.specs.declared.numbers.StageNo.{StageNo}
use Rattle.controls.specs.declared.events.Event.{Event}
use Rattle.controls.specs.declared.events.Event.TheVariants.{Release, Completion}
use Rattle.controls.specs.declared.events.Wait.{Wait}
use Rattle.controls.specs.declared.events.Wait.TheVariants.{Call, After}
use Rattle.controls.specs.Events.{InLine, Waits, SourceIn}
use Rattle.controls.specs.Filling.{SourceKnown, Filled}
use Rattle.controls.specs.Lists.{latest}
use Rattle.controls.specs.Times.{Row, Table, wait_end, TimesOf}
use Rattle.stations.specs.Lists.{at}
use Rattle.controls.proofs.Basics.{at_take, each_map₂}
use borrow.Author.Tests.{clash}

pub same_latest : {A : Type 0} (f g : A → ℕ) (ws : List A) → AllByRecursion (λ w. f w ≡ g w) ws → latest (map f ws) ≡ latest (map g ws)
same_latest f g [] h = refl
same_latest f g (w ∷ ws) h = let r = same_latest f g ws h.1 in omega arith

pub same_front :
    (xs ys : List ℕ) (n : ℕ) → n ≤ length xs → length xs ≡ length ys → ((j : ℕ) → j ≤ n → at xs j ≡ at ys j)
    → take n xs ≡ take n ys
same_front xs ys n h sz same =
    let a : length (take n xs) ≡ n = length-take-le n xs h in
    let b : length (take n ys) ≡ n = length-take-le n ys (omega arith) in
    ext_get_or 0 (take n xs) (take n ys) (a ∙ sym b) (λ p l.
    let l' : suc p ≤ n = omega arith in at_take n xs (suc p) l' ∙ same (suc p) l' ∙ sym (at_take n ys (suc p) l'))

module _ {Known : Event → ℕ → Type 0} {N : ℕ} {waits : Event → List Wait} {row : Row} {calls : List ℕ} {t : Table}
    (times : TimesOf Known N waits row calls t) (filled : Filled N waits (length calls) Known)
    (inside : (e : Event) → InLine N e → Waits e → AllByRecursion (SourceIn N) (waits e)) where
  -- What is written past the known minutes leaves them the times that they are.
  pub known_kept :
      (u : Table) → ((e : Event) → InLine N e → length (u e) ≡ length (t e))
      → ((e : Event) (n : ℕ) → InLine N e → Known e n → at (u e) n ≡ at (t e) n) → TimesOf Known N waits row calls u
  known_kept u sizes same = record {
    sized = λ e e_in. sizes e e_in ∙ times.sized e e_in;
    waited = λ e e_in we n pos known. same e n e_in known ∙ times.waited e e_in we n pos known ∙
        same_latest (wait_end calls t n) (wait_end calls u n) (waits e) (each_map₂ (waits e) (ends n) (inside e e_in we) (filled.source e n e_in we pos known));
    completed = λ i i_in n known.
        front (Completion i) n i_in known ∙ times.completed i i_in n known ∙ ap (row i) (sym (front (Release i) n i_in (filled.release i n i_in known)));
  }
    where
      ends : (n : ℕ) (w : Wait) → SourceIn N w → SourceKnown Known n w → wait_end calls t n w ≡ wait_end calls u n w
      ends n Call a b = refl
      ends n (After s L) a b = sym (same s (n - L) a b)

      front : (e : Event) (n : ℕ) → InLine N e → Known e n → take n (u e) ≡ take n (t e)
      front e n e_in known =
          let sz = sizes e e_in in let sz' = times.sized e e_in in let w = filled.within e n e_in known in
          same_front (u e) (t e) n (omega arith) sz (λ j jn. same e j e_in (filled.down e n j e_in jn known))

-- The minutes of m parts, and of part m + 1 those of the placed events.
abbrev pub UpTo : ℕ → (Event → Bool) → Event → ℕ → Type 0
UpTo m p e n = (n ≤ m) ⊎ ((n ≡ suc m) × (p e ≡ true))

-- The event e is placed as well: its minute is the latest of its waits, or the departure.
pub placed_more :
    {N : ℕ} {waits : Event → List Wait} {row : Row} {calls : List ℕ} {t : Table} (m : ℕ) (p q : Event → Bool) (e : Event)
    → TimesOf (UpTo m p) N waits row calls t → ((f : Event) → InLine N f → q f ≡ true → (p f ≡ true) ⊎ (f ≡ e))
    → (Waits e → at (t e) (suc m) ≡ latest (map (wait_end calls t (suc m)) (waits e)))
    → ((i : StageNo) → e ≡ Completion i → take (suc m) (t (Completion i)) ≡ row i (take (suc m) (t (Release i))))
    → TimesOf (UpTo m q) N waits row calls t
placed_more {waits = waits} {row = row} {calls = calls} {t = t} m p q e times split waited completed = record {
  sized = times.sized;
  waited = λ f f-in wf n pos. elim [
    | inl h ↦ times.waited f f-in wf n pos (inl h)
    | inr h ↦ elim (split f f-in h.1) [
      | inl k ↦ times.waited f f-in wf n pos (inr (h.0, k))
      | inr s ↦ subst (λ k. at (t f) k ≡ latest (map (wait_end calls t k) (waits f))) (sym h.0)
          (subst (λ x. Waits x → at (t x) (suc m) ≡ latest (map (wait_end calls t (suc m)) (waits x))) (sym s) waited wf)
    ]
  ];
  completed = λ i i_in n. elim [
    | inl h ↦ times.completed i i_in n (inl h)
    | inr h ↦ elim (split (Completion i) i_in h.1) [
      | inl k ↦ times.completed i i_in n (inr (h.0, k))
      | inr s ↦ subst (λ k. take k (t (Completion i)) ≡ row i (take k (t (Release i)))) (sym h.0) (completed i (sym s))
    ]
  ];
}

-- Where all are placed, part m + 1 is done.
pub part_done :
    {N : ℕ} {waits : Event → List Wait} {row : Row} {calls : List ℕ} {t : Table} (m : ℕ) (p q : Event → Bool)
    → ((e : Event) → InLine N e → p e ≡ true) → ((e : Event) → InLine N e → q e ≡ false)
    → TimesOf (UpTo m p) N waits row calls t → TimesOf (UpTo (suc m) q) N waits row calls t
part_done {N = N} m p q all none times = record {
  sized = times.sized;
  waited = λ f f-in wf n pos k. times.waited f f-in wf n pos (back f f-in n k);
  completed = λ i i_in n k. times.completed i i_in n (back (Completion i) i_in n k);
}
  where
    back : (f : Event) → InLine N f → (n : ℕ) → UpTo (suc m) q f n → UpTo m p f n
    back f f-in n (inl h) = elim (ℕ_discrete n (suc m)) [ yes z ↦ inr (z, all f f-in) | no nz ↦ inl (omega arith) ]
    back f f-in n (inr h) = absurd (clash (sym (none f f-in) ∙ h.1))
