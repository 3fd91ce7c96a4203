-- One more event is placed.
use Rattle.std.proofs.Common.{◌≡◌, ℕ, zero, suc, ◌+◌, ◌<◌, ◌≤◌, Bool, true, false, ◌||◌, eqb, List, [], ◌∷◌, ◌++◌, length, get_or, take, set, Some, Option, sym, refl, ap, ◌∙◌, subst, subst₂, inl, inr, arith, length-append, length-set, eq-eqb, ne_eqb}
use borrow.Author.Tests.{clash}
use lib.ListN.{get_or-append}
use lib.Seq.{take-append_seam, take-append-le}
use Rattle.std.proofs.lemmas.List.{get_or_push, get_or-set_same, get_or-set_other}
use Rattle.std.proofs.lemmas.Bool.{cases_eq, or_right}
use Rattle.controls.specs.declared.events.Event.{Event}
use Rattle.controls.specs.declared.events.Event.TheVariants.{Pass, Release, Completion, Delivery}
use Rattle.controls.specs.declared.events.Wait.{Wait}
use Rattle.controls.specs.declared.events.Wait.TheVariants.{Call, After}
use Rattle.std.specs.List.{AllByRecursion}
use Rattle.controls.specs.Events.{InLine, Waits, SourceIn}
use Rattle.lines.specs.declared.asking.WaitTable.{WaitTable}
use Rattle.lines.specs.Sheet.{row_of}
use Rattle.lines.specs.Tables.{table_waits}
use Rattle.lines.specs.Asked.{asked}
use Rattle.lines.specs.Order.{SourcePlaced, Ready, placed_by, Next, among, Follows, Begun, InOrder, Orderly}
use Rattle.controls.proofs.Basics.{each_map₂}
use Rattle.lines.proofs.Ends.{row_few}
use Rattle.lines.proofs.Kept.{inside_of, steps_of}
use Rattle.lines.proofs.Placing.{all_placed_by}

-- how many flags are down
abbrev pub downs : List Bool → ℕ
downs [] = 0
downs (true ∷ bs) = downs bs
downs (false ∷ bs) = suc (downs bs)

pub downs_set : (bs : List Bool) (r : ℕ) → r < length bs → get_or bs r false ≡ false → downs (set bs r true) + 1 ≡ downs bs
downs_set [] r h d = absurd (omega arith)
downs_set (true ∷ bs) zero h d = absurd (clash (sym d))
downs_set (false ∷ bs) zero h d = omega arith
downs_set (true ∷ bs) (suc r) h d = downs_set bs r (omega arith) d
downs_set (false ∷ bs) (suc r) h d = let i = downs_set bs r (omega arith) d in omega arith

or_assoc : (a b c : Bool) → (a || (b || c)) ≡ ((a || b) || c)
or_assoc true b c = refl
or_assoc false b c = refl

pub or_none : (a : Bool) → (a || false) ≡ a
or_none true = refl
or_none false = refl

pub among_push : (N : ℕ) (es : List Event) (e f : Event) → among N (es ++ (e ∷ [])) f ≡ (among N es f || eqb (row_of N e) (row_of N f))
among_push N [] e f = or_none (eqb (row_of N e) (row_of N f))
among_push N (x ∷ es) e f = ap (λ b. eqb (row_of N x) (row_of N f) || b) (among_push N es e f) ∙ or_assoc (eqb (row_of N x) (row_of N f)) (among N es f) (eqb (row_of N e) (row_of N f))

-- the flags tell what stands in the order
abbrev pub Shows : ℕ → List Bool → List Event → Type 0
Shows N flags es = (f : Event) → InLine N f → placed_by N flags f ≡ among N es f

pub tells_more : (N : ℕ) (flags : List Bool) (es : List Event) (e : Event) → row_of N e < length flags → Shows N flags es → Shows N (set flags (row_of N e) true) (es ++ (e ∷ []))
tells_more N flags es e h tells f f-in = elim (cases_eq (row_of N f) (row_of N e)) [
  | inl q ↦ ap (λ r. get_or (set flags (row_of N e) true) r false) q ∙ get_or-set_same flags (row_of N e) true false h ∙
      sym (among_push N es e f ∙ or_right (among N es f) (eqb (row_of N e) (row_of N f)) (eq-eqb (row_of N e) (row_of N f) (sym q)))
  | inr d ↦ get_or-set_other flags (row_of N e) (row_of N f) true false d ∙ tells f f-in ∙
      sym (among_push N es e f ∙ ap (λ b. among N es f || b) (ne_eqb (row_of N e) (row_of N f) (λ x. d (sym x))) ∙ or_none (among N es f))
]

source_told : (N : ℕ) (p q : Event → Bool) → ((f : Event) → InLine N f → p f ≡ q f) → (w : Wait) → SourcePlaced p w → SourceIn N w → SourcePlaced q w
source_told N p q same Call h k = tt
source_told N p q same (After s L) h k = λ z. sym (same s k) ∙ h z

pub ready_same : (N : ℕ) (waits : Event → List Wait) (p q : Event → Bool) → ((f : Event) → InLine N f → p f ≡ q f) →
    ((e : Event) → InLine N e → Waits e → AllByRecursion (SourceIn N) (waits e)) → (e : Event) → InLine N e → Ready waits p e → Ready waits q e
ready_same N waits p q same inside (Pass i) h r = each_map₂ (waits (Pass i)) (source_told N p q same) r (inside (Pass i) h tt)
ready_same N waits p q same inside (Release i) h r = each_map₂ (waits (Release i)) (source_told N p q same) r (inside (Release i) h tt)
ready_same N waits p q same inside (Completion i) h r = sym (same (Release i) h) ∙ r
ready_same N waits p q same inside Delivery h r = each_map₂ (waits Delivery) (source_told N p q same) r (inside Delivery h tt)

pub begun_more : (N : ℕ) (waits : Event → List Wait) (es : List Event) (e : Event) → Begun N waits es → Follows N waits es e → Begun N waits (es ++ (e ∷ []))
begun_more N waits es e begun follows = record {
  each = λ k l.
      let sz : length (es ++ (e ∷ [])) ≡ length es + 1 = length-append es (e ∷ []) in
      elim (cases_eq k (length es)) [
        | inl q ↦ subst₂ (Follows N waits)
            (sym (ap (λ j. take j (es ++ (e ∷ []))) q ∙ take-append_seam es (e ∷ [])))
            (sym (get_or_push es e Delivery k (sym q))) follows
        | inr d ↦ let l' : k < length es = omega arith in
            subst₂ (Follows N waits) (sym (take-append-le k es (e ∷ []) (omega arith))) (sym (get_or-append es (e ∷ []) Delivery k l')) (begun.each k l')
      ];
}

-- what was found next follows
pub follows_next : (N : ℕ) (waits : Event → List Wait) (flags : List Bool) (es : List Event) (e : Event) → Shows N flags es →
    ((e : Event) → InLine N e → Waits e → AllByRecursion (SourceIn N) (waits e)) → InLine N e → placed_by N flags e ≡ false → Ready waits (placed_by N flags) e → Follows N waits es e
follows_next N waits flags es e tells inside e_in new ready = record {
  inside = e_in;
  new = sym (tells e e_in) ∙ new;
  ready = ready_same N waits (placed_by N flags) (among N es) tells inside e e_in ready;
}

-- where it found none, all is placed
pub in_order : (N : ℕ) (told : List (List (Option Wait))) (flags : List Bool) (es : List Event) → ∥ Orderly N told ∥₁ → Shows N flags es → Begun N (asked N told) es →
    ((e : Event) → InLine N e → Ready (asked N told) (placed_by N flags) e → placed_by N flags e ≡ true) → InOrder N (asked N told) es
in_order N told flags es kept tells begun stuck = record {
  begun = begun;
  all = λ e e_in. sym (tells e e_in) ∙ all_placed_by (steps_of N told kept) (inside_of N told kept) (placed_by N flags) stuck e e_in;
}

-- what holds at the start of a turn
abbrev pub Turn : ℕ → (Event → List Wait) → List Bool → List Event → Type 0
Turn N waits flags es = (length flags ≡ 25) × (length es + downs flags ≡ 25) × Shows N flags es × Begun N waits es

-- of an event found next the flag is down, and goes up
pub turn_down : (N : ℕ) (waits : Event → List Wait) (flags : List Bool) (es : List Event) (e : Event) (r : ℕ) → Turn N waits flags es →
    Next N waits (placed_by N flags) (Some e) → r ≡ row_of N e → r < 25 → downs (set flags r true) + 1 ≡ downs flags
turn_down N waits flags es e r t found is lt = downs_set flags r (omega (arith, t.0)) (ap (λ x. get_or flags x false) is ∙ found.1)

-- an event found next stands in a row that the flags have
row_in : (N r : ℕ) (e : Event) → N ≤ 8 → InLine N e → r ≡ row_of N e → r < 25
row_in N r e few e_in is = let f = row_few N e e_in in omega arith

module _ (N : ℕ) (few : N ≤ 8) (waits : Event → List Wait) (flags : List Bool) (es : List Event) (e : Event) (r : ℕ) (t : Turn N waits flags es)
    (found : Next N waits (placed_by N flags) (Some e)) (is : r ≡ row_of N e) where
  lt : r < 25
  lt = row_in N r e few found.0 is

  down : downs (set flags r true) + 1 ≡ downs flags
  down = turn_down N waits flags es e r t found is lt

  pub fewer_down : downs (set flags r true) < downs flags
  fewer_down = omega (arith, down)

  pub has_room : length es < 25
  has_room = omega (arith, down, t.1)

  pub turn_more : ((e : Event) → InLine N e → Waits e → AllByRecursion (SourceIn N) (waits e)) → Turn N waits (set flags r true) (es ++ (e ∷ []))
  turn_more inside = (
    length-set flags r true ∙ t.0,
    (let more = length-append es (e ∷ []) in omega (arith, more, down, t.1)),
    subst (λ x. Shows N (set flags x true) (es ++ (e ∷ []))) (sym is) (tells_more N flags es e (subst (λ x. x < length flags) is (omega (arith, lt, t.0))) t.2),
    begun_more N waits es e t.3 (follows_next N waits flags es e t.2 inside found.0 found.1 found.2),
  )

-- the same event is next by a table that is the same
pub next_by :
    (t u : WaitTable) → t ≡ u → (flags : List Bool) (o : Option Event)
    → Next t.stages.count (table_waits t) (placed_by t.stages.count flags) o → Next u.stages.count (table_waits u) (placed_by u.stages.count flags) o
next_by t u is flags o h = subst (λ (x : WaitTable). Next x.stages.count (table_waits x) (placed_by x.stages.count flags) o) is h
