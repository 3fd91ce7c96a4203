-- Where nothing more can be placed, all is placed.
use Rattle.std.proofs.Common.{◌≡◌, ℕ, zero, suc, ◌+◌, ◌<◌, Bool, true, ◌&&◌, List, [], ◌∷◌, get_or, Some, None, Option, refl, ap, ◌∙◌, subst, inl, inr, not-suc-le-zero, lt-suc_self, arith}
use Rattle.stations.specs.declared.numbers.StageNo.{StageNo}
use Rattle.controls.specs.declared.events.Event.{Event}
use Rattle.controls.specs.declared.events.Event.TheVariants.{Pass, Release, Completion, Delivery}
use Rattle.controls.specs.declared.events.Wait.{Wait}
use Rattle.controls.specs.declared.events.Wait.TheVariants.{Call, After}
use Rattle.controls.specs.Lists.{somes}
use Rattle.controls.specs.Control.{StepFits, Steps}
use Rattle.controls.specs.Events.{InLine, Waits, SourceIn}
use Rattle.lines.specs.Asked.{asked}
use Rattle.lines.specs.Order.{SourcePlaced, Ready, source_placed}
use Rattle.lines.specs.Sheet.{row_of}
use Rattle.std.specs.List.{list_all, AllByRecursion}
use Rattle.std.proofs.Math.Bool.{Bool-set}
use Rattle.std.proofs.Math.Logic.{∥∥₁_elim}
use Rattle.std.proofs.lemmas.Bool.{cases_eq, and_parts}
use Rattle.controls.proofs.Basics.{each_map₂}

module _ {N : ℕ} {waits : Event → List Wait} (steps : Steps N waits)
    (inside : (e : Event) → InLine N e → Waits e → AllByRecursion (SourceIn N) (waits e))
    (p : Event → Bool) (stuck : (e : Event) → InLine N e → Ready waits p e → p e ≡ true) where
  Below : ℕ → Type 0
  Below k = (f : Event) → InLine N f → steps.step f < k → p f ≡ true

  placed_source : (k : ℕ) → Below k → (e : Event) → steps.step e < suc k → (w : Wait) → StepFits steps.step e w → SourceIn N w → SourcePlaced p w
  unfolding Below
  placed_source k below e h Call a b = tt
  placed_source k below e h (After s L) a b = λ z. let l = a z in below s b (omega arith)

  ready : (k : ℕ) → Below k → (e : Event) → steps.step e < suc k → InLine N e → Waits e → AllByRecursion (SourcePlaced p) (waits e)
  ready k below e h e_in we = each_map₂ (waits e) (placed_source k below e h) (steps.fits e e_in we) (inside e e_in we)

  one_more : (k : ℕ) → Below k → Below (suc k)
  unfolding Below
  one_more k below (Pass i) e_in h = stuck (Pass i) e_in (ready k below (Pass i) h e_in tt)
  one_more k below (Release i) e_in h = stuck (Release i) e_in (ready k below (Release i) h e_in tt)
  one_more k below (Completion i) e_in h = let d = steps.done i e_in in stuck (Completion i) e_in (below (Release i) e_in (omega arith))
  one_more k below Delivery e_in h = stuck Delivery tt (ready k below Delivery h tt tt)

  below_all : (k : ℕ) → Below k
  unfolding Below
  below_all zero e e_in h = absurd (not-suc-le-zero h)
  below_all (suc k) e e_in h = one_more k (below_all k) e e_in h

  pub all_placed : (e : Event) → InLine N e → p e ≡ true
  unfolding Below
  all_placed e e_in = below_all (suc (steps.step e)) e e_in (lt-suc_self (steps.step e))

-- the same, whatever the steps are
pub all_placed_by :
    {N : ℕ} {waits : Event → List Wait} → ∥ Steps N waits ∥₁ → ((e : Event) → InLine N e → Waits e → AllByRecursion (SourceIn N) (waits e))
    → (p : Event → Bool) → ((e : Event) → InLine N e → Ready waits p e → p e ≡ true) → (e : Event) → InLine N e → p e ≡ true
all_placed_by kept inside p stuck e e_in = ∥∥₁_elim kept (Bool-set (p e) true) (λ steps. all_placed steps inside p stuck e e_in)

-- the test tells whether all sources of lag 0 are placed
pub placed_each : (p : Event → Bool) (os : List (Option Wait)) → list_all (source_placed p) os ≡ true → AllByRecursion (SourcePlaced p) (somes os)
placed_each p [] h = tt
placed_each p (None ∷ os) h = placed_each p os h
placed_each p (Some Call ∷ os) h = (tt, placed_each p os h)
placed_each p (Some (After s zero) ∷ os) h =
    let both = and_parts (p s) (list_all (source_placed p) os) h in (λ z. both.0, placed_each p os both.1)
placed_each p (Some (After s (suc L)) ∷ os) h = (λ z. absurd (omega arith), placed_each p os h)

pub each_placed : (p : Event → Bool) (os : List (Option Wait)) → AllByRecursion (SourcePlaced p) (somes os) → list_all (source_placed p) os ≡ true
each_placed p [] h = refl
each_placed p (None ∷ os) h = each_placed p os h
each_placed p (Some Call ∷ os) h = each_placed p os h.1
each_placed p (Some (After s zero) ∷ os) h = ap (λ b. b && list_all (source_placed p) os) (h.0 refl) ∙ each_placed p os h.1
each_placed p (Some (After s (suc L)) ∷ os) h = each_placed p os h.1

pub ready_waits : (waits : Event → List Wait) (p : Event → Bool) (e : Event) → Waits e → AllByRecursion (SourcePlaced p) (waits e) → Ready waits p e
ready_waits waits p (Pass i) w h = h
ready_waits waits p (Release i) w h = h
ready_waits waits p (Completion i) w h = absurd w
ready_waits waits p Delivery w h = h

pub waits_ready : (waits : Event → List Wait) (p : Event → Bool) (e : Event) → Waits e → Ready waits p e → AllByRecursion (SourcePlaced p) (waits e)
waits_ready waits p (Pass i) w h = h
waits_ready waits p (Release i) w h = h
waits_ready waits p (Completion i) w h = absurd w
waits_ready waits p Delivery w h = h

-- an event is ready if its waits pass the test, and only then
pub ready_if :
    (N : ℕ) (told : List (List (Option Wait))) (p : Event → Bool) (e : Event) → Waits e
    → list_all (source_placed p) (get_or told (row_of N e) []) ≡ true → Ready (asked N told) p e
ready_if N told p e w h = ready_waits (asked N told) p e w (placed_each p (get_or told (row_of N e) []) h)

pub if_ready :
    (N : ℕ) (told : List (List (Option Wait))) (p : Event → Bool) (e : Event) → Waits e → Ready (asked N told) p e
    → list_all (source_placed p) (get_or told (row_of N e) []) ≡ true
if_ready N told p e w r = each_placed p (get_or told (row_of N e) []) (waits_ready (asked N told) p e w r)

pub same_stage : (i j : StageNo) → i.0 ≡ j.0 → i ≡ j
same_stage i j h = λ k. record { 0 = h k }

pub same_row : (N : ℕ) (e f : Event) → InLine N e → InLine N f → row_of N e ≡ row_of N f → e ≡ f
same_row N (Pass i) (Pass j) a b h = ap Pass (same_stage i j (omega arith))
same_row N (Pass i) (Release j) a b h = absurd (omega arith)
same_row N (Pass i) (Completion j) a b h = absurd (omega arith)
same_row N (Pass i) Delivery a b h = absurd (omega arith)
same_row N (Release i) (Pass j) a b h = absurd (omega arith)
same_row N (Release i) (Release j) a b h = ap Release (same_stage i j (omega arith))
same_row N (Release i) (Completion j) a b h = absurd (omega arith)
same_row N (Release i) Delivery a b h = absurd (omega arith)
same_row N (Completion i) (Pass j) a b h = absurd (omega arith)
same_row N (Completion i) (Release j) a b h = absurd (omega arith)
same_row N (Completion i) (Completion j) a b h = ap Completion (same_stage i j (omega arith))
same_row N (Completion i) Delivery a b h = absurd (omega arith)
same_row N Delivery (Pass j) a b h = absurd (omega arith)
same_row N Delivery (Release j) a b h = absurd (omega arith)
same_row N Delivery (Completion j) a b h = absurd (omega arith)
same_row N Delivery Delivery a b h = refl

-- one more row is looked at
pub looked : (N : ℕ) (waits : Event → List Wait) (p : Event → Bool) (r : ℕ) (f : Event) → InLine N f → row_of N f ≡ r →
    ((e : Event) → InLine N e → row_of N e < r → Ready waits p e → p e ≡ true) → (Ready waits p f → p f ≡ true) →
    (e : Event) → InLine N e → row_of N e < r + 1 → Ready waits p e → p e ≡ true
looked N waits p r f f-in at before here e e_in l ready =
    elim (cases_eq (row_of N e) r) [
      | inl q ↦ let same : f ≡ e = same_row N f e f-in e_in (omega arith) in subst (λ x. Ready waits p x → p x ≡ true) same here ready
      | inr d ↦ before e e_in (omega arith) ready
    ]
