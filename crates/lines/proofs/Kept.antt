-- What a table of waits keeps of their order, and a plan of its events: facts that have one proof.
use Rattle.std.proofs.Common.{ℕ, Bool, true, List, [], ◌∷◌, Option}
use Rattle.std.proofs.Math.Bool.{Bool-set}
use Rattle.std.proofs.Math.Logic.{∥∥₁_elim, ∥∥₁_map}
use Rattle.std.specs.Coded.{×_prop, Π_prop, Unit-prop, le_prop}
use Rattle.controls.specs.declared.events.Event.{Event}
use Rattle.controls.specs.declared.events.Event.TheVariants.{Pass, Release, Completion, Delivery}
use Rattle.controls.specs.declared.events.Wait.{Wait}
use Rattle.controls.specs.declared.events.Wait.TheVariants.{Call, After}
use Rattle.controls.specs.Control.{Steps}
use Rattle.controls.specs.Events.{InLine, Waits, SourceIn}
use Rattle.std.specs.List.{AllByRecursion}
use Rattle.lines.specs.Asked.{asked}
use Rattle.lines.specs.Order.{Orderly, SourcePlaced, Ready, Follows, Begun, InOrder, among}

in_line_prop : (N : ℕ) (e : Event) → IsProp (InLine N e)
in_line_prop N (Pass i) = ×_prop le_prop le_prop
in_line_prop N (Release i) = ×_prop le_prop le_prop
in_line_prop N (Completion i) = ×_prop le_prop le_prop
in_line_prop N Delivery = Unit-prop

each_prop : (P : Wait → Type 0) → ((w : Wait) → IsProp (P w)) → (ws : List Wait) → IsProp (AllByRecursion P ws)
each_prop P is [] = Unit-prop
each_prop P is (w ∷ ws) = ×_prop (is w) (each_prop P is ws)

source_in_prop : (N : ℕ) (w : Wait) → IsProp (SourceIn N w)
source_in_prop N Call = Unit-prop
source_in_prop N (After s L) = in_line_prop N s

source_placed_prop : (p : Event → Bool) (w : Wait) → IsProp (SourcePlaced p w)
source_placed_prop p Call = Unit-prop
source_placed_prop p (After s L) = Π_prop (λ z. Bool-set (p s) true)

ready_prop : (waits : Event → List Wait) (p : Event → Bool) (e : Event) → IsProp (Ready waits p e)
ready_prop waits p (Pass i) = each_prop (SourcePlaced p) (source_placed_prop p) (waits (Pass i))
ready_prop waits p (Release i) = each_prop (SourcePlaced p) (source_placed_prop p) (waits (Release i))
ready_prop waits p (Completion i) = Bool-set (p (Release i)) true
ready_prop waits p Delivery = each_prop (SourcePlaced p) (source_placed_prop p) (waits Delivery)

follows_prop : (N : ℕ) (waits : Event → List Wait) (before : List Event) (e : Event) → IsProp (Follows N waits before e)
follows_prop N waits before e x y = λ i. record {
  inside = in_line_prop N e x.inside y.inside i;
  new = Bool-set _ _ x.new y.new i;
  ready = ready_prop waits (among N before) e x.ready y.ready i;
}

begun_prop : (N : ℕ) (waits : Event → List Wait) (es : List Event) → IsProp (Begun N waits es)
begun_prop N waits es x y = λ i. record { each = λ k h. follows_prop N waits _ _ (x.each k h) (y.each k h) i }

in_order_prop : (N : ℕ) (waits : Event → List Wait) (es : List Event) → IsProp (InOrder N waits es)
in_order_prop N waits es x y = λ i. record {
  begun = begun_prop N waits es x.begun y.begun i;
  all = λ e e_in. Bool-set _ _ (x.all e e_in) (y.all e e_in) i;
}

-- the order of a plan
pub order_of : (N : ℕ) (waits : Event → List Wait) (es : List Event) → ∥ InOrder N waits es ∥₁ → InOrder N waits es
order_of N waits es kept = ∥∥₁_elim kept (in_order_prop N waits es) (λ o. o)

-- the waits of a table are on events of the line
pub inside_of :
    (N : ℕ) (told : List (List (Option Wait))) → ∥ Orderly N told ∥₁ → (e : Event) → InLine N e → Waits e → AllByRecursion (SourceIn N) (asked N told e)
inside_of N told kept e e_in w = ∥∥₁_elim kept (each_prop (SourceIn N) (source_in_prop N) (asked N told e)) (λ o. o.inside e e_in w)

-- and leave no circle
pub steps_of : (N : ℕ) (told : List (List (Option Wait))) → ∥ Orderly N told ∥₁ → ∥ Steps N (asked N told) ∥₁
steps_of N told kept = ∥∥₁_map kept (λ o. o.steps)
