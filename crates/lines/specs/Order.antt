use Rattle.std.specs.Prelude.{◌≡◌, ℕ, zero, suc, ◌<◌, ◌≤◌, Bool, true, false, ◌||◌, List, [], ◌∷◌, length, take, Some, None, Option, ◌==◌, slice_index_or}
use Rattle.controls.specs.declared.events.Event.{Event}
use Rattle.controls.specs.declared.events.Event.TheVariants.{Pass, Release, Completion, Delivery}
use Rattle.controls.specs.declared.events.Wait.{Wait}
use Rattle.controls.specs.declared.events.Wait.TheVariants.{Call, After}
use Rattle.controls.specs.Events.{InLine, Waits, SourceIn}
use Rattle.controls.specs.Control.{Steps}
use Rattle.std.specs.List.{AllByRecursion}
use Rattle.lines.specs.Asked.{asked}
use Rattle.lines.specs.Sheet.{row_of}

-- What an order needs of the waits that were told: they leave no circle within a part, are on events of the line, and few.
pub record Orderly (N : ℕ) (told : List (List (Option Wait))) : Type 0 where
  pub steps : Steps N (asked N told)
  pub inside : (e : Event) → InLine N e → Waits e → AllByRecursion (SourceIn N) (asked N told e)
  pub few : (row : ℕ) → length (slice_index_or told row []) ≤ 3

-- Which events are placed, by flags for the rows.
abbrev pub placed_by : ℕ → List Bool → Event → Bool
placed_by N flags e = slice_index_or flags (row_of N e) false

-- A wait of lag 0 is on an event that is placed.
abbrev pub SourcePlaced : (Event → Bool) → Wait → Type 0
SourcePlaced p Call = Unit
SourcePlaced p (After s L) = L ≡ 0 → p s ≡ true

-- The same of a wait that may be absent, as a test.
abbrev pub source_placed : (Event → Bool) → Option Wait → Bool
source_placed p None = true
source_placed p (Some Call) = true
source_placed p (Some (After s zero)) = p s
source_placed p (Some (After s (suc L))) = true

-- What an event needs of its own part is placed.
abbrev pub Ready : (Event → List Wait) → (Event → Bool) → Event → Type 0
Ready waits p (Pass i) = AllByRecursion (SourcePlaced p) (waits (Pass i))
Ready waits p (Release i) = AllByRecursion (SourcePlaced p) (waits (Release i))
Ready waits p (Completion i) = p (Release i) ≡ true
Ready waits p Delivery = AllByRecursion (SourcePlaced p) (waits Delivery)

-- An event that can be placed next; where there is none, every event that is ready is placed.
abbrev pub Next : ℕ → (Event → List Wait) → (Event → Bool) → Option Event → Type 0
Next N waits p (Some e) = InLine N e × (p e ≡ false) × Ready waits p e
Next N waits p None = (e : Event) → InLine N e → Ready waits p e → p e ≡ true

-- Whether the event is one of these.
abbrev pub among : ℕ → List Event → Event → Bool
among N [] e = false
among N (f ∷ fs) e = row_of N f == row_of N e || among N fs e

-- The event can follow those before: it is none of them, and what it needs of its own part is.
pub record Follows (N : ℕ) (waits : Event → List Wait) (before : List Event) (e : Event) : Type 0 where
  pub inside : InLine N e
  pub new : among N before e ≡ false
  pub ready : Ready waits (among N before) e

-- Each event follows those before it.
pub record Begun (N : ℕ) (waits : Event → List Wait) (es : List Event) : Type 0 where
  pub each : (k : ℕ) → k < length es → Follows N waits (take k es) (slice_index_or es k Delivery)

-- Every event of the line once, each after what it needs of its own part.
pub record InOrder (N : ℕ) (waits : Event → List Wait) (es : List Event) : Type 0 where
  pub begun : Begun N waits es
  pub all : (e : Event) → InLine N e → among N es e ≡ true
