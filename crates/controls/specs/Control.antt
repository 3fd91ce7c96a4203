use Rattle.std.specs.Prelude.{◌≡◌, ℕ, ◌*◌, ◌<◌, ◌≤◌, Bool, true, List, length}
use Rattle.std.specs.List.{AllByRecursion, AllZip}
use Rattle.stations.specs.declared.numbers.StageNo.{StageNo}
use Rattle.controls.specs.declared.events.Event.{Event}
use Rattle.controls.specs.declared.events.Event.TheVariants.{Release, Completion}
use Rattle.controls.specs.declared.events.Wait.{Wait}
use Rattle.controls.specs.declared.events.Wait.TheVariants.{Call, After}
use Rattle.controls.specs.Events.{IsStage, InLine, Waits, SourceIn, SameSource, LagUpTo}

-- What a control tells of a line: how many counts it has for a stage, which counts a line of so many stages can work with, and
-- what each event waits for.
pub record Meaning : Type 0 where
  pub per_stage : ℕ
  pub lawful : ℕ → List ℕ → Bool
  pub waits : ℕ → List ℕ → Event → List Wait

-- The line has a stage, and K has as many counts as the control has for N stages.
pub record Fits (C : Meaning) (N : ℕ) (K : List ℕ) : Type 0 where
  pub stages : 1 ≤ N
  pub count : length K ≡ C.per_stage * N

-- The counts L are nowhere fewer than the counts K.
abbrev pub Rise : List ℕ → List ℕ → Type 0
Rise = AllZip ◌≤◌

-- Where an event waits on another of the same part, the other has the lower step.
abbrev pub StepFits : (Event → ℕ) → Event → Wait → Type 0
StepFits step e Call = Unit
StepFits step e (After s L) = L ≡ 0 → step s < step e

-- The events of a part can be numbered so that none needs one of the same part with its own number or a higher one.
pub record Steps (N : ℕ) (waits : Event → List Wait) : Type 0 where
  pub step : Event → ℕ
  pub fits : (e : Event) → InLine N e → Waits e → AllByRecursion (StepFits step e) (waits e)
  pub done : (i : StageNo) → IsStage N i → step (Release i) < step (Completion i)

-- The laws of a control, on as many counts as it has. More cards keep lawful counts lawful, and waits on the same things with
-- lags no less; lawful counts leave no circle of waits within a part; waits are three at most, on events of the line.
pub record LawfulControl (C : Meaning) : Type 0 where
  pub rises : (N : ℕ) (K L : List ℕ) → Fits C N K → Rise K L → C.lawful N K ≡ true → C.lawful N L ≡ true
  pub same :
      (N : ℕ) (K L : List ℕ) → Fits C N K → Fits C N L → (e : Event) → InLine N e → Waits e
      → AllZip SameSource (C.waits N K e) (C.waits N L e)
  pub lags :
      (N : ℕ) (K L : List ℕ) → Fits C N K → Rise K L → (e : Event) → InLine N e → Waits e
      → AllZip LagUpTo (C.waits N K e) (C.waits N L e)
  pub steps : (N : ℕ) (K : List ℕ) → Fits C N K → C.lawful N K ≡ true → Steps N (C.waits N K)
  pub few : (N : ℕ) (K : List ℕ) → Fits C N K → (e : Event) → InLine N e → Waits e → length (C.waits N K e) ≤ 3
  pub inside : (N : ℕ) (K : List ℕ) → Fits C N K → (e : Event) → InLine N e → Waits e → AllByRecursion (SourceIn N) (C.waits N K e)
