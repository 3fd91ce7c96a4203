use Rattle.std.specs.Prelude.{◌≡◌, ℕ, ◌≤◌}
use Rattle.stations.specs.declared.numbers.StageNo.{StageNo}
use Rattle.controls.specs.declared.events.Event.{Event}
use Rattle.controls.specs.declared.events.Event.TheVariants.{Pass, Release, Completion, Delivery}
use Rattle.controls.specs.declared.events.Wait.{Wait}
use Rattle.controls.specs.declared.events.Wait.TheVariants.{Call, After}

-- The stages of a line of N count from 1.
abbrev pub IsStage : ℕ → StageNo → Type 0
IsStage N i = (1 ≤ i.0) × (i.0 ≤ N)

-- The events of a line of N stages.
abbrev pub InLine : ℕ → Event → Type 0
InLine N (Pass i) = IsStage N i
InLine N (Release i) = IsStage N i
InLine N (Completion i) = IsStage N i
InLine N Delivery = Unit

-- Every event but a completion happens at the latest of its waits; when a completion happens its station tells.
abbrev pub Waits : Event → Type 0
Waits (Pass i) = Unit
Waits (Release i) = Unit
Waits (Completion i) = ⊥
Waits Delivery = Unit

-- A wait on an event of the line.
abbrev pub SourceIn : ℕ → Wait → Type 0
SourceIn N Call = Unit
SourceIn N (After s L) = InLine N s

-- Two waits on the same thing, whatever their lags.
abbrev pub SameSource : Wait → Wait → Type 0
SameSource Call Call = Unit
SameSource Call (After s L) = ⊥
SameSource (After s L) Call = ⊥
SameSource (After s L) (After t M) = s ≡ t

-- The lag of a wait; a wait on the call has none.
abbrev pub lag : Wait → ℕ
lag Call = 0
lag (After s L) = L

-- The lag of the first is no more than that of the second.
abbrev pub LagUpTo : Wait → Wait → Type 0
LagUpTo v w = lag v ≤ lag w
