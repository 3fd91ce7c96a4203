use Rattle.std.specs.Prelude.{ℕ, ◌-◌, ◌≤◌, List}
use Rattle.std.specs.List.{AllByRecursion}
use Rattle.stations.specs.declared.numbers.StageNo.{StageNo}
use Rattle.controls.specs.declared.events.Event.{Event}
use Rattle.controls.specs.declared.events.Event.TheVariants.{Release, Completion}
use Rattle.controls.specs.declared.events.Wait.{Wait}
use Rattle.controls.specs.declared.events.Wait.TheVariants.{Call, After}
use Rattle.controls.specs.Events.{IsStage, InLine, Waits}

-- The minute that a wait of part n ends is known.
abbrev pub SourceKnown : (Event → ℕ → Type 0) → ℕ → Wait → Type 0
SourceKnown Known n Call = Unit
SourceKnown Known n (After s L) = Known s (n - L)

-- Which minutes of a table are known while it is filled for so many parts: of each event those up to some part, and with each
-- minute those that it comes from.
pub record Filled (N : ℕ) (waits : Event → List Wait) (parts : ℕ) (Known : Event → ℕ → Type 0) : Type 0 where
  pub within : (e : Event) (n : ℕ) → InLine N e → Known e n → n ≤ parts
  pub down : (e : Event) (n j : ℕ) → InLine N e → j ≤ n → Known e n → Known e j
  pub source : (e : Event) (n : ℕ) → InLine N e → Waits e → 1 ≤ n → Known e n → AllByRecursion (SourceKnown Known n) (waits e)
  pub release : (i : StageNo) (n : ℕ) → IsStage N i → Known (Completion i) n → Known (Release i) n
