use Rattle.std.proofs.Common.{◌≡◌, ℕ, ◌<◌, ◌≤◌, [], length, get_or}
use Rattle.controls.specs.declared.events.Event.{Event}
use Rattle.controls.specs.Events.{InLine}
use Rattle.lines.specs.Asked.{asked}
use Rattle.lines.specs.Sheet.{row_of}
use Rattle.lines.proofs.asking.told_by.Given as goal

abbrev pub invariant-loop-row : goal.invariant-loop-row
invariant-loop-row g l =
    (length l.told ≡ 25) × ((row : ℕ) → length (get_or l.told row []) ≤ 3) × ((e : Event) → InLine l.stages.count e → row_of l.stages.count e < l.row
    → asked l.stages.count l.told e ≡ (g.C.Control.meaning l.control).waits l.cards.stages l.cards.counts.now e)
