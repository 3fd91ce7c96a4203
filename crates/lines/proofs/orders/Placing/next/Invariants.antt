use Rattle.std.proofs.Common.{◌≡◌, ◌<◌, true}
use Rattle.controls.specs.declared.events.Event.{Event}
use Rattle.controls.specs.Events.{InLine}
use Rattle.lines.specs.Order.{Ready}
use Rattle.lines.specs.Sheet.{row_of}
use Rattle.lines.specs.Tables.{table_waits, stands}
use Rattle.lines.proofs.orders.Placing.next.Given as goal

abbrev pub invariant-loop-row : goal.invariant-loop-row
invariant-loop-row l =
    (e : Event) → InLine l.self.table.now.stages.count e → row_of l.self.table.now.stages.count e < l.row
    → Ready (table_waits l.self.table.now) (stands l.self) e → stands l.self e ≡ true
