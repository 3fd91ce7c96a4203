use Rattle.std.proofs.Common.{◌≡◌}
use Rattle.lines.specs.Tables.{table_waits}
use Rattle.lines.proofs.Ordering.{downs, Turn}
use Rattle.lines.proofs.asking.WaitTable.in_order.Given as goal

abbrev pub invariant-loop-event : goal.invariant-loop-event
invariant-loop-event l = (l.placing.table.now ≡ l.self) × Turn l.self.stages.count (table_waits l.self) l.placing.placed l.placing.events.items

abbrev pub decreases-loop-event : goal.decreases-loop-event
decreases-loop-event l = downs l.placing.placed
