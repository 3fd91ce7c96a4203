use Rattle.std.specs.Prelude.{Bool, List}
use Rattle.controls.specs.declared.events.Event.{Event}
use Rattle.controls.specs.declared.events.Wait.{Wait}
use Rattle.lines.specs.declared.asking.WaitTable.{WaitTable}
use Rattle.lines.specs.declared.orders.Placing.{Placing}
use Rattle.lines.specs.Asked.{asked}
use Rattle.lines.specs.Order.{placed_by}

-- The waits of a table.
abbrev pub table_waits : WaitTable → Event → List Wait
table_waits table = asked table.stages.count table.told

-- Which events are placed in an order under way.
abbrev pub stands : Placing → Event → Bool
stands placing = placed_by placing.table.now.stages.count placing.placed
