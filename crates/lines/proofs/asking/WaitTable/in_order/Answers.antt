use Rattle.std.proofs.Common.{Some, None, arith}
use Rattle.lines.specs.Tables.{table_waits}
use Rattle.lines.proofs.Kept.{inside_of}
use Rattle.lines.proofs.Ordering.{fewer_down, has_room, turn_more, in_order, next_by}
use Rattle.lines.proofs.asking.WaitTable.in_order.Goals as goal

pub push-requires : goal.push-requires
push-requires c =
    let table = c.args.self.now in
    let N = table.stages.count in
    let flags = c.loop-event.placing.placed in
    let found = next_by _ table c.loop-event.invariant.0 flags (Some c.in-Some.event) c.in-Some.ensures in
    let room = has_room N table.stages.few (table_waits table) flags c.loop-event.placing.events.items c.in-Some.event c.row_of.result
    c.loop-event.invariant.1 found c.row_of.ensures.row in (omega arith, room)

pub loop-event-smaller : goal.loop-event-smaller
loop-event-smaller c =
    let table = c.args.self.now in
    let N = table.stages.count in
    let flags = c.loop-event.placing.placed in
    let found = next_by _ table c.loop-event.invariant.0 flags (Some c.in-Some.event) c.in-Some.ensures in
    fewer_down N table.stages.few (table_waits table) flags c.loop-event.placing.events.items c.in-Some.event c.row_of.result
    c.loop-event.invariant.1 found c.row_of.ensures.row

pub loop-event-preserved : goal.loop-event-preserved
loop-event-preserved c =
    let table = c.args.self.now in
    let N = table.stages.count in
    let flags = c.loop-event.placing.placed in
    let found = next_by _ table c.loop-event.invariant.0 flags (Some c.in-Some.event) c.in-Some.ensures in (
      c.loop-event.invariant.0,
      rw c.push.ensures.items
          (turn_more N table.stages.few (table_waits table) flags c.loop-event.placing.events.items c.in-Some.event c.row_of.result
          c.loop-event.invariant.1 found c.row_of.ensures.row (inside_of N table.told table.orderly)),
    )

pub returns : goal.returns
returns c =
    let table = c.args.self.now in
    let flags = c.loop-event.placing.placed in
    let none = next_by _ table c.loop-event.invariant.0 flags None c.in_default.ensures in
    in_order table.stages.count table.told flags _ table.orderly c.loop-event.invariant.1.2 c.loop-event.invariant.1.3 none
