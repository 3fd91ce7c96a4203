use Rattle.std.proofs.Common.{◌<◌, ◌≤◌, length, subst, rules}
use Rattle.lines.specs.Running.{plan_waits}
use Rattle.lines.proofs.Kept.{order_of}
use Rattle.lines.proofs.Planning.{event_at, event_in}
use Rattle.lines.proofs.Working.{part_over}
use Rattle.lines.proofs.plans.Plan.run_part.Goals as goal

pub place_event-requires-clause-in_line : goal.place_event-requires-clause-in_line
place_event-requires-clause-in_line g c =
    let plan = c.args.self.now in
    let N = plan.table.now.stages.count in
    event_in N (plan_waits plan) plan.events.items (order_of N (plan_waits plan) plan.events.items plan.order) _ c.as_slice-event-items.ensures.value _ _ (search rules)

pub loop-event-preserved : goal.loop-event-preserved
loop-event-preserved g c = λ begun first run.
    let k = c.loop-event.event-index in
    let h : k < length c.as_slice-event-items.result.now = search rules in
    let is = c.as_slice-event-items.ensures.value in
    c.place_event.ensures k (subst (λ xs. k < length xs) is h) (event_at c.args.self.now.events.items _ is k _ h) begun first (c.loop-event.invariant begun first run)

pub returns : goal.returns
returns g c = λ begun first run.
    let plan = c.args.self.now in
    let N = plan.table.now.stages.count in
    let sz : length plan.events.items ≤ c.loop-event.event-index = search rules in
    part_over N (plan_waits plan) plan.events.items (order_of N (plan_waits plan) plan.events.items plan.order) begun _ first c.args.part.now.index c.loop-event.sheet
    (g.R.Row.meanings c.loop-event.row) c.loop-event.event-index sz (c.loop-event.invariant begun first run)
