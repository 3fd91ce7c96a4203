use Rattle.std.proofs.Common.{rules, ◌∙◌, sym, ap}
use Rattle.std.specs.List.{list_all}
use Rattle.controls.specs.Events.{Waits}
use Rattle.lines.specs.Order.{source_placed}
use Rattle.lines.specs.Tables.{stands}
use Rattle.lines.proofs.Placing.{ready_if, if_ready}
use Rattle.lines.proofs.orders.Placing.is_ready.Goals as goal

pub returns-in_default : goal.returns-in_default
returns-in_default c =
    let w : Waits c.args.event = search rules in
    let p = stands c.args.self.now in
    let all = c.are_over.ensures ∙ ap (list_all (source_placed p)) c.waits_of.ensures in
    record {
      ready = λ h. ready_if c.args.self.now.table.now.stages.count c.args.self.now.table.now.told p c.args.event w (sym all ∙ h);
      unready = λ r. all ∙ if_ready c.args.self.now.table.now.stages.count c.args.self.now.table.now.told p c.args.event w r;
    }
