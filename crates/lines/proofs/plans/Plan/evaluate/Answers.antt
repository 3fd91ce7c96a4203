use Rattle.std.proofs.Common.{map, sym, subst, rules}
use Rattle.stations.specs.Rule.{freshened}
use Rattle.lines.specs.Running.{Reached, placed, plan_waits}
use Rattle.lines.proofs.Working.{at_start}
use Rattle.lines.proofs.plans.Plan.evaluate.Goals as goal

pub loop-index-init : goal.loop-index-init
loop-index-init g c =
    let plan = c.args.self.now in
    let old = g.R.Row.meanings c.args.row.now in
    let parts = c.args.book.now.parts.items in
    subst (λ ms. Reached plan parts (map freshened old) c.args.sheet.now 0 (placed plan 0) c.args.sheet.now ms) (sym (search rules))
    (at_start plan.table.now.stages.count (plan_waits plan) parts c.args.sheet.now old (g.met.R.Row.lawful c.args.row.now) c.requires.stages_in_bounds c.requires.wide)
