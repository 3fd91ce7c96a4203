use Rattle.std.proofs.Common.{map}
use Rattle.stations.specs.Rule.{freshened}
use Rattle.lines.specs.Running.{Reached, placed}
use Rattle.lines.proofs.plans.Plan.evaluate.Given as goal

abbrev pub invariant-loop-index : goal.invariant-loop-index
invariant-loop-index g l =
    Reached l.self l.book.parts.items (map freshened (g.R.Row.meanings l.fn.row)) l.initial.sheet l.index (placed l.self 0) l.sheet (g.R.Row.meanings l.row)
