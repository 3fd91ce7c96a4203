use Rattle.lines.specs.Running.{Advances, placed}
use Rattle.lines.proofs.plans.Plan.run_part.Given as goal

abbrev pub invariant-loop-event : goal.invariant-loop-event
invariant-loop-event g l =
    Advances l.self l.part.book.now.parts.items l.part.index (placed l.self 0) l.initial.sheet (g.R.Row.meanings l.initial.row) l.part.index (placed l.self l.event-index) l.sheet (g.R.Row.meanings l.row)
