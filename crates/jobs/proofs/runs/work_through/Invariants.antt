use Rattle.std.proofs.Common.{vec_items}
use Rattle.jobs.proofs.Answering.{Keeps, Goes}
use Rattle.jobs.proofs.runs.work_through.Given as goal

abbrev pub invariant-loop-asked : goal.invariant-loop-asked
invariant-loop-asked g l =
    Keeps (g.S.Station.meaning l.initial.station).fresh l.entries l.asked-index (vec_items l.answers) (g.S.Station.meaning l.station)
    × Goes (g.S.Station.meaning l.initial.station) l.entries l.asked-index (vec_items l.answers) (g.S.Station.meaning l.station)
