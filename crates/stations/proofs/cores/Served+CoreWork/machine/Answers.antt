use Rattle.stations.proofs.cores.Served+CoreWork.machine.Goals as goal

pub returns : goal.returns
returns c = let e = c.map_work.ensures in (c.in_ok-new.ensures.0, rw (e.work, e.places, e.last) c.in_ok-new.ensures.1.0)
