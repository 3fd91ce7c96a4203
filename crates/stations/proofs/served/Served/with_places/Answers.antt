use Rattle.stations.proofs.Serves.{serves_fresh_places}
use Rattle.stations.proofs.served.Served.with_places.Goals as goal

pub returns : goal.returns
returns g c = serves_fresh_places c.args.count (g.W.Work.pace c.args.work) c.new.result.free.items c.requires.0 c.new.ensures
