use Rattle.stations.proofs.Serves.{serves_places}
use Rattle.stations.proofs.served.ServedStation.load.Goals as goal

pub returns : goal.returns
returns g c =
    let s = c.args.self.now in
    serves_places (g.W.Work.pace s.work) s.places.free.items c.take-start.new.self.free.items _ _ _ _ _ c.take-start.result _
    s.places.some c.in_ok-admit.ensures c.earliest.ensures c.turn.ensures
    c.stay.ensures c.take-start.ensures.start c.later_by.ensures c.take-start.ensures.taken
