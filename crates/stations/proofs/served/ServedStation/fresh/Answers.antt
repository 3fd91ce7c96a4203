use Rattle.stations.proofs.Serves.{serves_fresh_places}
use Rattle.arrayvec.specs.ArrayVec.{array_vec_len}
use Rattle.stations.proofs.served.ServedStation.fresh.Goals as goal

pub returns : goal.returns
returns g c =
    let s = c.args.self.now in
    serves_fresh_places (array_vec_len s.places.free) (g.W.Work.pace s.work) c.clear.new.self.free.items s.places.some c.clear.ensures
