use Rattle.std.proofs.Common.{sym}
use Rattle.stations.proofs.LayerLoads.{layer_loads}
use Rattle.stations.proofs.layers.OverStation.load.Goals as goal

pub returns : goal.returns
returns g c =
    rw c.up.ensures
    (layer_loads _ (g.met.P.Through.layer c.args.self.now.by) _ (g.S.Station.meaning c.args.self.now.below) _ _ _ _
    (sym c.in_ok-admit.ensures) c.down.ensures c.in_ok-departure.ensures)
