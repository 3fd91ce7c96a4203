use Rattle.std.proofs.Common.{None, ap, ◌∙◌}
use Rattle.stations.specs.Layer.{layered}
use Rattle.stations.specs.Pieces.{moving}
use Rattle.stations.specs.Rule.{Meaning, freshened}
use Rattle.stations.proofs.piles.piled.Goals as goal

pub returns : goal.returns
returns g c =
    c.new-2.ensures ∙ ap (λ (m : Meaning). freshened (layered (moving c.args.way.minutes) None m)) c.new.ensures
