use Rattle.std.proofs.Common.{◌≤◌, rules}
use Rattle.stations.proofs.Turns.{starts_in_turn}
use Rattle.stations.proofs.ovens.Served+OvenWork.new.Goals as goal

pub returns : goal.returns
returns c =
    let turns : 1 ≤ c.args.cycle = search rules in
    let some : 1 ≤ c.args.places = search rules in
    (search rules, (c.with_places.ensures, starts_in_turn c.args.cycle c.args.places c.args.bake turns some))
