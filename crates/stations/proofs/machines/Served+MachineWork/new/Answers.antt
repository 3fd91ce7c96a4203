use Rattle.std.proofs.Common.{◌≤◌, rules}
use Rattle.stations.proofs.Turns.{leaves_in_turn}
use Rattle.stations.proofs.machines.Served+MachineWork.new.Goals as goal

pub returns : goal.returns
returns c =
    let some : 1 ≤ c.args.places = search rules in
    (search rules, (c.with_places.ensures, leaves_in_turn c.args.places c.args.minutes some))
