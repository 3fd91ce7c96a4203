use Rattle.std.proofs.Common.{ℕ, rules}
use Rattle.std.proofs.lemmas.List.{take-replicate}
use Rattle.stations.proofs.places.Places.new.Goals as goal

pub returns : goal.returns
returns c = search (rules, take-replicate {X = ℕ} c.args.count 16 0 c.requires.1)
