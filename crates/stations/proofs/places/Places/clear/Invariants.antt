use Rattle.std.proofs.Common.{◌≡◌, ℕ, ◌<◌, get_or}
use Rattle.stations.proofs.places.Places.clear.Given as goal

abbrev pub invariant-loop-time : goal.invariant-loop-time
invariant-loop-time l = (j : ℕ) → j < l.time-index → get_or l.time-items j 0 ≡ 0
