use Rattle.std.proofs.Common.{length, vec_items}
use Rattle.arrivals.proofs.Held.{Held}
use Rattle.arrivals.proofs.lists.read_entries.Given as goal

abbrev pub invariant-loop-cursor : goal.invariant-loop-cursor
invariant-loop-cursor l = Held l.text l.cursor.rest.now (vec_items l.entries)

abbrev pub decreases-loop-cursor : goal.decreases-loop-cursor
decreases-loop-cursor l = length l.cursor.rest.now
