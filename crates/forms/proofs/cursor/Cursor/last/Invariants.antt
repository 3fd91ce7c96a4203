use Rattle.std.proofs.Common.{◌∷◌}
use Rattle.forms.proofs.Listed.{Listing, spaced_left}
use Rattle.forms.proofs.cursor.Cursor.last.Given as goal

abbrev pub invariant-loop-at : goal.invariant-loop-at
invariant-loop-at g l = Listing g.row.N (32 ∷ l.fn.self.rest.now) (spaced_left l.at l.self.rest.now) l.number-items l.at
