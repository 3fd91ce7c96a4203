use Rattle.std.proofs.Common.{◌≡◌}
use Rattle.forms.proofs.Listed.{Listing}
use Rattle.inquiries.proofs.reading.spaced_counts.Given as goal

abbrev pub invariant-loop-value : goal.invariant-loop-value
invariant-loop-value l = record { counted : l.count ≡ l.value-index; listing : Listing 16 l.fn.cursor.rest.now l.cursor.rest.now l.value-items l.value-index }
