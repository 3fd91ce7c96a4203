-- The claims, proved.
use Rattle.controls.proofs.Consequences.{compares, more_cards, unique, added_at_end, better_row}
use Rattle.controls.proofs.Existence.{have_times}

pub ruleset claims = (compares, more_cards, have_times, unique, added_at_end, better_row)
