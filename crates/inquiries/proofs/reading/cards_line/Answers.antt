use Rattle.std.proofs.Common.{rules}
use Rattle.inquiries.proofs.Listed.{no_cards}
use Rattle.inquiries.proofs.reading.cards_line.Goals as goal

pub returns-in_err-opening : goal.returns-in_err-opening
returns-in_err-opening c = search (rules, no_cards (c.in_err-opening.ensures (search rules)))
