use Rattle.std.proofs.Common.{rules}
use Rattle.forms.proofs.Listed.{one_read, one_unread}
use Rattle.forms.proofs.cursor.Cursor.travel.Goals as goal

pub returns-in_err-minutes : goal.returns-in_err-minutes
returns-in_err-minutes c = search (rules, one_unread c.in_err-minutes.ensures)

pub returns : goal.returns
returns c = let p = one_read _ c.in_ok-minutes.ensures in search (rules, p)
