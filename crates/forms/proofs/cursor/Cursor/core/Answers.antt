use Rattle.std.proofs.Common.{codes, rules}
use Rattle.forms.proofs.Listed.{two_read, two_unread, three_read, three_unread}
use Rattle.forms.proofs.Spelled.{unspelled}
use Rattle.forms.specs.declared.stages.CoreWord.TheVariants.{Machine, Oven}
use Rattle.forms.proofs.cursor.Cursor.core.Goals as goal

pub returns-in_err-word : goal.returns-in_err-word
returns-in_err-word c = search (rules, unspelled c.in_err-word.ensures.1 (codes "machine") 32, unspelled c.in_err-word.ensures.1 (codes "oven") 32)

pub returns-in_err-word-2 : goal.returns-in_err-word-2
returns-in_err-word-2 c = search (rules, c.in_err-word-2.ensures.1 Machine, c.in_err-word-2.ensures.1 Oven, c.in_ok-word.ensures.1 (codes "machine") 32, c.in_ok-word.ensures.1 (codes "oven") 32)

pub returns-in_err-places-in-Machine : goal.returns-in_err-places-in-Machine
returns-in_err-places-in-Machine c = search (rules, two_unread c.in_err-places-in-Machine.ensures)

pub returns-in_err-cycle-in-Oven : goal.returns-in_err-cycle-in-Oven
returns-in_err-cycle-in-Oven c = search (rules, three_unread c.in_err-cycle-in-Oven.ensures)

pub returns-in_ok-places-in-Machine : goal.returns-in_ok-places-in-Machine
returns-in_ok-places-in-Machine c = let p = two_read _ c.in_ok-places-in-Machine.ensures in search (rules, p)

pub returns-in_ok-cycle-in-Oven : goal.returns-in_ok-cycle-in-Oven
returns-in_ok-cycle-in-Oven c = let p = three_read _ c.in_ok-cycle-in-Oven.ensures in search (rules, p)
