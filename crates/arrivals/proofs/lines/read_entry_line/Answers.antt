use Rattle.std.proofs.Common.{codes, rules}
use Rattle.forms.proofs.Listed.{one_read, one_unread}
use Rattle.forms.proofs.Spelled.{unspelled}
use Rattle.arrivals.specs.declared.lines.EntryWord.TheVariants.{Arrive, Fresh}
use Rattle.arrivals.proofs.lines.read_entry_line.Goals as goal

pub returns-in_err-word : goal.returns-in_err-word
returns-in_err-word c = search (rules, unspelled c.in_err-word.ensures.1 (codes "arrive") 32, unspelled c.in_err-word.ensures.1 (codes "fresh") 41)

pub returns-in_err-try_from : goal.returns-in_err-try_from
returns-in_err-try_from c = search (rules, c.in_err-try_from.ensures.1 Arrive, c.in_err-try_from.ensures.1 Fresh, c.in_ok-word.ensures.1 (codes "arrive") 32, c.in_ok-word.ensures.1 (codes "fresh") 41)

pub returns-in_err-minute-in-Arrive : goal.returns-in_err-minute-in-Arrive
returns-in_err-minute-in-Arrive c = search (rules, one_unread c.in_err-minute-in-Arrive.ensures)

pub returns-in_err-end-in-Arrive : goal.returns-in_err-end-in-Arrive
returns-in_err-end-in-Arrive c = let p = one_read _ c.in_ok-minute-in-Arrive.ensures in search (rules, p)

pub returns-in_ok-end-in-Arrive : goal.returns-in_ok-end-in-Arrive
returns-in_ok-end-in-Arrive c = let p = one_read _ c.in_ok-minute-in-Arrive.ensures in search (rules, p)
