use Rattle.std.proofs.Common.{rules}
use Rattle.std.proofs.lemmas.Result.{err_from_is_err_and}
use Rattle.arrivals.specs.Lines.{EntryFits, entry_written}
use Rattle.forms.specs.Forms.{Lineless}
use Rattle.forms.specs.Reading.{left}
use Rattle.arrivals.proofs.Ended.{entry_endless, line_says, line_says_none, lineless_none}
use Rattle.arrivals.proofs.lists.entry_line.Goals as goal

pub returns-in_err-line : goal.returns-in_err-line
returns-in_err-line c =
    let out : Lineless (left c.args.cursor.now) = (rw c.in_err-line.ensures.ok_part at c.line.ensures).0 in
    search (rules, lineless_none EntryFits entry_written entry_endless out, out)

pub returns-in_err-read_entry_line : goal.returns-in_err-read_entry_line
returns-in_err-read_entry_line c =
    let line = rw c.in_ok-line.ensures.ok_part at c.line.ensures in
    let p = err_from_is_err_and c.from_residual-in_err-read_entry_line.result c.from_residual-in_err-read_entry_line.ensures.1 in
    rw (p.1, p.2) (
      line_says_none EntryFits entry_written entry_endless line.1 c.in_err-read_entry_line.ensures,
      λ out. out _ _ line.0,
    )

pub returns : goal.returns
returns c =
    let line = rw c.in_ok-line.ensures.ok_part at c.line.ensures in
    line_says EntryFits entry_written entry_endless line.0 line.1 c.in_ok-read_entry_line.ensures
