use Rattle.std.proofs.Common.{rules}
use Rattle.std.proofs.lemmas.Result.{err_from_is_err_and}
use Rattle.forms.specs.Forms.{Lineless}
use Rattle.forms.specs.Reading.{left}
use Rattle.forms.specs.Stages.{StageFits}
use Rattle.arrivals.specs.Lines.{stage_written}
use Rattle.arrivals.proofs.Ended.{stage_endless, line_says, line_says_none, lineless_none}
use Rattle.arrivals.proofs.lists.stage_line.Goals as goal

pub returns-in_err-line : goal.returns-in_err-line
returns-in_err-line c =
    let out : Lineless (left c.args.cursor.now) = (rw c.in_err-line.ensures.ok_part at c.line.ensures).0 in
    search (rules, lineless_none StageFits stage_written stage_endless out, out)

pub returns-in_err-read_stage_line : goal.returns-in_err-read_stage_line
returns-in_err-read_stage_line c =
    let line = rw c.in_ok-line.ensures.ok_part at c.line.ensures in
    let p = err_from_is_err_and c.from_residual-in_err-read_stage_line.result c.from_residual-in_err-read_stage_line.ensures.1 in
    rw (p.1, p.2) (
      line_says_none StageFits stage_written stage_endless line.1 c.in_err-read_stage_line.ensures,
      λ out. out _ _ line.0,
    )

pub returns : goal.returns
returns c =
    let line = rw c.in_ok-line.ensures.ok_part at c.line.ensures in
    line_says StageFits stage_written stage_endless line.0 line.1 c.in_ok-read_stage_line.ensures
