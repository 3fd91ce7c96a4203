use Rattle.forms.proofs.Ended.{no_line, line_read}
use Rattle.forms.proofs.lines.line.Goals as goal

pub returns-in_err-end : goal.returns-in_err-end
returns-in_err-end c = rw c.from_residual.ensures (no_line _ c.in_err-end.ensures)

pub returns : goal.returns
returns c = line_read _ c.in_ok-end.end c.in_ok-end.ensures.0 c.in_ok-end.ensures.1 c.in_ok-end.ensures.2
