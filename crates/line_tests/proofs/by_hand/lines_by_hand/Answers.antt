use Rattle.line_tests.proofs.by_hand.lines_by_hand.Goals as goal
use Rattle.line_tests.proofs.Worked.{base_none, base_one, general_two, extended_two}

pub returns : goal.returns
returns c = (base_none, base_one, general_two, extended_two)
