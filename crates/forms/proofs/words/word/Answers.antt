use Rattle.std.proofs.Common.{arith}
use Rattle.forms.proofs.Spelled.{word_read}
use Rattle.forms.proofs.words.word.Goals as goal

pub returns : goal.returns
returns c =
    word_read _ c.letters-n.result _ _ c.letters-n.ensures (omega arith) (omega arith) c.split_at.ensures.front c.split_at.ensures.back
