use Rattle.std.specs.Prelude.{true}
use Rattle.controls.specs.Control.{Meaning}
use Rattle.controls.specs.Stages.{on_call, staged}

-- Base stock, with the counts S1..SN: pass i and release i wait on the call. All counts are lawful.
abbrev pub base : Meaning
base = record { per_stage = 1; lawful = λ N K. true; waits = λ N K. staged on_call on_call N K }
