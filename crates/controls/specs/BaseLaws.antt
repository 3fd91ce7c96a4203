-- The laws of base stock.
use Rattle.std.specs.Prelude.{ℕ, ◌+◌, ◌*◌, true}
use Rattle.std.proofs.Common.{arith}
use Rattle.controls.specs.declared.events.Event.{Event}
use Rattle.controls.specs.declared.events.Event.TheVariants.{Pass, Release, Completion, Delivery}
use Rattle.controls.specs.Control.{LawfulControl}
use Rattle.controls.specs.Stages.{on_call}
use Rattle.controls.specs.Base.{base}
use Rattle.controls.specs.StageLaws.{StageLaws, staged_laws}

-- Steps go up the line.
step : ℕ → Event → ℕ
step N (Pass i) = 0
step N (Release i) = 2 * i.0
step N (Completion i) = 2 * i.0 + 1
step N Delivery = 2 * N + 2

by_stage : StageLaws (λ N K. true) (λ N K. on_call) (λ N K. on_call)
unfolding step
by_stage = record {
  rises = λ N K L r h. h;
  same_pass = λ N K L i. (tt, tt);
  same_release = λ N K L i. (tt, tt);
  lags_pass = λ N K L r i. (omega arith, tt);
  lags_release = λ N K L r i. (omega arith, tt);
  few_pass = λ N K i. omega arith;
  few_release = λ N K i. omega arith;
  in_pass = λ N K i h. (tt, tt);
  in_release = λ N K i h. (tt, tt);
  step = λ N K. step N;
  fits = λ N K pos ok. record {
    on_pass = λ i h. (tt, tt);
    on_release = λ i h. (tt, tt);
    on_before = λ i p e le z. omega arith;
    on_call = tt;
    on_last = λ z. omega arith;
  };
  done = λ N K i h. omega arith;
}

pub base_laws : LawfulControl base
base_laws = staged_laws by_stage 1
