-- The laws of generalized kanban.
use Rattle.std.proofs.Common.{inl, inr, arith}
use Rattle.std.specs.Prelude.{ℕ, ◌+◌, ◌-◌, ◌*◌, ◌<◌, ◌≤◌, refl}
use Rattle.std.proofs.lemmas.Bool.{cases_lt, lt-ltb, le-ltb}
use Rattle.stations.specs.declared.numbers.StageNo.{StageNo}
use Rattle.controls.specs.declared.events.Event.{Event}
use Rattle.controls.specs.declared.events.Event.TheVariants.{Pass, Release, Completion, Delivery}
use Rattle.controls.specs.declared.events.Wait.{Wait}
use Rattle.controls.specs.declared.events.Wait.TheVariants.{Call, After}
use Rattle.controls.specs.Events.{SourceIn, SameSource}
use Rattle.controls.specs.Control.{StepFits, LawfulControl}
use Rattle.controls.specs.Stages.{stage, carded}
use Rattle.controls.specs.General.{next_pass, general_pass, general_release, general}
use Rattle.controls.specs.StageLaws.{StageLaws, staged_laws, rise_at, carded_at, carded_rises}

pub pass_cases :
    (P : Wait → Type 0) (N : ℕ) (i : StageNo) → (i.0 < N → P (After (Pass (stage (i.0 + 1))) 0)) → (N ≤ i.0 → P Call)
    → P (next_pass N i)
pass_cases P N i a b = elim (cases_lt i.0 N) [ inl l ↦ rw (lt-ltb i.0 N l) (a l) | inr m ↦ rw (le-ltb i.0 N m) (b m) ]

same_self : (w : Wait) → SameSource w w
same_self Call = tt
same_self (After s L) = refl

-- Passes go down the line, and then the other steps up.
step : ℕ → Event → ℕ
step N (Pass i) = N - i.0
step N (Release i) = N + 2 * i.0
step N (Completion i) = N + 2 * i.0 + 1
step N Delivery = N + 2 * N + 2

by_stage : StageLaws (λ N K. carded N K N) general_pass (λ N K. general_release)
unfolding step
by_stage = record {
  rises = λ N K L. carded_rises N K L N;
  same_pass = λ N K L i. (same_self (next_pass N i), (refl, tt));
  same_release = λ N K L i. (refl, tt);
  lags_pass = λ N K L r i. (omega arith, (rise_at K L r (N + i.0), tt));
  lags_release = λ N K L r i. (omega arith, tt);
  few_pass = λ N K i. omega arith;
  few_release = λ N K i. omega arith;
  in_pass = λ N K i h. (pass_cases (SourceIn N) N i (λ l. (omega arith, omega arith)) (λ l. tt), (h, tt));
  in_release = λ N K i h. (h, tt);
  step = λ N K. step N;
  fits = λ N K pos ok. record {
    on_pass = λ i h. (
      pass_cases (StepFits (step N) (Pass i)) N i (λ l z. omega arith) (λ l. tt),
      (λ z. absurd (let k = carded_at N K N ok i.0 h.0 h.1 in omega arith), tt),
    );
    on_release = λ i h. (λ z. omega arith, tt);
    on_before = λ i p e le z. omega arith;
    on_call = tt;
    on_last = λ z. omega arith;
  };
  done = λ N K i h. omega arith;
}

pub general_laws : LawfulControl general
general_laws = staged_laws by_stage 2
