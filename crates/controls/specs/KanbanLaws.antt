-- The laws of kanban.
use Rattle.std.specs.Prelude.{◌≡◌, ℕ, suc, ◌+◌, ◌-◌, ◌≤◌, true, List, refl}
use Rattle.std.proofs.Common.{subst, arith}
use Rattle.stations.specs.Lists.{at}
use Rattle.controls.specs.declared.events.Event.{Event}
use Rattle.controls.specs.declared.events.Event.TheVariants.{Pass, Release, Completion, Delivery}
use Rattle.controls.specs.declared.events.Wait.TheVariants.{After}
use Rattle.controls.specs.Events.{InLine}
use Rattle.controls.specs.Control.{StepFits, LawfulControl}
use Rattle.controls.specs.Stages.{on_call, carded}
use Rattle.controls.specs.Kanban.{kanban_release, kanban}
use Rattle.controls.specs.StageLaws.{StageLaws, staged_laws, carded_at, carded_rises, next_cases}

-- Steps go down the line.
step : ℕ → Event → ℕ
step N (Pass i) = 0
step N (Release i) = N + 1 - i.0
step N (Completion i) = N + 2 - i.0
step N Delivery = 0

cards : (N : ℕ) (K : List ℕ) → carded 0 K N ≡ true → (i : ℕ) → 1 ≤ i → i ≤ N → 1 ≤ at K i
cards N K ok i a b = subst (λ j. 1 ≤ at K j) (let e : 0 + i ≡ i = omega arith in e) (carded_at 0 K N ok i a b)

by_stage : StageLaws (λ N K. carded 0 K N) (λ N K. on_call) (λ N K. kanban_release N)
unfolding step
by_stage = record {
  rises = λ N K L. carded_rises 0 K L N;
  same_pass = λ N K L i. (tt, tt);
  same_release = λ N K L i. (refl, tt);
  lags_pass = λ N K L r i. (omega arith, tt);
  lags_release = λ N K L r i. (omega arith, tt);
  few_pass = λ N K i. omega arith;
  few_release = λ N K i. omega arith;
  in_pass = λ N K i h. (tt, tt);
  in_release = λ N K i h. (next_cases (InLine N) N i (λ l. (omega arith, omega arith)) (λ l. tt), tt);
  step = λ N K. step N;
  fits = λ N K pos ok. record {
    on_pass = λ i h. (tt, tt);
    on_release = λ i h.
        (next_cases (λ e. StepFits (step N) (Release i) (After e 0)) N i (λ l z. omega arith) (λ l z. omega arith), tt);
    on_before = λ i p e le z. absurd (let k = cards N K ok (suc p) (omega arith) (omega arith) in omega arith);
    on_call = tt;
    on_last = λ z. absurd (let k = cards N K ok N pos (omega arith) in omega arith);
  };
  done = λ N K i h. omega arith;
}

pub kanban_laws : LawfulControl kanban
kanban_laws = staged_laws by_stage 1
