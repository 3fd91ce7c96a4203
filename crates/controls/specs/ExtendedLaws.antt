-- The laws of extended kanban.
use Rattle.std.specs.Prelude.{◌≡◌, ℕ, zero, suc, pred, ◌+◌, ◌-◌, ◌<◌, ◌≤◌, true, List, refl}
use Rattle.std.proofs.Common.{ap, arith}
use Rattle.std.proofs.lemmas.Bool.{leb-true, le-leb}
use Rattle.stations.specs.declared.numbers.StageNo.{StageNo}
use Rattle.stations.specs.Lists.{at}
use Rattle.controls.specs.declared.events.Event.{Event}
use Rattle.controls.specs.declared.events.Event.TheVariants.{Pass, Release, Completion, Delivery}
use Rattle.controls.specs.declared.events.Wait.TheVariants.{After}
use Rattle.controls.specs.Events.{IsStage, InLine}
use Rattle.controls.specs.Control.{Rise, StepFits, LawfulControl}
use Rattle.controls.specs.Stages.{stage, on_call, next_release, every}
use Rattle.controls.specs.Extended.{has_card, extended_release, extended}
use Rattle.controls.specs.StageLaws.{StageLaws, staged_laws, rise_at, every_each, each_every, next_cases}

has_cards : (N : ℕ) (K : List ℕ) → every (has_card N K) N ≡ true → (i : ℕ) → 1 ≤ i → i ≤ N → 1 ≤ at K i + at K (N + i)
has_cards N K ok i a b = leb-true 1 (at K i + at K (N + i)) (every_each (has_card N K) 1 N ok i a (omega arith))

rises : (N : ℕ) (K L : List ℕ) → Rise K L → every (has_card N K) N ≡ true → every (has_card N L) N ≡ true
rises N K L r ok = each_every (has_card N L) 1 N (λ i a b.
    le-leb 1 (at L i + at L (N + i))
    (let p = rise_at K L r i in let q = rise_at K L r (N + i) in let k = has_cards N K ok i a (omega arith) in omega arith))

-- The step of release i + 1, and of the delivery for i = N: up two where completion i must come first, else down one.
turn : ℕ → ℕ → ℕ
turn zero h = h + 2
turn (suc s) h = h - 1

height : ℕ → List ℕ → ℕ → ℕ
height N K zero = N + 1
height N K (suc p) = turn (at K (suc p)) (height N K p)

turn_up : (s h : ℕ) → s ≡ 0 → turn s h ≡ h + 2
unfolding turn
turn_up zero h e = refl
turn_up (suc s) h e = absurd (omega arith)

turn_down : (s h : ℕ) → 1 ≤ s → turn s h ≡ h - 1
unfolding turn
turn_down zero h e = absurd (omega arith)
turn_down (suc s) h e = refl

turn_least : (s h : ℕ) → h ≤ turn s h + 1
unfolding turn
turn_least zero h = omega arith
turn_least (suc s) h = omega arith

high : (N : ℕ) (K : List ℕ) (p : ℕ) → N + 1 ≤ height N K p + p
unfolding height
high N K zero = omega arith
high N K (suc p) = let r = high N K p in let s = turn_least (at K (suc p)) (height N K p) in omega arith

step : ℕ → List ℕ → Event → ℕ
step N K (Pass i) = 0
step N K (Release i) = height N K (pred i.0)
step N K (Completion i) = suc (height N K (pred i.0))
step N K Delivery = height N K N

-- Where completion i must come first, release i + 1 is above it, and the delivery above completion N.
up : (N : ℕ) (K : List ℕ) (p : ℕ) → at K (suc p) ≡ 0 → suc (height N K p) < height N K (suc p)
unfolding height
up N K p z = let r = turn_up (at K (suc p)) (height N K p) z in omega arith

before_release :
    (N : ℕ) (K : List ℕ) (i : StageNo) (p : ℕ) → i.0 ≡ suc (suc p)
    → StepFits (step N K) (Release i) (After (Completion (stage (suc p))) (at K (suc p)))
unfolding step
before_release N K i p e z =
    let u = up N K p z in
    let q : height N K (pred i.0) ≡ height N K (suc p) = ap (λ j. height N K (pred j)) e in
    let o : suc (height N K p) < height N K (pred i.0) = omega arith in
    o

before_delivery : (N : ℕ) (K : List ℕ) → 1 ≤ N → StepFits (step N K) Delivery (After (Completion (stage N)) (at K N))
unfolding step
before_delivery zero K pos z = absurd (omega arith)
before_delivery (suc p) K pos z = up (suc p) K p z

-- Where stage i has no spare card, release i is above the next one.
down :
    (N : ℕ) (K : List ℕ) → every (has_card N K) N ≡ true → (p : ℕ) → suc p ≤ N → at K (N + suc p) ≡ 0
    → height N K (suc p) < height N K p
unfolding height
down N K ok p h z =
    let e = has_cards N K ok (suc p) (omega arith) h in
    let d = turn_down (at K (suc p)) (height N K p) (omega arith) in
    let t = high N K p in
    omega arith

step_next : (N : ℕ) (K : List ℕ) (i : StageNo) → i.0 ≤ N → step N K (next_release N i) ≡ height N K i.0
unfolding step
step_next N K i h =
    next_cases (λ e. step N K e ≡ height N K i.0) N i (λ l. ap (height N K) (omega arith)) (λ l. ap (height N K) (omega arith))

next_first :
    (N : ℕ) (K : List ℕ) → every (has_card N K) N ≡ true → (i : StageNo) → IsStage N i
    → StepFits (step N K) (Release i) (After (next_release N i) (at K (N + i.0)))
unfolding step
next_first N K ok i h z = rw (step_next N K i h.1) (there i.0 h.0 h.1 z)
  where
    there : (j : ℕ) → 1 ≤ j → j ≤ N → at K (N + j) ≡ 0 → height N K j < height N K (pred j)
    there zero a b z = absurd (omega arith)
    there (suc p) a b z = down N K ok p b z

by_stage : StageLaws (λ N K. every (has_card N K) N) (λ N K. on_call) extended_release
unfolding step
by_stage = record {
  rises = rises;
  same_pass = λ N K L i. (tt, tt);
  same_release = λ N K L i. (tt, (refl, tt));
  lags_pass = λ N K L r i. (omega arith, tt);
  lags_release = λ N K L r i. (omega arith, (rise_at K L r (N + i.0), tt));
  few_pass = λ N K i. omega arith;
  few_release = λ N K i. omega arith;
  in_pass = λ N K i h. (tt, tt);
  in_release = λ N K i h. (tt, (next_cases (InLine N) N i (λ l. (omega arith, omega arith)) (λ l. tt), tt));
  step = step;
  fits = λ N K pos ok. record {
    on_pass = λ i h. (tt, tt);
    on_release = λ i h. (tt, (next_first N K ok i h, tt));
    on_before = λ i p e le. before_release N K i p e;
    on_call = tt;
    on_last = before_delivery N K pos;
  };
  done = λ N K i h. omega arith;
}

pub extended_laws : LawfulControl extended
extended_laws = staged_laws by_stage 2
