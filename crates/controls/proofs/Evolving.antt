-- The equations of each control, from its waits.
use Rattle.std.proofs.Common.{◌≡◌, ℕ, zero, suc, ◌+◌, ◌-◌, ◌<◌, ◌≤◌, cond, List, ◌++◌, map, length, refl, ap, ◌∙◌, arith}
use Rattle.std.proofs.lemmas.Bool.{lt-ltb, le-ltb}
use Rattle.stations.specs.declared.numbers.StageNo.{StageNo}
use Rattle.stations.specs.Lists.{at}
use Rattle.controls.specs.declared.events.Event.TheVariants.{Pass, Release, Delivery}
use Rattle.controls.specs.declared.events.Wait.{Wait}
use Rattle.controls.specs.declared.events.Wait.TheVariants.{Call, After}
use Rattle.controls.specs.Lists.{latest}
use Rattle.controls.specs.Times.{Row, Table, wait_end, Times}
use Rattle.controls.specs.Stages.{stage, on_call, before, staged, next_release}
use Rattle.controls.specs.Kanban.{kanban_release}
use Rattle.controls.specs.General.{next_pass, general_pass, general_release}
use Rattle.controls.specs.Extended.{extended_release}
use Rattle.controls.specs.Evolution.{supplied, Delivers, BaseEvolves, KanbanEvolves, GeneralEvolves, ExtendedEvolves}
use Rattle.controls.specs.StageLaws.{stage_waits}

supply_end : (K calls : List ℕ) (t : Table) (n i : ℕ) → latest (map (wait_end calls t n) (before K i)) ≡ supplied K t i n
supply_end K calls t n zero = refl
supply_end K calls t n (suc zero) = refl
supply_end K calls t n (suc (suc p)) = omega arith

next_is : (N i : ℕ) → i < N → next_release N (stage i) ≡ Release (stage (i + 1))
next_is N i l = ap (λ b. cond b (Release (stage (i + 1))) Delivery) (lt-ltb i N l)

last_is : (N : ℕ) → next_release N (stage N) ≡ Delivery
last_is N = ap (λ b. cond b (Release (stage (N + 1))) Delivery) (le-ltb N N (omega arith))

pass_is : (N i : ℕ) → i < N → next_pass N (stage i) ≡ After (Pass (stage (i + 1))) 0
pass_is N i l = ap (λ b. cond b (After (Pass (stage (i + 1))) 0) Call) (lt-ltb i N l)

last_pass_is : (N : ℕ) → next_pass N (stage N) ≡ Call
last_pass_is N = ap (λ b. cond b (After (Pass (stage (N + 1))) 0) Call) (le-ltb N N (omega arith))

module _ (pass release : StageNo → List Wait) (N : ℕ) (K : List ℕ) (row : Row) (calls : List ℕ) (t : Table)
    (times : Times N (staged pass release N K) row calls t) (n : ℕ) (pos : 1 ≤ n) (le : n ≤ length calls) where
  abbrev ends : List Wait → ℕ
  ends ws = latest (map (wait_end calls t n) ws)

  passed : (i : ℕ) → 1 ≤ i → i ≤ N → at (t (Pass (stage i))) n ≡ ends (pass (stage i))
  passed i a b = times.waited (Pass (stage i)) (a, b) tt n pos le ∙ ap ends (stage_waits N (stage i) (pass (stage i)) (a, b))

  released : (i : ℕ) → 1 ≤ i → i ≤ N → at (t (Release (stage i))) n ≡ ends (release (stage i) ++ before K i)
  released i a b =
      times.waited (Release (stage i)) (a, b) tt n pos le ∙ ap ends (stage_waits N (stage i) (release (stage i) ++ before K i) (a, b))

  delivered : Delivers N K calls t n
  delivered = let h = times.waited Delivery tt tt n pos le in omega arith

pub base_evolves : BaseEvolves
base_evolves N K row calls t times n pos le = record {
  pass = λ i a b. let h = passed on_call on_call N K row calls t times n pos le i a b in omega arith;
  release = λ i a b.
      let h = released on_call on_call N K row calls t times n pos le i a b in let s = supply_end K calls t n i in omega arith;
  delivery = delivered on_call on_call N K row calls t times n pos le;
}

pub kanban_evolves : KanbanEvolves
kanban_evolves N K row calls t times n pos le =
    let whole : n - 0 ≡ n = omega arith in
    record {
      pass = λ i a b. let h = passed on_call (kanban_release N) N K row calls t times n pos le i a b in omega arith;
      release = λ i a b.
          let h = released on_call (kanban_release N) N K row calls t times n pos le i a (omega arith) in
          let s = supply_end K calls t n i in
          let e : at (t (next_release N (stage i))) (n - 0) ≡ at (t (Release (stage (i + 1)))) n = λ k. at (t (next_is N i b k)) (whole k) in
          omega arith;
      last_release = λ a.
          let h = released on_call (kanban_release N) N K row calls t times n pos le N a (omega arith) in
          let s = supply_end K calls t n N in
          let e : at (t (next_release N (stage N))) (n - 0) ≡ at (t Delivery) n = λ k. at (t (last_is N k)) (whole k) in
          omega arith;
      delivery = delivered on_call (kanban_release N) N K row calls t times n pos le;
    }

pub general_evolves : GeneralEvolves
general_evolves N K row calls t times n pos le =
    let whole : n - 0 ≡ n = omega arith in
    record {
      pass = λ i a b.
          let h = passed (general_pass N K) general_release N K row calls t times n pos le i a (omega arith) in
          let e : wait_end calls t n (next_pass N (stage i)) ≡ at (t (Pass (stage (i + 1)))) n =
          ap (wait_end calls t n) (pass_is N i b) ∙ ap (at (t (Pass (stage (i + 1))))) whole in
          omega arith;
      last_pass = λ a.
          let h = passed (general_pass N K) general_release N K row calls t times n pos le N a (omega arith) in
          let e : wait_end calls t n (next_pass N (stage N)) ≡ at calls n = ap (wait_end calls t n) (last_pass_is N) in
          omega arith;
      release = λ i a b.
          let h = released (general_pass N K) general_release N K row calls t times n pos le i a b in
          let s = supply_end K calls t n i in
          let e : at (t (Pass (stage i))) (n - 0) ≡ at (t (Pass (stage i))) n = ap (at (t (Pass (stage i)))) whole in
          omega arith;
      delivery = delivered (general_pass N K) general_release N K row calls t times n pos le;
    }

pub extended_evolves : ExtendedEvolves
extended_evolves N K row calls t times n pos le = record {
  pass = λ i a b. let h = passed on_call (extended_release N K) N K row calls t times n pos le i a b in omega arith;
  release = λ i a b.
      let h = released on_call (extended_release N K) N K row calls t times n pos le i a (omega arith) in
      let s = supply_end K calls t n i in
      let e : at (t (next_release N (stage i))) (n - at K (N + i)) ≡ at (t (Release (stage (i + 1)))) (n - at K (N + i)) =
      ap (λ f. at (t f) (n - at K (N + i))) (next_is N i b) in
      omega arith;
  last_release = λ a.
      let h = released on_call (extended_release N K) N K row calls t times n pos le N a (omega arith) in
      let s = supply_end K calls t n N in
      let e : at (t (next_release N (stage N))) (n - at K (N + N)) ≡ at (t Delivery) (n - at K (N + N)) =
      ap (λ f. at (t f) (n - at K (N + N))) (last_is N) in
      omega arith;
  delivery = delivered on_call (extended_release N K) N K row calls t times n pos le;
}

pub ruleset equations = (base_evolves, kanban_evolves, general_evolves, extended_evolves)
