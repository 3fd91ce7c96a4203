-- The comparison of two tables: counts nowhere fewer, a row never later and calls no later give times no later.
use Rattle.std.proofs.Common.{◌≡◌, ℕ, zero, suc, ◌-◌, ◌≤◌, List, length, take, sym, ap, ◌∙◌, subst, inl, inr, arith, length-take-le}
use Rattle.std.specs.List.{AllByRecursion, AllZip}
use native.Mathlib.Decide.{ℕ_discrete}
use Rattle.stations.specs.declared.numbers.StageNo.{StageNo}
use Rattle.controls.specs.declared.events.Event.{Event}
use Rattle.controls.specs.declared.events.Event.TheVariants.{Pass, Release, Completion, Delivery}
use Rattle.controls.specs.declared.events.Wait.{Wait}
use Rattle.controls.specs.declared.events.Wait.TheVariants.{Call, After}
use Rattle.controls.proofs.Rules.{NowhereLater, Granted, LawfulRules, BetterRules}
use Rattle.controls.specs.Control.{StepFits, Steps}
use Rattle.controls.specs.Events.{InLine, Waits, SameSource, LagUpTo, SourceIn}
use Rattle.controls.specs.Times.{Row, Table, wait_end, Times}
use Rattle.stations.specs.Lists.{at}
use Rattle.controls.proofs.Basics.{Before, by_parts_and_steps, source_before, at_take, latest_both, both_map, each_map₂}
use Rattle.controls.proofs.Steady.{Steady, granted_front}

-- `more` has the waits of the larger counts and `fewer` those of the smaller.
module _ {N : ℕ} {more fewer : Event → List Wait} {row old : Row} {calls late : List ℕ} {t u : Table}
    (quick : Times N more row calls t) (slow : Times N fewer old late u)
    (steady-t : (e : Event) (n : ℕ) → InLine N e → n ≤ length calls → Steady (t e) n)
    (steady-u : (e : Event) (n : ℕ) → InLine N e → n ≤ length late → Steady (u e) n)
    (steps : Steps N fewer)
    (inside : (e : Event) → InLine N e → Waits e → AllByRecursion (SourceIn N) (fewer e))
    (same : (e : Event) → InLine N e → Waits e → AllZip SameSource (more e) (fewer e))
    (lags : (e : Event) → InLine N e → Waits e → AllZip LagUpTo (fewer e) (more e))
    (lawful : LawfulRules N row) (better : BetterRules N row old)
    (m : ℕ) (fits : m ≤ length calls) (fits' : m ≤ length late)
    (called : (n : ℕ) → n ≤ m → at calls n ≤ at late n) where
  Claim : Event → ℕ → Type 0
  Claim e n = InLine N e → n ≤ m → at (t e) n ≤ at (u e) n

  -- What one wait of the smaller counts gives.
  WaitOk : Event → ℕ → Wait → Type 0
  WaitOk e n v = StepFits steps.step e v × SourceIn N v

  wait_ok :
      (e : Event) (n : ℕ) → 1 ≤ n → n ≤ m → ((f : Event) (j : ℕ) → Before steps.step f j e n → Claim f j) → (w v : Wait)
      → SameSource w v → LagUpTo v w → WaitOk e n v → wait_end calls t n w ≤ wait_end late u n v
  unfolding Claim WaitOk
  wait_ok e n pos le before Call Call s l ok = called n le
  wait_ok e n pos le before Call (After f M) s l ok = absurd s
  wait_ok e n pos le before (After f L) Call s l ok = absurd s
  wait_ok e n pos le before (After f L) (After g M) s l ok =
      let there : at (t g) (n - M) ≤ at (u g) (n - M) = before g (n - M) (source_before steps.step g e n M pos ok.0) ok.1 (omega arith) in
      let fall : at (t g) (n - L) ≤ at (t g) (n - M) = (steady-t g (n - M) ok.1 (omega arith)).rising (n - L) (omega arith) in
      subst (λ x. at (t x) (n - L) ≤ at (u g) (n - M)) (sym s) (omega arith)

  waiting : (e : Event) → Waits e → (n : ℕ) → ((f : Event) (j : ℕ) → Before steps.step f j e n → Claim f j) → Claim e n
  unfolding Claim WaitOk
  waiting e we zero before e_in le = omega arith
  waiting e we (suc p) before e_in le =
      let n = suc p in
      let ok : AllByRecursion (WaitOk e n) (fewer e) = each_map₂ (fewer e) (λ w a b. (a, b)) (steps.fits e e_in we) (inside e e_in we) in
      let all = both_map (more e) (fewer e) (wait_ok e n (omega arith) le before) (same e e_in we) (lags e e_in we) ok in
      let a = quick.waited e e_in we n (omega arith) (omega arith) in
      let b = slow.waited e e_in we n (omega arith) (omega arith) in
      let c = latest_both (wait_end calls t n) (wait_end late u n) (more e) (fewer e) all in
      omega arith

  completing :
      (i : StageNo) (n : ℕ) → ((f : Event) (j : ℕ) → Before steps.step f j (Completion i) n → Claim f j)
      → Claim (Completion i) n
  unfolding Claim
  completing i n before e_in le =
      let rs = t (Release i) in
      let qs = u (Release i) in
      let rsz = quick.sized (Release i) e_in in
      let qsz = slow.sized (Release i) e_in in
      let csz = quick.sized (Completion i) e_in in
      let dsz = slow.sized (Completion i) e_in in
      let front : Granted (take n rs) = granted_front rs n (omega arith) (λ k kn. steady-t (Release i) k e_in (omega arith)) in
      let front' : Granted (take n qs) = granted_front qs n (omega arith) (λ k kn. steady-u (Release i) k e_in (omega arith)) in
      let rz : length (take n rs) ≡ n = length-take-le n rs (omega arith) in
      let qz : length (take n qs) ≡ n = length-take-le n qs (omega arith) in
      let releases : NowhereLater (take n rs) (take n qs) = record {
        same_parts = rz ∙ sym qz;
        earlier = λ k kn.
            let kn' : k ≤ n = omega arith in
            let x = before (Release i) k (elim (ℕ_discrete k n) [ yes z ↦ inr (z, steps.done i e_in) | no nz ↦ inl (omega arith) ]) e_in (omega arith) in
            let a = at_take n rs k kn' in let b = at_take n qs k kn' in omega arith;
      } in
      let one = (lawful i e_in).monotone (take n rs) (take n qs) front front' releases in
      let two = better i e_in (take n qs) front' in
      let sz = (lawful i e_in).each (take n rs) front in
      let a = ap (λ xs. at xs n) (quick.completed i e_in n (omega arith)) in
      let b = ap (λ xs. at xs n) (slow.completed i e_in n (omega arith)) in
      let a' = at_take n (t (Completion i)) n (omega arith) in
      let b' = at_take n (u (Completion i)) n (omega arith) in
      let c = one.earlier n (omega arith) in
      let d = two.earlier n (omega (arith, one.same_parts)) in
      omega arith

  claimed : (e : Event) (n : ℕ) → ((f : Event) (j : ℕ) → Before steps.step f j e n → Claim f j) → Claim e n
  claimed (Pass i) n before = waiting (Pass i) tt n before
  claimed (Release i) n before = waiting (Release i) tt n before
  claimed (Completion i) n before = completing i n before
  claimed Delivery n before = waiting Delivery tt n before

  pub compared : (e : Event) (n : ℕ) → InLine N e → n ≤ m → at (t e) n ≤ at (u e) n
  unfolding Claim
  compared = by_parts_and_steps steps.step Claim claimed
