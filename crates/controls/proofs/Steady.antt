-- Each event's minutes never fall over the parts, and are on the clock.
use Rattle.std.proofs.Common.{◌≡◌, ℕ, zero, suc, ◌-◌, ◌≤◌, List, length, take, sym, subst, inl, inr, arith, length-take-le}
use Rattle.std.specs.List.{AllByRecursion}
use native.Mathlib.Decide.{ℕ_discrete}
use Rattle.stations.specs.declared.numbers.StageNo.{StageNo}
use Rattle.controls.specs.declared.events.Event.{Event}
use Rattle.controls.specs.declared.events.Event.TheVariants.{Pass, Release, Completion, Delivery}
use Rattle.controls.specs.declared.events.Wait.{Wait}
use Rattle.controls.specs.declared.events.Wait.TheVariants.{Call, After}
use Rattle.calendar.specs.Clock.{E}
use Rattle.controls.proofs.Rules.{NeverFalls, Within, Granted, LawfulRules, lawful_rules, rising_granted, granted_rising}
use Rattle.controls.specs.Control.{StepFits, Steps}
use Rattle.controls.specs.Events.{IsStage, InLine, Waits, SourceIn}
use Rattle.controls.specs.Filling.{SourceKnown, Filled}
use Rattle.controls.specs.Times.{Row, LawfulRow, Table, wait_end, TimesOf}
use Rattle.stations.specs.Lists.{at}
use Rattle.stations.specs.Rule.{Rising}
use Rattle.controls.proofs.Basics.{Before, by_parts_and_steps, source_before, at_take, latest_mono, latest_below, each_map, each_map₂}

-- No minute up to part n is above that of part n, which is on the clock.
pub record Steady (xs : List ℕ) (n : ℕ) : Type 0 where
  pub rising : (j : ℕ) → j ≤ n → at xs j ≤ at xs n
  pub bound : at xs n ≤ E

pub granted_front : (xs : List ℕ) (n : ℕ) → n ≤ length xs → ((k : ℕ) → k ≤ n → Steady xs k) → Granted (take n xs)
granted_front xs n h steady =
    let sz : length (take n xs) ≡ n = length-take-le n xs h in
    record {
      order = record {
        rising = λ j k jk kn.
            let kn' : k ≤ n = omega arith in
            let jn' : j ≤ n = omega arith in
            let a = at_take n xs j jn' in let b = at_take n xs k kn' in let r = (steady k kn').rising j jk in omega arith;
      };
      bound = record {
        within = λ k kn.
            let kn' : k ≤ n = omega arith in
            let b = at_take n xs k kn' in let r = (steady k kn').bound in omega arith;
      };
    }

module _ {Known : Event → ℕ → Type 0} {N : ℕ} {waits : Event → List Wait} {row : Row} {calls : List ℕ} {t : Table}
    (times : TimesOf Known N waits row calls t) (filled : Filled N waits (length calls) Known) (steps : Steps N waits)
    (inside : (e : Event) → InLine N e → Waits e → AllByRecursion (SourceIn N) (waits e))
    (lawful : LawfulRules N row) (called : Granted calls) where
  Claim : Event → ℕ → Type 0
  Claim e n = InLine N e → Known e n → Steady (t e) n

  WaitSteady : ℕ → Wait → Type 0
  WaitSteady n w = (wait_end calls t n w ≤ E) × ((j : ℕ) → j ≤ n → wait_end calls t j w ≤ wait_end calls t n w)

  wait_steady :
      (e : Event) (n : ℕ) → 1 ≤ n → n ≤ length calls → ((f : Event) (j : ℕ) → Before steps.step f j e n → Claim f j)
      → (w : Wait) → StepFits steps.step e w → SourceIn N w × SourceKnown Known n w → WaitSteady n w
  unfolding Claim WaitSteady
  wait_steady e n pos le before Call h k = (called.bound.within n le, λ j jn. called.order.rising j n jn le)
  wait_steady e n pos le before (After s L) h k =
      let at_source = before s (n - L) (source_before steps.step s e n L pos h) k.0 k.1 in
      (at_source.bound, λ j jn. at_source.rising (j - L) (omega arith))

  waiting : (e : Event) → Waits e → (n : ℕ) → ((f : Event) (j : ℕ) → Before steps.step f j e n → Claim f j) → Claim e n
  unfolding Claim WaitSteady
  waiting e we zero before e_in le = record { rising = λ j jn. let z : j ≡ 0 = omega arith in subst (λ k. at (t e) k ≤ 0) (sym z) (omega arith); bound = omega arith }
  waiting e we (suc p) before e_in le =
      let n = suc p in
      let ws = waits e in
      let in-time = filled.within e n e_in le in
      let known : AllByRecursion (λ w. SourceIn N w × SourceKnown Known n w) ws = each_map₂ ws (λ w a b. (a, b)) (inside e e_in we) (filled.source e n e_in we (omega arith) le) in
      let all = each_map₂ ws (wait_steady e n (omega arith) in-time before) (steps.fits e e_in we) known in
      let here = times.waited e e_in we n (omega arith) le in
      record {
        rising = elim [
          | zero ↦ λ jn. omega arith
          | suc q ↦ λ jn.
              let there = times.waited e e_in we (suc q) (omega arith) (filled.down e n (suc q) e_in jn le) in
              let m = latest_mono (wait_end calls t (suc q)) (wait_end calls t n) ws (each_map ws (λ w h. h.1 (suc q) jn) all) in
              omega arith
        ];
        bound = let b = latest_below (wait_end calls t n) E ws (each_map ws (λ w h. h.0) all) in omega arith;
      }

  completing :
      (i : StageNo) (n : ℕ) → ((f : Event) (j : ℕ) → Before steps.step f j (Completion i) n → Claim f j)
      → Claim (Completion i) n
  unfolding Claim
  completing i n before e_in le =
      let in-time = filled.within (Completion i) n e_in le in
      let rs = t (Release i) in
      let cs = t (Completion i) in
      let rsz = times.sized (Release i) e_in in
      let csz = times.sized (Completion i) e_in in
      let front : Granted (take n rs) = granted_front rs n (omega arith) (λ k kn.
      before (Release i) k (elim (ℕ_discrete k n) [ yes z ↦ inr (z, steps.done i e_in) | no nz ↦ inl (omega arith) ]) e_in (filled.down (Release i) n k e_in kn (filled.release i n e_in le))) in
      let same = times.completed i e_in n le in
      let order : NeverFalls (take n cs) = subst NeverFalls (sym same) ((lawful i e_in).order (take n rs) front) in
      let bound : Within (take n cs) = subst Within (sym same) ((lawful i e_in).bound (take n rs) front) in
      let sz : length (take n cs) ≡ n = length-take-le n cs (omega arith) in
      let an = at_take n cs n (omega arith) in
      record {
        rising = λ j jn. let r = order.rising j n jn (omega arith) in let aj = at_take n cs j jn in omega arith;
        bound = let r = bound.within n (omega arith) in omega arith;
      }

  claimed : (e : Event) (n : ℕ) → ((f : Event) (j : ℕ) → Before steps.step f j e n → Claim f j) → Claim e n
  claimed (Pass i) n before = waiting (Pass i) tt n before
  claimed (Release i) n before = waiting (Release i) tt n before
  claimed (Completion i) n before = completing i n before
  claimed Delivery n before = waiting Delivery tt n before

  pub steady : (e : Event) (n : ℕ) → InLine N e → Known e n → Steady (t e) n
  unfolding Claim
  steady = by_parts_and_steps steps.step Claim claimed

  pub releases_granted : (i : StageNo) (n : ℕ) → IsStage N i → Known (Release i) n → Granted (take n (t (Release i)))
  releases_granted i n i_in known =
      let sz = times.sized (Release i) i_in in
      let in-time = filled.within (Release i) n i_in known in
      granted_front (t (Release i)) n (omega arith) (λ k kn. steady (Release i) k i_in (filled.down (Release i) n k i_in kn known))

-- So a station can be loaded with the releases that are known.
pub releases_rising :
    {Known : Event → ℕ → Type 0} {N : ℕ} {waits : Event → List Wait} {row : Row} {calls : List ℕ} {t : Table}
    → TimesOf Known N waits row calls t → Filled N waits (length calls) Known → Steps N waits
    → ((e : Event) → InLine N e → Waits e → AllByRecursion (SourceIn N) (waits e)) → LawfulRow N row → Rising 0 calls
    → (i : StageNo) (n : ℕ) → IsStage N i → Known (Release i) n → Rising 0 (take n (t (Release i)))
releases_rising {calls = calls} times filled steps inside lawful called i n i_in known =
    granted_rising _ (releases_granted times filled steps inside (lawful_rules lawful) (rising_granted calls called) i n i_in known)
