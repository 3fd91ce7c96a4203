-- What the comparison gives, over every lawful control and every lawful row.
use Rattle.std.proofs.Common.{◌≡◌, ℕ, zero, suc, ◌≤◌, List, [], ◌∷◌, ◌++◌, length, take, sym, refl, ◌∙◌, arith, length-append, length-take-le, ext_get_or}
use Rattle.std.specs.List.{AllByRecursion}
use Rattle.std.proofs.lemmas.List.Elements.{length_all_zip}
use lib.ListN.{get_or-append}
use Rattle.controls.specs.declared.events.Event.{Event}
use Rattle.controls.specs.declared.events.Wait.{Wait}
use Rattle.controls.specs.declared.events.Wait.TheVariants.{Call, After}
use Rattle.controls.proofs.Rules.{lawful_rules, better_rules, rising_granted, at_below, below_at}
use Rattle.controls.specs.Control.{Meaning, Rise, LawfulControl}
use Rattle.controls.specs.Filling.{Filled, SourceKnown}
use Rattle.controls.specs.Times.{Row, Better}
use Rattle.stations.specs.Lists.{at}
use Rattle.stations.specs.Rule.{Below}
use Rattle.controls.specs.Claims.{Setting, MoreCards, Unique, AddedAtEnd, BetterRow, Compared}
use Rattle.controls.proofs.Basics.{at_take}
use Rattle.controls.proofs.Steady.{steady}
use Rattle.controls.proofs.Compare.{compared}

below_refl : (xs : List ℕ) → Below xs xs
below_refl [] = tt
below_refl (x ∷ xs) = (omega arith, below_refl xs)

better_refl : (N : ℕ) (row : Row) → Better N row row
better_refl N row i h xs g = below_refl (row i xs)

pub rise_refl : (K : List ℕ) → Rise K K
rise_refl [] = tt
rise_refl (k ∷ K) = (omega arith, rise_refl K)

each_known : (parts n : ℕ) → n ≤ parts → (ws : List Wait) → AllByRecursion (SourceKnown (λ e m. m ≤ parts) n) ws
each_known parts n h [] = tt
each_known parts n h (Call ∷ ws) = (tt, each_known parts n h ws)
each_known parts n h (After s L ∷ ws) = (omega arith, each_known parts n h ws)

-- Of a table that is filled every minute is known.
pub filled_all : {N : ℕ} {waits : Event → List Wait} {parts : ℕ} → Filled N waits parts (λ e n. n ≤ parts)
filled_all {waits = waits} {parts = parts} = record {
  within = λ e n e_in k. k;
  down = λ e n j e_in l k. omega arith;
  source = λ e n e_in we pos k. each_known parts n k (waits e);
  release = λ i n i_in k. k;
}

-- The smaller counts K with the slower row, and the larger counts L with the quicker one.
pub compares : (C : Meaning) → LawfulControl C → Compared C
compares C laws N K L row old calls late t u rise better few many m fits fits' called quick slow =
    let rules = lawful_rules many.row_lawful in
    let steps = laws.steps N K few.fits few.lawful in
    let inside = laws.inside N K few.fits in
    compared quick slow
    (steady quick filled_all (laws.steps N L many.fits many.lawful) (laws.inside N L many.fits) rules
    (rising_granted calls many.calls_lawful))
    (steady slow filled_all steps inside (lawful_rules few.row_lawful) (rising_granted late few.calls_lawful))
    steps inside (laws.same N L K many.fits few.fits) (laws.lags N K L few.fits rise)
    rules (better_rules many.row_lawful few.row_lawful better) m fits fits' called

rise_setting :
    {C : Meaning} {N : ℕ} {K L : List ℕ} {row : Row} {calls : List ℕ} → LawfulControl C → Rise K L → Setting C N K row calls
    → Setting C N L row calls
rise_setting {N = N} {K = K} {L = L} laws rise few = record {
  fits = record { stages = few.fits.stages; count = sym (length_all_zip ◌≤◌ K L rise) ∙ few.fits.count };
  lawful = laws.rises N K L few.fits rise few.lawful;
  row_lawful = few.row_lawful;
  calls_lawful = few.calls_lawful;
}

pub more_cards : (C : Meaning) → LawfulControl C → MoreCards C
more_cards C laws N K L row calls t u rise few quick slow e e_in =
    let sz = quick.sized e e_in in
    at_below (t e) (u e) (sz ∙ sym (slow.sized e e_in)) (λ n h.
    compares C laws N K L row row calls calls t u rise (better_refl N row) few (rise_setting laws rise few)
    (length calls) (omega arith) (omega arith) (λ n h. omega arith) quick slow e n e_in (omega arith))

pub better_row : (C : Meaning) → LawfulControl C → BetterRow C
better_row C laws N K row old calls t u few row_lawful better quick slow e e_in =
    let sz = quick.sized e e_in in
    at_below (t e) (u e) (sz ∙ sym (slow.sized e e_in)) (λ n h.
    compares C laws N K K row old calls calls t u (rise_refl K) better few
    (record { fits = few.fits; lawful = few.lawful; row_lawful = row_lawful; calls_lawful = few.calls_lawful })
    (length calls) (omega arith) (omega arith) (λ n h. omega arith) quick slow e n e_in (omega arith))

same_minutes : (xs ys : List ℕ) → length xs ≡ length ys → ((n : ℕ) → n ≤ length xs → at xs n ≡ at ys n) → xs ≡ ys
same_minutes xs ys sz h = ext_get_or 0 xs ys sz (λ p l. h (suc p) l)

pub unique : (C : Meaning) → LawfulControl C → Unique C
unique C laws N K row calls t u set one two e e_in =
    let a = more_cards C laws N K K row calls t u (rise_refl K) set one two e e_in in
    let b = more_cards C laws N K K row calls u t (rise_refl K) set two one e e_in in
    let sz = one.sized e e_in ∙ sym (two.sized e e_in) in
    same_minutes (t e) (u e) sz (λ n h.
    let p = below_at (t e) (u e) a n h in let q = below_at (u e) (t e) b n (omega arith) in omega arith)

pub at_front : (xs ys : List ℕ) (n : ℕ) → n ≤ length xs → at (xs ++ ys) n ≡ at xs n
at_front xs ys zero h = refl
at_front xs ys (suc p) h = get_or-append xs ys 0 p h

pub added_at_end : (C : Meaning) → LawfulControl C → AddedAtEnd C
added_at_end C laws N K row calls added t u set all-calls one two e e_in =
    let all : Setting C N K row (calls ++ added) = record { fits = set.fits; lawful = set.lawful; row_lawful = set.row_lawful; calls_lawful = all-calls } in
    let m = length calls in
    let room : m ≤ length (calls ++ added) = simp length-append (omega arith) in
    let sz = one.sized e e_in in
    let sz' = two.sized e e_in in
    let front : length (take m (u e)) ≡ m = length-take-le m (u e) (omega arith) in
    same_minutes (t e) (take m (u e)) (sz ∙ sym front) (λ n h.
    let hm : n ≤ m = omega arith in
    let p = compares C laws N K K row row calls (calls ++ added) t u (rise_refl K) (better_refl N row) all set m (omega arith) room
    (λ k kh. omega (arith, at_front calls added k kh)) one two e n e_in hm in
    let q = compares C laws N K K row row (calls ++ added) calls u t (rise_refl K) (better_refl N row) set all m room (omega arith)
    (λ k kh. omega (arith, at_front calls added k kh)) two one e n e_in hm in
    let r = at_take m (u e) n hm in
    omega arith)
