-- The look-ups of a week: counted minute by minute, shift by shift, and back.
use Rattle.std.proofs.Common.{◌≡◌, ℕ, zero, suc, ◌+◌, ◌-◌, ◌*◌, ◌/◌, ◌%◌, ◌^◌, ◌<◌, ◌≤◌, min, true, cond, List, [], ◌∷◌, ◌++◌, length, get_or, take, drop, refl, ap, ◌∙◌, mul-le-mul_right, mod-lt, add-mul, mul-le-mul_left, one-mul, div-add-mod', arith}
use native.Mathlib.Decide.{dec_le}
use Rattle.std.proofs.Math.Seq.{take-append_seam}
use Rattle.std.proofs.lemmas.List.{drop_more}
use Rattle.std.proofs.lemmas.List.Sums.{sum_by-cons}
use Rattle.std.proofs.lemmas.Bool.Decides.{nat_tests}
use Rattle.calendar.specs.Week.{ordered, open_at, open_before, opened, total, reached, time_by}
use Rattle.calendar.specs.WeekLaw.{Adjoint, Opens}
use Rattle.calendar.specs.WeekOf.{shifts_of}
use Rattle.calendar.specs.declared.shifts.Shift.{Shift}
use Rattle.calendar.specs.declared.week.Week.{Week}

-- The shifts are in rising order from the minute low on.
abbrev pub Ordered : ℕ → List Shift → Type 0
Ordered low [] = Unit {0}
Ordered low (s ∷ ss) = (low ≤ s.begin) × (s.begin < s.end) × (s.end ≤ 10080) × Ordered (suc s.end) ss

pub in_order : (low : ℕ) (ss : List Shift) → ordered low ss ≡ true → Ordered low ss
in_order low [] e = tt
in_order low (s ∷ ss) e =
    let rest : ordered (suc s.end) ss ≡ true = grind (arith, nat_tests) in
    (grind (arith, nat_tests), grind (arith, nat_tests), grind (arith, nat_tests), in_order (suc s.end) ss rest)

-- one shift more
opened_cons : (s : Shift) (ss : List Shift) (t : ℕ) → opened (s ∷ ss) t ≡ (min t s.end - s.begin) + opened ss t
opened_cons s ss t = sum_by-cons (λ (s : Shift). min t s.end - s.begin) s ss

total_cons : (s : Shift) (ss : List Shift) → total (s ∷ ss) ≡ (s.end - s.begin) + total ss
total_cons s ss = sum_by-cons (λ (s : Shift). s.end - s.begin) s ss

-- nothing is open before the first shift
opened_none : (low t : ℕ) (ss : List Shift) → Ordered low ss → t ≤ low → opened ss t ≡ 0
opened_none low t [] o h = refl
opened_none low t (s ∷ ss) o h = omega (arith, opened_cons s ss t, opened_none (suc s.end) t ss o.3 (omega (arith, o.0, o.1)), o.0, o.1)

opened_le_total : (t : ℕ) (ss : List Shift) → opened ss t ≤ total ss
opened_le_total t [] = omega arith
opened_le_total t (s ∷ ss) = omega (arith, opened_cons s ss t, total_cons s ss, opened_le_total t ss)

-- no more minutes are open than pass after low
opened_le : (low t : ℕ) (ss : List Shift) → Ordered low ss → opened ss t ≤ t - low
opened_le low t [] o = omega arith
opened_le low t (s ∷ ss) o = omega (arith, opened_cons s ss t, opened_le (suc s.end) t ss o.3, o.0, o.1)

total_le : (low : ℕ) (ss : List Shift) → Ordered low ss → total ss ≤ 10080 - low
total_le low [] o = omega arith
total_le low (s ∷ ss) o = omega (arith, total_cons s ss, total_le (suc s.end) ss o.3, o.0, o.1, o.2)

-- what reached is at the first shift and past it
reached_here : (s : Shift) (ss : List Shift) (r : ℕ) → r ≤ s.end - s.begin → reached (s ∷ ss) r ≡ s.begin + r
reached_here s ss r h = grind (arith, nat_tests)

reached_past : (s : Shift) (ss : List Shift) (r : ℕ) → s.end - s.begin < r → reached (s ∷ ss) r ≡ reached ss (r - (s.end - s.begin))
reached_past s ss r h = grind (arith, nat_tests)

pub record Within (low : ℕ) (ss : List Shift) (r : ℕ) : Type 0 where
  pub above : low < reached ss r
  pub below : reached ss r ≤ 10080
  pub up : (t : ℕ) → r ≤ opened ss t → reached ss r ≤ t
  pub down : (t : ℕ) → reached ss r ≤ t → r ≤ opened ss t

within_here :
    (low : ℕ) (s : Shift) (ss : List Shift) (r : ℕ) → Ordered low (s ∷ ss) → 1 ≤ r → r ≤ s.end - s.begin → Within low (s ∷ ss) r
within_here low s ss r o h y =
    let e = reached_here s ss r y in
    record {
      above = omega (arith, o.0);
      below = omega (arith, o.1, o.2);
      up = λ t u.
          elim (dec_le t (suc s.end))
          [ yes a ↦ omega (arith, opened_cons s ss t, opened_none (suc s.end) t ss o.3 a, o.1) | no a ↦ omega (arith, opened_cons s ss t, o.1) ];
      down = λ t u. omega (arith, opened_cons s ss t, o.1);
    }

within_past :
    (low : ℕ) (s : Shift) (ss : List Shift) (r : ℕ) → Ordered low (s ∷ ss) → s.end - s.begin < r
    → Within (suc s.end) ss (r - (s.end - s.begin)) → Within low (s ∷ ss) r
within_past low s ss r o y w =
    let e = reached_past s ss r y in
    record {
      above = omega (arith, w.above, o.0, o.1);
      below = omega (arith, w.below);
      up = λ t u.
          elim (dec_le t (suc s.end))
          [ yes a ↦ absurd (omega (arith, opened_cons s ss t, opened_none (suc s.end) t ss o.3 a, o.1)) | no a ↦ omega (arith, opened_cons s ss t, w.up t (omega (arith, opened_cons s ss t))) ];
      down = λ t u. omega (arith, opened_cons s ss t, w.down t (omega arith), w.above, o.1);
    }

pub within : (low : ℕ) (ss : List Shift) (r : ℕ) → Ordered low ss → 1 ≤ r → r ≤ total ss → Within low ss r
within low [] r o h k = absurd (omega arith)
within low (s ∷ ss) r o h k =
    elim (dec_le r (s.end - s.begin)) [
      | yes y ↦ within_here low s ss r o h y
      | no n ↦ within_past low s ss r o (omega arith) (within (suc s.end) ss (r - (s.end - s.begin)) o.3 (omega arith) (omega (arith, total_cons s ss)))
    ]

-- the open minutes before t: those of the whole weeks and of the last one
abbrev worked : List Shift → ℕ → ℕ
worked ss t = t / 10080 * total ss + opened ss (t % 10080)

-- one week more is one whole more
more_weeks : (q u n : ℕ) → q < u → q * n + n ≤ u * n
more_weeks q u n h = let k : (q + 1) * n ≤ u * n = mul-le-mul_right n (omega arith) in omega (arith, add-mul q 1 n, one-mul n)

galois_up : (ss : List Shift) (x t : ℕ) → Ordered 0 ss → 1 ≤ total ss → x ≤ worked ss t → time_by ss x ≤ t
galois_up ss zero t o p h = omega arith
galois_up ss (suc y) t o p h =
    let n : ℕ = total ss in
    let q : ℕ = y / n in
    let u : ℕ = t / 10080 in
    let m : y % n < n = mod-lt y p in
    let d : q * n + y % n ≡ y = div-add-mod' y n in
    let w : Within 0 ss (suc (y % n)) = within 0 ss (suc (y % n)) o (omega arith) m in
    let l : opened ss (t % 10080) ≤ n = opened_le_total (t % 10080) ss in
    elim (dec_le u q) [
      | yes a ↦ elim (dec_le q u) [
        | yes b ↦ let e : q ≡ u = omega arith in
            let f : q * n ≡ u * n = ap (λ z. z * n) e in
            let k : reached ss (suc (y % n)) ≤ t % 10080 = w.up (t % 10080) (omega arith) in omega arith
        | no b ↦ absurd (omega (arith, more_weeks u q n (omega arith)))
      ]
      | no a ↦ omega (arith, w.below)
    ]

galois_down : (ss : List Shift) (x t : ℕ) → Ordered 0 ss → 1 ≤ total ss → time_by ss x ≤ t → x ≤ worked ss t
galois_down ss zero t o p h = omega arith
galois_down ss (suc y) t o p h =
    let n : ℕ = total ss in
    let q : ℕ = y / n in
    let u : ℕ = t / 10080 in
    let m : y % n < n = mod-lt y p in
    let d : q * n + y % n ≡ y = div-add-mod' y n in
    let w : Within 0 ss (suc (y % n)) = within 0 ss (suc (y % n)) o (omega arith) m in
    elim (dec_le u q) [
      | yes a ↦ elim (dec_le q u) [
        | yes b ↦ let e : q ≡ u = omega arith in
            let f : q * n ≡ u * n = ap (λ z. z * n) e in
            let k : suc (y % n) ≤ opened ss (t % 10080) = w.down (t % 10080) (omega arith) in omega arith
        | no b ↦ absurd (omega (arith, w.above))
      ]
      | no a ↦ omega (arith, more_weeks q u n (omega arith))
    ]

pub worked_le : (ss : List Shift) (t : ℕ) → Ordered 0 ss → worked ss t ≤ t
worked_le ss t o =
    let k : t / 10080 * total ss ≤ t / 10080 * 10080 = mul-le-mul_left (t / 10080) (omega (arith, total_le 0 ss o)) in
    omega (arith, opened_le 0 (t % 10080) ss o)

-- one shift of a walk through the shifts
pub reached_step_here :
    (ss : List Shift) (i r : ℕ) (d : Shift) → i < length ss → r ≤ (get_or ss i d).end - (get_or ss i d).begin
    → reached (drop i ss) r ≡ (get_or ss i d).begin + r
reached_step_here ss i r d h k = ap (λ l. reached l r) (drop_more ss i d h) ∙ reached_here (get_or ss i d) (drop (i + 1) ss) r k

pub reached_step_past :
    (ss : List Shift) (i r : ℕ) (d : Shift) → i < length ss → (get_or ss i d).end - (get_or ss i d).begin < r
    → reached (drop i ss) r ≡ reached (drop (i + 1) ss) (r - ((get_or ss i d).end - (get_or ss i d).begin))
reached_step_past ss i r d h k = ap (λ l. reached l r) (drop_more ss i d h) ∙ reached_past (get_or ss i d) (drop (i + 1) ss) r k

-- each shift ends at or before the end of the week, and after it begins
pub shift_fits : (low : ℕ) (ss : List Shift) (i : ℕ) (d : Shift) → Ordered low ss → i < length ss → ((get_or ss i d).begin < (get_or ss i d).end) × ((get_or ss i d).end ≤ 10080)
shift_fits low [] i d o h = absurd (omega arith)
shift_fits low (s ∷ ss) zero d o h = (o.1, o.2)
shift_fits low (s ∷ ss) (suc i) d o h = shift_fits (suc s.end) ss i d o.3 (omega arith)

pub opened_fits : (ss : List Shift) (t : ℕ) → Ordered 0 ss → opened ss t ≤ 10080
opened_fits ss t o = omega (arith, opened_le_total t ss, total_le 0 ss o)

-- the same of shifts that were tested
pub tested_shift_fits : (ss : List Shift) (i : ℕ) (d : Shift) → ordered 0 ss ≡ true → i < length ss → ((get_or ss i d).begin ≤ (get_or ss i d).end) × ((get_or ss i d).end ≤ 10080)
tested_shift_fits ss i d o h = let f = shift_fits 0 ss i d (in_order 0 ss o) h in (omega (arith, f.0), f.1)

pub tested_opened_fits : (ss : List Shift) (t : ℕ) → ordered 0 ss ≡ true → opened ss t < 2 ^ 32
tested_opened_fits ss t o = omega (arith, opened_fits ss t (in_order 0 ss o))

opened_ended : (low t : ℕ) (ss : List Shift) → Ordered low ss → 10080 ≤ t → opened ss t ≡ total ss
opened_ended low t [] o h = refl
opened_ended low t (s ∷ ss) o h = omega (arith, opened_cons s ss t, total_cons s ss, opened_ended (suc s.end) t ss o.3 h, o.2)

pub opened_whole : (ss : List Shift) → Ordered 0 ss → opened ss 10080 ≡ total ss
opened_whole ss o = opened_ended 0 10080 ss o (omega arith)

pub total_some : (ss : List Shift) → Ordered 0 ss → 1 ≤ length ss → 1 ≤ total ss
total_some [] o h = absurd (omega arith)
total_some (s ∷ ss) o h = omega (arith, total_cons s ss, o.1)

pub table_holds : (ss cs rest : List Shift) → cs ≡ ss → take (length ss) (cs ++ rest) ≡ ss
table_holds ss cs rest e = ap (λ l. take (length ss) (l ++ rest)) e ∙ take-append_seam ss rest

opened_next : (low : ℕ) (ss : List Shift) (r : ℕ) → Ordered low ss → opened ss (suc r) ≡ opened ss r + cond (open_at ss r) 1 0
opened_next low [] r o = refl
opened_next low (s ∷ ss) r o =
    let here = opened_none (suc s.end) r ss o.3 in
    let next = opened_none (suc s.end) (suc r) ss o.3 in
    let rest = opened_next (suc s.end) ss r o.3 in
    let begins : s.begin < s.end = o.1 in
    grind (arith, nat_tests, opened_cons s ss r, opened_cons s ss (suc r))

worked_next : (ss : List Shift) (t : ℕ) → Ordered 0 ss → worked ss (suc t) ≡ worked ss t + cond (open_at ss (t % 10080)) 1 0
worked_next ss t o = go (dec_le 10079 (t % 10080))
  where
    step : opened ss (suc (t % 10080)) ≡ opened ss (t % 10080) + cond (open_at ss (t % 10080)) 1 0
    step = opened_next 0 ss (t % 10080) o

    go : Dec (10079 ≤ t % 10080) → worked ss (suc t) ≡ worked ss t + cond (open_at ss (t % 10080)) 1 0
    go (yes h) =
        let d : suc t / 10080 ≡ t / 10080 + 1 = omega arith in
        let p : suc t / 10080 * total ss ≡ (t / 10080 + 1) * total ss = ap (λ z. z * total ss) d in
        let z : opened ss (suc t % 10080) ≡ 0 = opened_none 0 (suc t % 10080) ss o (omega arith) in
        let w : opened ss (suc (t % 10080)) ≡ total ss = opened_ended 0 (suc (t % 10080)) ss o (omega arith) in
        omega (arith, step, add-mul (t / 10080) 1 (total ss), one-mul (total ss))
    go (no h) =
        let d : suc t / 10080 ≡ t / 10080 = omega arith in
        let p : suc t / 10080 * total ss ≡ t / 10080 * total ss = ap (λ z. z * total ss) d in
        let q : opened ss (suc t % 10080) ≡ opened ss (suc (t % 10080)) = ap (opened ss) (omega arith) in
        omega (arith, step)

-- counted by weeks and shifts, and counted one by one
pub worked_counts : (ss : List Shift) (t : ℕ) → Ordered 0 ss → worked ss t ≡ open_before ss t
worked_counts ss zero o = omega (arith, opened_none 0 0 ss o (omega arith))
worked_counts ss (suc t) o = worked_next ss t o ∙ ap (λ n. n + cond (open_at ss (t % 10080)) 1 0) (worked_counts ss t o)

pub adjoint : (ss : List Shift) → Ordered 0 ss → 1 ≤ total ss → Adjoint ss
adjoint ss o p =
    record {
      up = λ x t h. galois_up ss x t o p (omega (arith, worked_counts ss t o));
      down = λ x t h. let k = galois_down ss x t o p h in omega (arith, worked_counts ss t o);
    }

-- the first shift is open where it begins
first_open : (ss : List Shift) → Ordered 0 ss → 1 ≤ total ss → (m : ℕ) × (m < 10080) × (open_at ss m ≡ true)
first_open [] o p = absurd (omega arith)
first_open (s ∷ ss) o p = (s.begin, omega (arith, o.1, o.2), let begins : s.begin < s.end = o.1 in grind (arith, nat_tests))

pub opens : (ss : List Shift) → Ordered 0 ss → 1 ≤ total ss → Opens ss
opens ss o p = record { some = first_open ss o p; at_most = λ t. omega (arith, worked_counts ss t o, worked_le ss t o) }

-- what every week is known to be
pub week_ordered : (w : Week) → Ordered 0 (shifts_of w)
week_ordered w = in_order 0 (shifts_of w) w.rising

pub week_adjoint : (w : Week) → Adjoint (shifts_of w)
week_adjoint w = adjoint (shifts_of w) (week_ordered w) (omega (arith, w.opens, w.sum))

pub week_opens : (w : Week) → Opens (shifts_of w)
week_opens w = opens (shifts_of w) (week_ordered w) (omega (arith, w.opens, w.sum))

-- weeks times the open minutes of one, and those of the last week
pub week_counts :
    (w : Week) (n t : ℕ) → n ≡ total (shifts_of w)
    → (t / 10080 * n + opened (shifts_of w) (t % 10080) ≡ open_before (shifts_of w) t) × (open_before (shifts_of w) t ≤ t)
week_counts w n t e = (
  ap (λ z. t / 10080 * z + opened (shifts_of w) (t % 10080)) e ∙ worked_counts (shifts_of w) t (week_ordered w),
  (week_opens w).at_most t,
)
