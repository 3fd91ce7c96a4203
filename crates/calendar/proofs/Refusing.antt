-- The walk through the shifts that finds the first one at fault.
use Rattle.std.proofs.Common.{◌≡◌, ℕ, zero, suc, ◌<◌, ◌≤◌, true, ◌&&◌, ltb, leb, List, [], ◌∷◌, length, get_or, Some, None, Option, sym, refl, arith}
use Rattle.std.specs.Option.{option_or}
use Rattle.std.proofs.lemmas.Bool.Decides.{nat_tests}
use Rattle.calendar.specs.Settings.{Told}
use Rattle.calendar.specs.Week.{ordered}
use Rattle.calendar.specs.WeekRefused.{shift_past, first_past, shift_unordered, first_unordered}
use Rattle.calendar.specs.declared.shifts.Shift.{Shift}

or_first : (o p : Option Told) → option_or o p ≡ None → o ≡ None
or_first None p h = refl
or_first (Some x) p h = h

or_second : (o p : Option Told) → option_or o p ≡ None → p ≡ None
or_second None p h = h
or_second (Some x) p h = cc

shift_inside : (p : ℕ) (s : Shift) → shift_past p s ≡ None → s.end ≤ 10080
shift_inside p s h = grind (arith, nat_tests)

unordered_none : (p low : ℕ) (s : Shift) → shift_unordered p low s ≡ None → (leb low s.begin && ltb s.begin s.end) ≡ true
unordered_none p low s h = grind (arith, nat_tests)

-- shifts of which none is at fault are in order
ordered_by : (p q low : ℕ) (ss : List Shift) → first_past p ss ≡ None → first_unordered q low ss ≡ None → ordered low ss ≡ true
ordered_by p q low [] h k = refl
ordered_by p q low (s ∷ ss) h k =
    let a = shift_inside p s (or_first (shift_past p s) _ h) in
    let b = unordered_none q low s (or_first (shift_unordered q low s) _ k) in
    let c = ordered_by (suc p) (suc q) (suc s.end) ss (or_second (shift_past p s) _ h) (or_second (shift_unordered q low s) _ k) in
    grind (arith, nat_tests)

pub lawful_ordered : (ss : List Shift) → None ≡ first_past 1 ss → None ≡ first_unordered 1 0 ss → ordered 0 ss ≡ true
lawful_ordered ss h k = ordered_by 1 1 0 ss (sym h) (sym k)

-- shifts that are inside the week end there
pub past_none : (p : ℕ) (ss : List Shift) (i : ℕ) (d : Shift) → first_past p ss ≡ None → i < length ss → (get_or ss i d).end ≤ 10080
past_none p [] i d h l = absurd (omega arith)
past_none p (s ∷ ss) zero d h l = shift_inside p s (or_first (shift_past p s) _ h)
past_none p (s ∷ ss) (suc i) d h l = past_none (suc p) ss i d (or_second (shift_past p s) _ h) (omega arith)
