-- What stands when a run is granted, and what follows for two of them.
use Rattle.std.proofs.Common.{◌≡◌, ℕ, ◌+◌, ◌-◌, ◌*◌, ◌≤◌, Bool, true, false, List, length, take, drop, Ok, Option, refl, ap, ◌∙◌, subst, inl, inr, arith}
use Rattle.std.proofs.lemmas.Bool.{cases_eq, cases_lt}
use Rattle.stations.specs.declared.numbers.PartNo.{PartNo}
use Rattle.stations.specs.Rule.{Rising, Meaning as Station}
use Rattle.rows.specs.Row.{AllLawful}
use Rattle.controls.specs.declared.events.Event.TheVariants.{Release, Delivery}
use Rattle.controls.specs.declared.events.Wait.{Wait}
use Rattle.controls.specs.Control.{Fits, LawfulControl, Meaning as Controls}
use Rattle.controls.specs.Times.{Times}
use Rattle.controls.proofs.Consequences.{more_cards}
use Rattle.ledger.specs.declared.bookings.Booking.{Booking}
use Rattle.lines.specs.Asked.{asked, Tells}
use Rattle.lines.specs.Missed.{calls, how_many_missed, FirstMissed}
use Rattle.lines.specs.Refusals.{NoneHolds}
use Rattle.lines.specs.Runs.{shop_of, Wrote, against_run, Ran, MoreCardsNothingLater}
use Rattle.lines.specs.Sheet.{rows, room}
use Rattle.lines.specs.Stations.{fresh_rules, RowLoadedWith}
use Rattle.lines.proofs.Loads.{lawful_row}
use Rattle.lines.proofs.ToldWaits.{times_told}

-- what a granted run can rely on
pub record Clear (C : Controls) (N : ℕ) (ms : List Station) (parts : ℕ) (K : List ℕ) (size : ℕ) : Type 0 where
  pub few : N ≤ 8
  pub enough : N ≤ length ms
  pub fits : Fits C N K
  pub lawful : C.lawful N K ≡ true
  pub wide : room N parts ≤ size

not_false : (b : Bool) → ¬ (b ≡ false) → b ≡ true
not_false true h = refl
not_false false h = absurd (h refl)

pub clear :
    (C : Controls) (N : ℕ) (ms : List Station) (parts : ℕ) (K : List ℕ) (size : ℕ)
    → NoneHolds (against_run (shop_of C N ms) parts K size) → Clear C N ms parts K size
clear C N ms parts K size h = record {
  few = elim (cases_lt 8 N) [ inl l ↦ absurd (h.0 (inr (inl l))) | inr l ↦ l ];
  enough = elim (cases_lt (length ms) N) [ inl l ↦ absurd (h.0 (inr (inr l))) | inr l ↦ l ];
  fits = record {
    stages = elim (cases_lt N 1) [ inl l ↦ absurd (h.0 (inl l)) | inr l ↦ l ];
    count = elim (cases_eq (length K) (C.per_stage * N)) [ inl e ↦ e | inr d ↦ absurd (h.1.0 d) ];
  };
  lawful = not_false (C.lawful N K) h.1.1.0;
  wide = elim (cases_lt size (room N parts)) [ inl l ↦ absurd (h.1.1.1.0 l) | inr l ↦ l ];
}

-- of two granted runs the one with nowhere fewer cards is nowhere later
pub nothing_later :
    (C : Controls) → LawfulControl C → (N : ℕ) (ms : List Station) → AllLawful ms → (book : List Booking) → Rising 0 (calls book)
    → (K : List ℕ) (size : ℕ) → NoneHolds (against_run (shop_of C N ms) (length book) K size) → (sheet sheet' : List ℕ) (a : ℕ × Option PartNo)
    → Wrote (shop_of C N ms) book K sheet sheet' → MoreCardsNothingLater (shop_of C N ms) book K (Ok a) sheet'
nothing_later C laws N ms lawful book called K size granted sheet sheet' a wrote L other other' row row' b ran =
    let k = clear C N ms (length book) K size granted in
    let l = clear C N ms (length book) L (length other) ran.0 in
    let rows-lawful = lawful_row N ms lawful k.enough in (
      (λ rise. more_cards C laws N K L (fresh_rules ms) (calls book) (rows N (length book) other') (rows N (length book) sheet') rise
          (record { fits = k.fits; lawful = k.lawful; row_lawful = rows-lawful; calls_lawful = called }) ran.1.times wrote.times Delivery tt),
      (λ rise. more_cards C laws N L K (fresh_rules ms) (calls book) (rows N (length book) sheet') (rows N (length book) other') rise
          (record { fits = l.fits; lawful = l.lawful; row_lawful = rows-lawful; calls_lawful = called }) wrote.times ran.1.times Delivery tt),
    )

-- the last row of the sheet
pub delivery_row :
    (N n : ℕ) (sheet : List ℕ) (m : ℕ) → m ≡ n → take (3 * N * m + m - 3 * N * m) (drop (3 * N * m) sheet) ≡ rows N n sheet Delivery
delivery_row N n sheet m is =
    let a : 3 * N * m + m - 3 * N * m ≡ n = omega arith in
    let b : 3 * N ≡ N + N + N = omega arith in
    ap (λ x. take x (drop (3 * N * m) sheet)) a ∙ ap (λ x. take n (drop (x * m) sheet)) b ∙ ap (λ x. take n (drop ((N + N + N) * x) sheet)) is

-- what working the parts out has left, by the waits that were told
pub record Evaluated (N : ℕ) (told : List (List (Option Wait))) (book : List Booking) (ms : List Station) (sheet sheet' : List ℕ) (ms' : List Station) : Type 0 where
  pub times : Times N (asked N told) (fresh_rules ms) (calls book) (rows N (length book) sheet')
  pub others : drop (room N (length book)) sheet' ≡ drop (room N (length book)) sheet
  pub row : RowLoadedWith N (λ i. rows N (length book) sheet' (Release i)) ms ms'

-- so a granted run answers
pub run_ends :
    (C : Controls) → LawfulControl C → (N : ℕ) (ms : List Station) → AllLawful ms → (book : List Booking) → Rising 0 (calls book)
    → (K sheet : List ℕ) → NoneHolds (against_run (shop_of C N ms) (length book) K (length sheet))
    → (M : ℕ) → M ≡ N → (told : List (List (Option Wait))) → Tells N (C.waits N K) told
    → (sheet' : List ℕ) (ms' : List Station) → length sheet' ≡ length sheet → Evaluated M told book ms sheet sheet' ms'
    → (a : ℕ × Option PartNo) (ds : List ℕ) → ds ≡ rows N (length book) sheet' Delivery
    → a.0 ≡ how_many_missed book ds → FirstMissed book ds a.1
    → Ran (shop_of C N ms) book K sheet ms (Ok a) sheet' ms' × MoreCardsNothingLater (shop_of C N ms) book K (Ok a) sheet'
run_ends C laws N ms lawful book called K sheet granted M is told tells sheet' ms' sized worked a ds last counted first =
    let here = subst (λ n. Evaluated n told book ms sheet sheet' ms') is worked in
    let wrote : Wrote (shop_of C N ms) book K sheet sheet' = record {
      times = times_told N (C.waits N K) told tells (fresh_rules ms) (calls book) (rows N (length book) sheet') here.times;
      as_long = sized;
      others = here.others;
    } in (
      (granted, wrote, counted ∙ ap (how_many_missed book) last, subst (λ xs. FirstMissed book xs a.1) last first, here.row),
      nothing_later C laws N ms lawful book called K (length sheet) granted sheet sheet' a wrote,
    )
