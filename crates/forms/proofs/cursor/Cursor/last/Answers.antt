use Rattle.std.proofs.Common.{◌≡◌, ◌∷◌, rules}
use Rattle.std.proofs.lemmas.List.{set-get_or}
use Rattle.forms.specs.Reading.{left}
use Rattle.forms.proofs.Listed.{last_more, last_unspaced, last_unread, last_read, last_unended, spaced_left, spaced_first, spaced_later}
use Rattle.forms.proofs.cursor.Cursor.last.Goals as goal
use Rattle.forms.proofs.cursor.Cursor.last.Goals.{then-at-gt0+in_ok-expect, else-at-gt0}

pub returns-in_err-expect : goal.returns-in_err-expect
returns-in_err-expect g c = search (rules, last_unspaced c.loop-at.invariant c.if-at-gt0.true c.loop-at-test.true c.in_err-expect.ensures.1)

pub returns-in_err-number : goal.returns-in_err-number
returns-in_err-number g c =
    let e : spaced_left c.loop-at.at (left c.loop-at.self) ≡ 32 ∷ left c.if-at-gt0.self =
    elim c.if-at-gt0.branch [
      | then-at-gt0+in_ok-expect w ↦ let a = spaced_later c.loop-at.at (left c.loop-at.self) w.if-at-gt0.true in let b = w.in_ok-expect.ensures in let s = w.self-is in cc
      | else-at-gt0 w ↦ let a = spaced_first c.loop-at.at (left c.loop-at.self) w.if-at-gt0.false in let s = w.self-is in cc
    ] in
    search (rules, last_unread c.loop-at.invariant c.loop-at-test.true e c.in_err-number.ensures.1)

pub loop-at-preserved : goal.loop-at-preserved
loop-at-preserved g c =
    let e : spaced_left c.loop-at.at (left c.loop-at.self) ≡ 32 ∷ left c.if-at-gt0.self =
    elim c.if-at-gt0.branch [
      | then-at-gt0+in_ok-expect w ↦ let a = spaced_later c.loop-at.at (left c.loop-at.self) w.if-at-gt0.true in let b = w.in_ok-expect.ensures in let s = w.self-is in cc
      | else-at-gt0 w ↦ let a = spaced_first c.loop-at.at (left c.loop-at.self) w.if-at-gt0.false in let s = w.self-is in cc
    ] in
    search (rules, last_more c.loop-at.invariant c.loop-at-test.true e c.in_ok-number.ensures.0 c.in_ok-number.ensures.1)

pub returns-in_err-expect-2 : goal.returns-in_err-expect-2
returns-in_err-expect-2 g c = search (rules, last_unended c.loop-at.invariant c.loop-at-test.false c.in_err-expect-2.ensures.1)

-- the list is taken by what it is: a number written back where it stood changes nothing
pub returns : goal.returns
returns g c = search (rules, set-get_or, last_read c.loop-at.invariant c.loop-at-test.false c.in_ok-expect-2.ensures)
