use Rattle.std.proofs.Common.{◌≡◌, ◌≤◌, ◌⊎◌, ◌∷◌, ℕ, List, inl, inr, arith, rules}
use Rattle.std.proofs.lemmas.List.{set-get_or}
use Rattle.forms.specs.Reading.{left}
use Rattle.forms.proofs.Listed.{Listing, listing_more, some}
use Rattle.inquiries.proofs.Listed.{counts_read, no_counts}
use Rattle.inquiries.proofs.reading.spaced_counts.Goals as goal
use Rattle.inquiries.proofs.reading.spaced_counts.Goals.{else-loop-value-test, then-loop-value-test+then-not-accept}

pub returns-in_err-value : goal.returns-in_err-value
returns-in_err-value c = search (rules, some c.loop-value.invariant.listing c.if-not-accept.ensures c.in_err-value.ensures.1)

pub loop-value-preserved : goal.loop-value-preserved
loop-value-preserved c = record {
  counted = omega (arith, c.loop-value.invariant.counted);
  listing = listing_more c.loop-value.invariant.listing c.loop-value-test.true c.if-not-accept.ensures c.in_ok-value.ensures.0 c.in_ok-value.ensures.1;
}

pub returns-then-count-eq0 : goal.returns-then-count-eq0
returns-then-count-eq0 c ns x fit e =
    let counted = c.loop-value.invariant.counted in
    let read : Listing 16 (left c.args.cursor.now) (left c.loop-value-test.cursor) c.loop-value-test.values c.loop-value.count
    × ((16 ≤ c.loop-value.count) ⊎ ((r : List ℕ) → left c.loop-value-test.cursor ≡ 32 ∷ r → ⊥)) =
    elim c.loop-value-test.branch [
      | else-loop-value-test w ↦ rw (w.cursor-is, w.values-is, counted) (c.loop-value.invariant.listing, inl (omega (arith, w.loop-value-test.false)))
      | then-loop-value-test+then-not-accept w ↦
          rw (w.cursor-is, w.values-is, w.if-not-accept.ensures.0, counted, set-get_or) (c.loop-value.invariant.listing, inr w.if-not-accept.ensures.1)
    ] in
    no_counts read.0 read.1 c.if-count-eq0.true ns x fit e

-- the counts are taken by what they are: a count written back where it stood changes nothing
pub returns : goal.returns
returns c =
    let counted = c.loop-value.invariant.counted in
    let read : Listing 16 (left c.args.cursor.now) (left c.loop-value-test.cursor) c.loop-value-test.values c.loop-value.count
    × ((16 ≤ c.loop-value.count) ⊎ ((r : List ℕ) → left c.loop-value-test.cursor ≡ 32 ∷ r → ⊥)) =
    elim c.loop-value-test.branch [
      | else-loop-value-test w ↦ rw (w.cursor-is, w.values-is, counted) (c.loop-value.invariant.listing, inl (omega (arith, w.loop-value-test.false)))
      | then-loop-value-test+then-not-accept w ↦
          rw (w.cursor-is, w.values-is, w.if-not-accept.ensures.0, counted, set-get_or) (c.loop-value.invariant.listing, inr w.if-not-accept.ensures.1)
    ] in
    search (rules, set-get_or, counts_read read.0 read.1 (omega arith))
