use Rattle.std.proofs.Common.{◌≡◌, ℕ, zero, suc, ◌<◌, ◌++◌, codes, decimal, refl, ◌∙◌, ap, arith}
use Rattle.controls.specs.declared.events.Event.{Event}
use Rattle.controls.specs.declared.events.Wait.TheVariants.{After}
use Rattle.controls.specs.Words.{event_words, wait_words}
use Rattle.controls.proofs.events.WaitDisplay.fmt.Goals as goal

earlier : (source : Event) (lag : ℕ) → 0 < lag → wait_words (After source lag) ≡ event_words source ++ (codes " of the part " ++ (decimal lag ++ codes " before"))
earlier source zero h = absurd (omega arith)
earlier source (suc l) h = refl

pub returns-in-After-clause-writes : goal.returns-in-After-clause-writes
returns-in-After-clause-writes g c plain ok =
    let w = c.in-After in
    rw (ap wait_words w.is ∙ earlier w.source w.lag c.if-lag-gt0.true) (c.write-in-After.ensures.writes plain ok)
