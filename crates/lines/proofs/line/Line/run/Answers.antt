use Rattle.std.proofs.Common.{◌≡◌, length, vec_items, vec_len, Ok, sym, refl, ap, ◌∙◌, subst, rules}
use Rattle.lines.specs.declared.asking.WaitTable.{WaitTable}
use Rattle.lines.specs.Asked.{Tells}
use Rattle.lines.specs.Runs.{shop_of, Ran, MoreCardsNothingLater}
use Rattle.lines.proofs.Granting.{delivery_row, run_ends}
use Rattle.lines.proofs.Planning.{book_rises}
use Rattle.lines.proofs.line.Line.run.Goals as goal

pub returns : goal.returns
returns g c =
    let line = c.args.self.now in
    let book = c.args.book.now in
    let N = line.stages in
    let C = g.C.Control.meaning line.control in
    let plan = c.by-plan.result in
    let sz : length (vec_items book.parts) ≡ vec_len book.parts = search rules in
    let K = c.counts.result.now in
    let is : plan.table.now.stages.count ≡ N = ap (λ (t : WaitTable). t.stages.count) c.by-plan.ensures ∙ c.ask-table.ensures.stages in
    let tells : Tells N (C.waits N K) plan.table.now.told = subst (λ (t : WaitTable). Tells N (C.waits N K) t.told) (sym c.by-plan.ensures) c.ask-table.ensures.tells in
    let end = run_ends C (g.met.C.Control.lawful line.control) N (g.R.Row.meanings line.row) (g.met.R.Row.lawful line.row) book.parts.items (book_rises book sz)
    K c.args.sheet.now c.in_ok-admit.ensures plan.table.now.stages.count is plan.table.now.told
    tells c.evaluate.new.sheet (g.R.Row.meanings c.evaluate.new.row) c.evaluate.auto.sheet
    (record { times = c.evaluate.ensures.times; others = c.evaluate.ensures.others; row = c.evaluate.ensures.row }) c.missed.result _
    (delivery_row N (length book.parts.items) c.evaluate.new.sheet (length c.parts-parts.result.now) (ap length c.parts-parts.ensures)) c.missed.ensures.count c.missed.ensures.first in
    let done = subst (λ K. Ran (shop_of C N (g.R.Row.meanings line.row)) book.parts.items K c.args.sheet.now (g.R.Row.meanings line.row) (Ok c.missed.result) c.evaluate.new.sheet (g.R.Row.meanings c.evaluate.new.row)
    × MoreCardsNothingLater (shop_of C N (g.R.Row.meanings line.row)) book.parts.items K (Ok c.missed.result) c.evaluate.new.sheet) c.counts.ensures end in
    record { ran = done.0; same = (refl, refl); later = done.1 }
