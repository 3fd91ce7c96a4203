use Rattle.std.proofs.Common.{◌≡◌, ◌+◌, ◌*◌, ◌≤◌, ℕ, [], Err, map, length, vec_items, vec_len, get_or, sym, refl, ap, ◌∙◌, subst, arith, rules}
use Rattle.rows.specs.RowLoad.{RowLoaded}
use Rattle.controls.specs.declared.events.Event.TheVariants.{Release}
use Rattle.controls.specs.Events.{InLine, Waits}
use Rattle.controls.specs.Lists.{latest, somes}
use Rattle.controls.specs.Times.{wait_end}
use Rattle.lines.specs.Missed.{calls}
use Rattle.lines.specs.Running.{plan_waits}
use Rattle.lines.specs.Sheet.{row_of, rows}
use Rattle.lines.proofs.Ends.{in_room}
use Rattle.lines.proofs.Kept.{inside_of, steps_of, order_of}
use Rattle.lines.proofs.Loads.{row_loads, never_refused}
use Rattle.lines.proofs.Planning.{book_rises}
use Rattle.lines.proofs.Working.{placed_waits, placed_completion, granted}
use Rattle.lines.proofs.plans.Plan.place_event.Goals as goal

pub bounds-sheet-place-in_default : goal.bounds-sheet-place-in_default
bounds-sheet-place-in_default g c =
    let part = c.args.part.now in
    let k = in_room c.args.self.now.table.now.stages.count (length part.book.now.parts.items) part.index c.args.event c.requires.in_line part.booked in
    omega (arith, k, c.in_row-place.ensures, ap (λ x. x * length part.book.now.parts.items + part.index) c.row_of-at.ensures.row, c.requires.wide)

pub bounds-sheet-place : goal.bounds-sheet-place
bounds-sheet-place g c =
    let part = c.args.part.now in
    let k = in_room c.args.self.now.table.now.stages.count (length part.book.now.parts.items) part.index c.args.event c.requires.in_line part.booked in
    omega (arith, k, c.in_row-place.ensures, ap (λ x. x * length part.book.now.parts.items + part.index) c.row_of-at.ensures.row, c.requires.wide)

pub returns-in-Ok : goal.returns-in-Ok
returns-in-Ok g c = λ k h is begun first run.
    let plan = c.args.self.now in
    let N = plan.table.now.stages.count in
    let part = c.args.part.now in
    let book = c.args.part.now.book.now in
    let i = c.in-Completion.stage in
    let sz : length (vec_items c.args.part.now.book.now.parts) ≡ vec_len c.args.part.now.book.now.parts = search rules in
    let i_in = subst (InLine N) c.in-Completion.is c.requires.in_line in
    rw c.in_row-place.ensures
    (placed_completion N (plan_waits plan) plan.events.items (order_of N (plan_waits plan) plan.events.items plan.order) (inside_of N plan.table.now.told plan.table.now.orderly)
    book.parts.items c.args.sheet.now part.index k part.booked c.requires.wide h begun first (g.R.Row.meanings c.args.row.now) c.args.event
    (sym is) c.row_of-at.result c.row_of-at.ensures.row run
    (steps_of N plan.table.now.told plan.table.now.orderly) (book_rises book sz) i c.in-Completion.is (row_of N (Release i)) refl
    c.in-Ok.departure (g.R.Row.meanings c.load.new.self) (row_loads _ _ i _ _ i_in.0 (rw (← c.place-released.ensures) c.in-Ok.ensures)))

pub returns-in_default-load : goal.returns-in_default-load
returns-in_default-load g c = λ k h is begun first run.
    let plan = c.args.self.now in
    let N = plan.table.now.stages.count in
    let part = c.args.part.now in
    let book = c.args.part.now.book.now in
    let i = c.in-Completion.stage in
    let sz : length (vec_items c.args.part.now.book.now.parts) ≡ vec_len c.args.part.now.book.now.parts = search rules in
    let i_in = subst (InLine N) c.in-Completion.is c.requires.in_line in
    let ms = g.R.Row.meanings c.args.row.now in
    let le : i.0 ≤ length ms = omega (arith, i_in.1, run.stations, run.enough) in
    let ready = granted N (plan_waits plan) plan.events.items (order_of N (plan_waits plan) plan.events.items plan.order) (inside_of N plan.table.now.told plan.table.now.orderly)
    book.parts.items c.args.sheet.now part.index k part.booked c.requires.wide h begun first ms c.args.event
    (sym is) c.row_of-at.result c.row_of-at.ensures.row run
    (steps_of N plan.table.now.told plan.table.now.orderly) (book_rises book sz) i c.in-Completion.is (row_of N (Release i)) refl in
    absurd (never_refused ms _ i _ c.in_default-load.field-0 i_in.0 le ready.0 ready.1
    (subst (λ (p : ℕ). RowLoaded ms i (get_or c.args.sheet.now p 0) (Err c.in_default-load.field-0) (g.R.Row.meanings c.load.new.self))
    c.place-released.ensures c.in_default-load.ensures))

pub returns-in_default : goal.returns-in_default
returns-in_default g c = λ k h is begun first run.
    let plan = c.args.self.now in
    let N = plan.table.now.stages.count in
    let part = c.args.part.now in
    let w : Waits c.args.event = search rules in
    let parts = c.args.part.now.book.now.parts.items in
    rw c.in_row-place.ensures
    (placed_waits N (plan_waits plan) plan.events.items (order_of N (plan_waits plan) plan.events.items plan.order) (inside_of N plan.table.now.told plan.table.now.orderly)
    parts c.args.sheet.now part.index k part.booked c.requires.wide h begun first (g.R.Row.meanings c.args.row.now) c.args.event
    (sym is) c.row_of-at.result c.row_of-at.ensures.row run c.latest_wait.result w
    (c.latest_wait.ensures ∙ ap (λ os. latest (map (wait_end (calls parts) (rows N (length parts) c.args.sheet.now) (part.index + 1)) (somes os))) (ap (λ r. get_or plan.table.now.told r []) c.row_of-at.ensures.row)))
