use Rattle.std.proofs.Common.{◌≡◌, ◌+◌, ◌<◌, length, vec_items, is_ok, sym, ap, subst, rules}
use Rattle.std.proofs.ResultArms.{chosen}
use Rattle.std.proofs.lemmas.List.{nil_from_length}
use Rattle.forms.specs.Reading.{left}
use Rattle.arrivals.proofs.Held.{Held, held_more, held_all, held_bad, kept, changed}
use Rattle.arrivals.proofs.lists.read_entries.Goals as goal

pub returns-in_err-entry : goal.returns-in_err-entry
returns-in_err-entry c =
    let some : 0 < length (left c.loop-cursor.cursor) = search rules in
    let place : c.len.result + 2 ≡ length (vec_items c.loop-cursor.entries) + 2 = search rules in
    let p = changed _ c.entry_line.result c.map_err.result c.in_err-entry.field-0.0 c.map_err.ensures.cases c.in_err-entry.was in
    let same = p.1 in
    let bad = held_bad {fault = p.0} c.loop-cursor.invariant some place (rw same at c.entry_line.ensures) in
    search (rules, bad, p.2)

pub loop-cursor-preserved : goal.loop-cursor-preserved
loop-cursor-preserved c =
    let same = kept _ c.entry_line.result c.map_err.result c.in_ok-entry.entry c.map_err.ensures.cases c.in_ok-entry.was in
    let read = rw same at c.entry_line.ensures in
    let pushed = chosen _ _ _ _ c.push.ensures.items (ap is_ok c.in_ok-push.was) in
    subst (Held c.args.text.now c.entry_line.new.cursor.rest.now) (sym pushed) (held_more c.loop-cursor.invariant read)

pub returns : goal.returns
returns c = held_all c.loop-cursor.invariant (nil_from_length _ (search rules))
