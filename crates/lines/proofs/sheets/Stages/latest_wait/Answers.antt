use Rattle.std.proofs.Common.{◌+◌, ◌<◌, ◌≤◌, max, length, sym, ap, ◌∙◌, rules}
use Rattle.lines.specs.Missed.{calls}
use Rattle.lines.specs.Sheet.{rows}
use Rattle.lines.proofs.Ends.{latest_more, latest_all}
use Rattle.lines.proofs.sheets.Stages.latest_wait.Goals as goal

pub loop-wait-preserved : goal.loop-wait-preserved
loop-wait-preserved c =
    let t = rows c.args.self.count (length c.args.part.now.book.now.parts.items) c.args.sheet.now in
    let h : c.loop-wait.wait-index < length c.args.waits.now = search rules in
    let e = latest_more (calls c.args.part.now.book.now.parts.items) t (c.args.part.now.index + 1) c.args.waits.now c.loop-wait.wait-index h in
    c.max-latest.ensures ∙ ap (λ x. max x c.wait_end.result) c.loop-wait.invariant ∙ ap (max _) c.wait_end.ensures ∙ sym e

pub returns : goal.returns
returns c =
    let t = rows c.args.self.count (length c.args.part.now.book.now.parts.items) c.args.sheet.now in
    let h : length c.args.waits.now ≤ c.loop-wait.wait-index = search rules in
    c.loop-wait.invariant ∙ latest_all (calls c.args.part.now.book.now.parts.items) t (c.args.part.now.index + 1) c.args.waits.now c.loop-wait.wait-index h
