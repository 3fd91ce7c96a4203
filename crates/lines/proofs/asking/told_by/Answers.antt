use Rattle.std.proofs.Common.{◌<◌, ◌≤◌, length, replicate, None, Option, refl, rules}
use Rattle.controls.specs.declared.events.Wait.{Wait}
use Rattle.lines.proofs.FewWaits.{few_start, few_more}
use Rattle.lines.proofs.asking.told_by.Goals as goal

pub loop-row-init : goal.loop-row-init
loop-row-init g c = (refl, few_start {A = Option Wait} (replicate 25 (replicate 3 None)) refl, search rules)

pub loop-row-preserved : goal.loop-row-preserved
loop-row-preserved g c =
    let three : length c.waits.result ≤ 3 = search rules in
    let h : c.loop-row.row < length c.loop-row.told = search rules in
    (search rules, few_more c.loop-row.told c.loop-row.row c.waits.result h c.loop-row.invariant.1 three, search rules)
