use Rattle.std.proofs.Common.{sym, ap, ◌∙◌, arith}
use Rattle.calendar.specs.Week.{ordered, total}
use Rattle.calendar.proofs.Weeks.{in_order, opened_whole, total_some, table_holds}
use Rattle.calendar.proofs.week.calls.week_of.Goals as goal

pub invariant_of-result : goal.invariant_of-result
invariant_of-result c =
    let ss = c.args.shifts.now in
    let up = in_order 0 ss c.requires.rising in
    let t = table_holds ss c.copy_from_slice.new.self _ c.copy_from_slice.ensures.after in
    let all = c.opened_before.ensures ∙ opened_whole ss up in
    record {
      fit = c.requires.count.1;
      rising = ap (ordered 0) t ∙ c.requires.rising;
      sum = all ∙ sym (ap total t);
      opens = omega (arith, all, total_some ss up c.requires.count.0);
    }
