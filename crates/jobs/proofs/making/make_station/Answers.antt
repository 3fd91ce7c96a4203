use Rattle.calendar.specs.WeekOf.{shifts_of}
use Rattle.jobs.proofs.Stationing.{none_refused, stationed}
use Rattle.jobs.proofs.making.make_station.Goals as goal

pub returns : goal.returns
returns c =
    let form = c.args.form in
    let core = c.in_ok-core.ensures in
    let way = c.in_ok-way.ensures in
    let travel = c.unwrap_or.ensures in (
      none_refused form.core form.travel _ _ way.1 travel core.0 way.0,
      (
        shifts_of c.in_ok-week.week,
        (c.in_ok-week.ensures, stationed form.core form.travel _ _ way.1 travel _ _ _ core.1 c.piled.ensures),
      ),
    )
