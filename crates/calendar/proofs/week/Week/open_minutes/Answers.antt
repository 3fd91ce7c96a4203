use Rattle.calendar.proofs.Weeks.{week_opens}
use Rattle.calendar.proofs.week.Week.open_minutes.Goals as goal

pub returns-clause-opens : goal.returns-clause-opens
returns-clause-opens c = (c.args.self.now.opens, week_opens c.args.self.now)
