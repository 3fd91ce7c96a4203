use Rattle.std.proofs.Common.{[], None, vec_items, ap, subst}
use Rattle.stations.specs.Rule.{Rule, Meaning}
use Rattle.jobs.specs.Run.{Worked, Answered}
use Rattle.jobs.proofs.Answering.{keeps_none, keeps_more, keeps_all, goes_none, goes_more, goes_all}
use Rattle.jobs.proofs.runs.work_through.Goals as goal

pub loop-asked-init : goal.loop-asked-init
loop-asked-init g c = (
  keeps_none c.args.entries.now _ _ (g.S.Station.meaning c.args.station.now) (g.met.S.Station.lawful c.fresh.new.self) c.fresh.ensures
      c.new-answers.ensures.items,
  goes_none c.args.entries.now _ (g.S.Station.meaning c.fresh.new.self) c.new-answers.ensures.items,
)

pub loop-asked-preserved : goal.loop-asked-preserved
loop-asked-preserved g c = (
  keeps_more _ c.args.entries.now c.loop-asked.asked-index _ _ _ _ _ _ (g.met.S.Station.lawful c.fresh.new.self) c.loop-asked-test.true
      c.answer.ensures c.in_ok-push.ensures.items c.loop-asked.invariant.0,
  goes_more (g.S.Station.meaning c.fresh.new.self) c.args.entries.now c.loop-asked.asked-index _ _ _ _ _ _ c.loop-asked-test.true
      c.answer.ensures c.in_ok-push.ensures.items c.loop-asked.invariant.1,
)

pub returns : goal.returns
returns g c =
    let P : Rule → Type 0 = λ rule. Answered rule [] None c.args.entries.now (vec_items c.loop-asked.answers) in
    let Q : Meaning → Type 0 = λ m. Worked m c.args.entries.now (vec_items c.loop-asked.answers) (g.S.Station.meaning c.loop-asked.station) in
    record {
      answered = subst P (ap (λ (m : Meaning). m.fresh) c.fresh.ensures)
          (keeps_all _ c.args.entries.now c.loop-asked.asked-index _ _ c.loop-asked-test.false c.loop-asked.invariant.0);
      left = subst Q c.fresh.ensures
          (goes_all (g.S.Station.meaning c.fresh.new.self) c.args.entries.now c.loop-asked.asked-index _ _ c.loop-asked-test.false
          c.loop-asked.invariant.1);
    }
