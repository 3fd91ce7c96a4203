use Rattle.std.proofs.lemmas.Result.{err_from_is_err_and}
use Rattle.std.proofs.Common.{vec_items}
use Rattle.forms.specs.Stages.{stage_said}
use Rattle.jobs.proofs.Stationing.{answered_by}
use Rattle.jobs.proofs.whole.do_job.Goals as goal

pub returns-in_err-station : goal.returns-in_err-station
returns-in_err-station c =
    let p = err_from_is_err_and c.from_residual-in_err-station.result c.from_residual-in_err-station.ensures.1 in
    let list = c.in_ok-list.ensures.1 in
    rw (p.1, p.2)
    record {
      stage = stage_said c.in_ok-list.list.stage;
      entries = vec_items c.in_ok-list.list.entries;
      fits = list.0;
      written = list.1;
      refused = c.in_err-station.ensures;
    }

pub returns : goal.returns
returns c =
    let list = c.in_ok-list.ensures.1 in
    let made = c.in_ok-station.ensures in
    record {
      entries = vec_items c.in_ok-list.list.entries;
      fits = list.0;
      written = list.1;
      answered = record {
        lawful = made.0;
        shifts = made.1.0;
        named = made.1.1.0;
        answered = answered_by _ _ _ _ _ made.1.1.1 c.as_slice.ensures.value c.in_ok-answers.ensures.answered;
      };
    }
