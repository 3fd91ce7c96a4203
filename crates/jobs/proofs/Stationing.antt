-- A station is made of what its parts were made of.
use Rattle.std.proofs.Common.{◌≡◌, ℕ, List, [], None, Option, sym, ap, ◌∙◌, subst}
use Rattle.std.specs.Option.{option_or}
use Rattle.calendar.specs.Settings.{Told, first_off}
use Rattle.calendar.specs.declared.settings.Piece.TheVariants as pieces
use Rattle.calendar.specs.declared.shifts.Shift.{Shift}
use Rattle.forms.specs.declared.stages.CoreForm.{CoreForm}
use Rattle.stations.specs.Layer.{layered}
use Rattle.stations.specs.Pieces.{moving, in_shifts, move_settings}
use Rattle.stations.specs.Rule.{Meaning, freshened}
use Rattle.arrivals.specs.declared.lines.Entry.{Entry}
use Rattle.jobs.specs.Run.{Answered}
use Rattle.jobs.specs.declared.answers.Answer.{Answer}
use Rattle.jobs.specs.Make.{core_refusal, core_meaning, travel_minutes, make_refusal}

module _ (form : CoreForm) (travel : Option ℕ) (ways given : ℕ) (same : ways ≡ given) (is : given ≡ travel_minutes travel) where
  pub none_refused :
      core_refusal form ≡ None → first_off pieces.Move 1 (move_settings given) ≡ None → make_refusal form travel ≡ None
  none_refused core move =
      ap (λ (o : Option Told). option_or o (first_off pieces.Move 1 (move_settings (travel_minutes travel)))) core
      ∙ ap (λ n. first_off pieces.Move 1 (move_settings n)) (sym is) ∙ move

  pub stationed :
      (ss : List Shift) (core m : Meaning) → core ≡ core_meaning form → m ≡ freshened (layered (moving ways) None (layered (in_shifts ss) None core))
      → m ≡ freshened (layered (moving (travel_minutes travel)) None (layered (in_shifts ss) None (core_meaning form)))
  stationed ss core m c e =
      e
      ∙ ap (λ (n : Meaning). freshened (layered (moving ways) None (layered (in_shifts ss) None n))) c
      ∙ ap (λ t. freshened (layered (moving t) None (layered (in_shifts ss) None (core_meaning form)))) (same ∙ is)

-- equal stations answer equal entries alike
pub answered_by :
    (m n : Meaning) (es fs : List Entry) (answers : List Answer) → m ≡ n → es ≡ fs → Answered m.fresh [] None es answers
    → Answered n.fresh [] None fs answers
answered_by m n es fs answers e f h =
    let P : Meaning → Type 0 = λ x. Answered x.fresh [] None fs answers in
    let Q : List Entry → Type 0 = λ x. Answered m.fresh [] None x answers in
    subst P e (subst Q f h)
