-- Places on the sheet, and what a book that exists keeps.
use Rattle.std.proofs.Common.{◌≡◌, ℕ, suc, ◌+◌, ◌<◌, ◌≤◌, List, [], ◌∷◌, length, get_or, vec_items, vec_len, sym, ap, ◌∙◌, subst, arith}
use Rattle.std.proofs.lemmas.List.{get_or_default}
use Rattle.calendar.specs.Clock.{E}
use Rattle.stations.specs.Rule.{Rising}
use Rattle.controls.specs.declared.events.Event.{Event}
use Rattle.controls.specs.declared.events.Event.TheVariants.{Delivery}
use Rattle.controls.specs.declared.events.Wait.{Wait}
use Rattle.controls.specs.Events.{InLine}
use Rattle.lines.specs.Order.{InOrder}
use Rattle.ledger.specs.declared.bookings.Booking.{Booking}
use Rattle.ledger.specs.declared.book.Book.{Book}
use Rattle.lines.specs.Missed.{calls}

-- the calls of a book never fall
pub calls_rise :
    (bs : List Booking) → ((k : ℕ) (d : Booking) → k < length bs → ((get_or bs k d).call ≤ (get_or bs k d).due) × ((get_or bs k d).due < E))
    → ((k : ℕ) (d : Booking) → k + 1 < length bs → (get_or bs k d).call ≤ (get_or bs (k + 1) d).call) → (low : ℕ)
    → ((d : Booking) → 0 < length bs → low ≤ (get_or bs 0 d).call) → Rising low (calls bs)
calls_rise [] due order low first = tt
calls_rise (b ∷ bs) due order low first =
    let here = due 0 b (omega arith) in (
      first b (omega arith),
      omega (arith, here.0, here.1),
      calls_rise bs (λ k d h. due (suc k) d (omega arith)) (λ k d h. subst (λ n. (get_or (b ∷ bs) (suc k) d).call ≤ (get_or (b ∷ bs) n d).call) (shift k) (order (suc k) d (omega arith)))
          b.call (λ d h. order 0 d (omega arith)),
    )
  where
    shift : (k : ℕ) → suc k + 1 ≡ suc (k + 1)
    shift k = omega arith

-- the calls of a book that exists
pub book_rises : (b : Book) → length (vec_items b.parts) ≡ vec_len b.parts → Rising 0 (calls (vec_items b.parts))
book_rises b sz = calls_rise (vec_items b.parts) (λ k d h. b.dues k d (omega arith)) (λ k d h. b.order k d (omega arith)) 0 (λ d h. omega arith)

-- the events of a plan, as the code reads them
pub event_at : (es xs : List Event) → xs ≡ es → (k : ℕ) (d : Event) → k < length xs → get_or es k Delivery ≡ get_or xs k d
event_at es xs is k d h = ap (λ ys. get_or ys k Delivery) (sym is) ∙ get_or_default xs k Delivery d h

pub event_in :
    (N : ℕ) (waits : Event → List Wait) (es : List Event) → InOrder N waits es → (xs : List Event) → xs ≡ es → (k : ℕ) (d : Event)
    → k < length xs → InLine N (get_or xs k d)
event_in N waits es order xs is k d h =
    subst (InLine N) (event_at es xs is k d h) (order.begun.each k (subst (λ ys. k < length ys) is h)).inside
