-- The steps as the code takes them: by the book, the events of the order, and the row of an event.
use Rattle.std.proofs.Common.{◌≡◌, ℕ, zero, suc, ◌+◌, ◌-◌, ◌*◌, ◌<◌, ◌≤◌, Bool, true, false, cond, ◌||◌, eqb, List, [], map, length, get_or, take, drop, set, sym, refl, ap, ◌∙◌, subst, inl, inr, arith, eq-eqb, ne_eqb}
use borrow.Author.Tests.{clash}
use lib.ListN.{length-map}
use Rattle.std.proofs.lemmas.List.{take_more, take_all}
use Rattle.std.proofs.lemmas.Bool.{cases_eq, or_right}
use Rattle.calendar.specs.Clock.{E}
use Rattle.stations.specs.declared.numbers.StageNo.{StageNo}
use Rattle.stations.specs.Rule.{Rising, Lawful, freshened, Meaning as Station}
use Rattle.rows.specs.Row.{AllLawful}
use Rattle.controls.specs.declared.events.Event.{Event}
use Rattle.controls.specs.declared.events.Event.TheVariants.{Pass, Release, Completion, Delivery}
use Rattle.controls.specs.declared.events.Wait.{Wait}
use Rattle.controls.specs.declared.events.Wait.TheVariants.{Call, After}
use Rattle.controls.specs.Control.{Steps}
use Rattle.controls.specs.Events.{IsStage, InLine, Waits, SourceIn}
use Rattle.std.specs.List.{AllByRecursion}
use Rattle.controls.specs.Lists.{latest}
use Rattle.controls.specs.Times.{Row, LawfulRow, wait_end, Times}
use Rattle.controls.proofs.Basics.{each_map}
use Rattle.controls.proofs.Filling.{part_done}
use Rattle.ledger.specs.declared.bookings.Booking.{Booking}
use Rattle.lines.specs.Missed.{calls}
use Rattle.lines.specs.Order.{SourcePlaced, Ready, among, InOrder}
use Rattle.lines.specs.Running.{Running}
use Rattle.lines.specs.Sheet.{row_of, rows, room}
use Rattle.lines.specs.Stations.{station, fresh_rules, LoadedWith, RowLoadedWith}
use Rattle.lines.proofs.Ends.{rows_length}
use Rattle.lines.proofs.Loads.{LoadedThere, loaded_none, freshened_at, lawful_row, no_more}
use Rattle.lines.proofs.Ordering.{among_push, or_none}
use Rattle.lines.proofs.Placing.{same_row}
use Rattle.lines.proofs.Steps.{Turn, waited, completed, on_clock, timely}

placed_mono : (p q : Event → Bool) → ((f : Event) → p f ≡ true → q f ≡ true) → (w : Wait) → SourcePlaced p w → SourcePlaced q w
placed_mono p q up Call h = tt
placed_mono p q up (After s L) h = λ z. up s (h z)

ready_mono : (waits : Event → List Wait) (p q : Event → Bool) → ((f : Event) → p f ≡ true → q f ≡ true) → (e : Event) → Ready waits p e → Ready waits q e
ready_mono waits p q up (Pass i) h = each_map (waits (Pass i)) (placed_mono p q up) h
ready_mono waits p q up (Release i) h = each_map (waits (Release i)) (placed_mono p q up) h
ready_mono waits p q up (Completion i) h = up (Release i) h
ready_mono waits p q up Delivery h = each_map (waits Delivery) (placed_mono p q up) h

module _ (N : ℕ) (waits : Event → List Wait) (es : List Event) (order : InOrder N waits es) where
  one_more : (k : ℕ) → k < length es → (f : Event) → among N (take (k + 1) es) f ≡ (among N (take k es) f || eqb (row_of N (get_or es k Delivery)) (row_of N f))
  one_more k h f = ap (λ xs. among N xs f) (take_more es k Delivery h) ∙ among_push N (take k es) (get_or es k Delivery) f

  or_left : (a b : Bool) → a ≡ true → (a || b) ≡ true
  or_left true b h = refl
  or_left false b h = absurd (clash h)

  grows : (k : ℕ) → k < length es → (f : Event) → among N (take k es) f ≡ true → among N (take (k + 1) es) f ≡ true
  grows k h f p = one_more k h f ∙ or_left (among N (take k es) f) (eqb (row_of N (get_or es k Delivery)) (row_of N f)) p

  pub next_here : (k : ℕ) → k < length es → among N (take (k + 1) es) (get_or es k Delivery) ≡ true
  next_here k h = one_more k h (get_or es k Delivery) ∙ or_right (among N (take k es) (get_or es k Delivery)) (eqb (row_of N (get_or es k Delivery)) (row_of N (get_or es k Delivery))) (eq-eqb (row_of N (get_or es k Delivery)) (row_of N (get_or es k Delivery)) refl)

  pub next_other : (k : ℕ) → k < length es → (f : Event) → ¬ (row_of N f ≡ row_of N (get_or es k Delivery)) → among N (take (k + 1) es) f ≡ among N (take k es) f
  next_other k h f d = one_more k h f ∙ ap (λ b. among N (take k es) f || b) (ne_eqb (row_of N (get_or es k Delivery)) (row_of N f) (λ x. d (sym x))) ∙ or_none (among N (take k es) f)

  pub behind : (k : ℕ) → k ≤ length es → (f : Event) → InLine N f → among N (take k es) f ≡ true → Ready waits (among N (take k es)) f
  behind zero h f f-in p = absurd (clash p)
  behind (suc k) h f f-in p =
      let h' : k < length es = omega arith in
      let s : k + 1 ≡ suc k = omega arith in
      subst (λ x. Ready waits (among N (take x es)) f) s
      (ready_mono waits (among N (take k es)) (among N (take (k + 1) es)) (grows k h') f
      (elim (cases_eq (row_of N f) (row_of N (get_or es k Delivery))) [
        | inl q ↦ subst (Ready waits (among N (take k es))) (sym (same_row N f (get_or es k Delivery) f-in (order.begun.each k h').inside q)) (order.begun.each k h').ready
        | inr d ↦ behind k (omega arith) f f-in (sym (next_other k h' f d) ∙ ap (λ x. among N (take x es) f) s ∙ p)
      ]))

  pub turn_of : (inside : (f : Event) → InLine N f → Waits f → AllByRecursion (SourceIn N) (waits f)) (book : List Booking) (sheet : List ℕ) (m k : ℕ) → m < length book → room N (length book) ≤ length sheet → k < length es →
      Turn N waits (length (calls book)) m (among N (take k es)) (among N (take (k + 1) es)) sheet (get_or es k Delivery)
  turn_of inside book sheet m k hm wide hk =
      let l : length (calls book) ≡ length book = length-map book (λ (b : Booking). b.call) in
      record {
        more = subst (λ x. m < x) (sym l) hm;
        wide = subst (λ x. room N x ≤ length sheet) (sym l) wide;
        inside = inside;
        behind = behind k (omega arith);
        e_in = (order.begun.each k hk).inside;
        new = (order.begun.each k hk).new;
        ready = (order.begun.each k hk).ready;
        here = next_here k hk;
        other = λ f f-in d. next_other k hk f d;
      }

  module _ (inside : (f : Event) → InLine N f → Waits f → AllByRecursion (SourceIn N) (waits f)) (book : List Booking) (sheet : List ℕ) (m k : ℕ)
      (hm : m < length book) (wide : room N (length book) ≤ length sheet) (hk : k < length es) (begun : List Station) (first : List ℕ)
      (ms : List Station) (e : Event) (is-e : e ≡ get_or es k Delivery) (r : ℕ) (is-r : r ≡ row_of N e)
      (run : Running N waits begun (calls book) first m (among N (take k es)) sheet ms) where
    as_long : length (calls book) ≡ length book
    as_long = length-map book (λ (b : Booking). b.call)

    here : row_of N (get_or es k Delivery) * length (calls book) + m ≡ r * length book + m
    here = ap (λ x. row_of N (get_or es k Delivery) * x + m) as_long ∙ ap (λ x. x * length book + m) (sym (is-r ∙ ap (row_of N) is-e))

    pub placed_waits :
        (v : ℕ) → Waits e → v ≡ latest (map (wait_end (calls book) (rows N (length book) sheet) (m + 1)) (waits e))
        → Running N waits begun (calls book) first m (among N (take (k + 1) es)) (set sheet (r * length book + m) v) ms
    placed_waits v we is =
        let s : m + 1 ≡ suc m = omega arith in
        let is' : v ≡ latest (map (wait_end (calls book) (rows N (length (calls book)) sheet) (suc m)) (waits (get_or es k Delivery))) =
        is ∙ ap (λ x. latest (map (wait_end (calls book) (rows N x sheet) (m + 1)) (waits e))) (sym as_long)
        ∙ ap (λ x. latest (map (wait_end (calls book) (rows N (length (calls book)) sheet) x) (waits e))) s
        ∙ ap (λ x. latest (map (wait_end (calls book) (rows N (length (calls book)) sheet) (suc m)) (waits x))) is-e in
        subst (λ x. Running N waits begun (calls book) first m (among N (take (k + 1) es)) (set sheet x v) ms) here
        (waited N waits begun (calls book) first m (among N (take k es)) (among N (take (k + 1) es)) sheet (get_or es k Delivery) v
        (turn_of inside book sheet m k hm wide hk) ms (subst Waits is-e we) is' run)

    module _ (steps : ∥ Steps N waits ∥₁) (called : Rising 0 (calls book)) (i : StageNo) (is-i : e ≡ Completion i) (r' : ℕ) (is-r' : r' ≡ row_of N (Release i)) where
      arrival : get_or sheet (r' * length book + m) 0 ≡ get_or sheet (row_of N (Release i) * length (calls book) + m) 0
      arrival =
          ap (λ x. get_or sheet (x * length book + m) 0) is-r' ∙ ap (λ x. get_or sheet (row_of N (Release i) * x + m) 0) (sym as_long)

      pub placed_completion :
          (v : ℕ) (ms' : List Station) → LoadedThere ms i (get_or sheet (r' * length book + m) 0) v ms'
          → Running N waits begun (calls book) first m (among N (take (k + 1) es)) (set sheet (r * length book + m) v) ms'
      placed_completion v ms' load =
          subst (λ x. Running N waits begun (calls book) first m (among N (take (k + 1) es)) (set sheet x v) ms') here
          (completed N waits begun (calls book) first m (among N (take k es)) (among N (take (k + 1) es)) sheet (get_or es k Delivery) v
          (turn_of inside book sheet m k hm wide hk) steps called i (sym is-i ∙ is-e) ms (get_or sheet (r' * length book + m) 0) arrival run ms' load)

      pub granted : (get_or sheet (r' * length book + m) 0 ≤ E) × ((station ms i).early (get_or sheet (r' * length book + m) 0) ≡ false)
      granted = (
        on_clock N waits begun (calls book) first m (among N (take k es)) (among N (take (k + 1) es)) sheet (get_or es k Delivery) 0
            (turn_of inside book sheet m k hm wide hk) steps called i (sym is-i ∙ is-e) ms (get_or sheet (r' * length book + m) 0) arrival run,
        timely N waits begun (calls book) first m (among N (take k es)) (among N (take (k + 1) es)) sheet (get_or es k Delivery) 0
            (turn_of inside book sheet m k hm wide hk) steps called i (sym is-i ∙ is-e) ms (get_or sheet (r' * length book + m) 0) arrival run,
      )

  -- all events are placed: the part is done
  pub part_over :
      (begun : List Station) (cs first : List ℕ) (m : ℕ) (sheet : List ℕ) (ms : List Station) (k : ℕ) → length es ≤ k
      → Running N waits begun cs first m (among N (take k es)) sheet ms → Running N waits begun cs first (m + 1) (among N []) sheet ms
  part_over begun cs first m sheet ms k hk run =
      let all : (e : Event) → InLine N e → among N (take k es) e ≡ true = λ e e_in. ap (λ xs. among N xs e) (take_all k es hk) ∙ order.all e e_in in
      let s : suc m ≡ m + 1 = omega arith in
      subst (λ x. Running N waits begun cs first x (among N []) sheet ms) s (record {
        lawful = run.lawful;
        enough = run.enough;
        times = part_done m (among N (take k es)) (among N []) all (λ e e_in. refl) run.times;
        as_long = run.as_long;
        others = run.others;
        stations = run.stations;
        loaded = λ i i_in. subst (λ b. LoadedWith (fresh_rules begun i) (take (cond b (suc m) m) (rows N (length cs) sheet (Release i))) (station ms i)) (all (Completion i) i_in) (run.loaded i i_in);
        idle = run.idle;
      })

-- nothing is worked out yet, and the stations are fresh
pub at_start :
    (N : ℕ) (waits : Event → List Wait) (book : List Booking) (sheet : List ℕ) (old : List Station) → AllLawful old → N ≤ length old
    → room N (length book) ≤ length sheet
    → Running N waits (map freshened old) (calls book) sheet 0 (among N []) sheet (map freshened old)
at_start N waits book sheet old laws enough wide =
    let begun = map freshened old in
    let l : length (calls book) ≡ length book = length-map book (λ (b : Booking). b.call) in
    let l' : length (map freshened old) ≡ length old = length-map old freshened in
    let same : (i : StageNo) → station (map freshened old) i ≡ freshened (station old i) = λ i. freshened_at old (i.0 - 1) in
    let lawful : LawfulRow N (fresh_rules (map freshened old)) = λ i i_in. subst (λ (x : Station). Lawful x.fresh) (sym (same i)) (lawful_row N old laws enough i i_in) in
    let empty : (i : StageNo) → IsStage N i → fresh_rules (map freshened old) i [] ≡ [] = λ i i_in. no_more _ ((lawful i i_in).one_each [] tt) in
    record {
      lawful = lawful;
      enough = omega arith;
      times = record {
        sized = λ e e_in. rows_length N (length (calls book)) sheet e e_in (subst (λ x. room N x ≤ length sheet) (sym l) wide);
        waited = λ e e_in we n pos. elim [ inl h ↦ absurd (omega arith) | inr h ↦ absurd (clash h.1) ];
        completed = λ i i_in n. elim [
          | inl h ↦
              let z : 0 ≡ n = omega arith in
              subst (λ x. take x (rows N (length (calls book)) sheet (Completion i)) ≡ fresh_rules (map freshened old) i (take x (rows N (length (calls book)) sheet (Release i)))) z (sym (empty i i_in))
          | inr h ↦ absurd (clash h.1)
        ];
      };
      as_long = refl;
      others = refl;
      stations = refl;
      loaded = λ i i_in.
          subst (λ (x : Station). LoadedWith x.fresh [] x) (sym (same i)) (loaded_none (station old i) (lawful_row N old laws enough i i_in));
      idle = λ i past. refl;
    }

-- every part is worked out
pub at_close :
    (N : ℕ) (waits : Event → List Wait) (begun : List Station) (book : List Booking) (first : List ℕ) (m : ℕ) (sheet : List ℕ)
    (ms : List Station) → length book ≤ m → Running N waits begun (calls book) first m (among N []) sheet ms
    → Times N waits (fresh_rules begun) (calls book) (rows N (length book) sheet)
at_close N waits begun book first m sheet ms h run =
    let l : length (calls book) ≡ length book = length-map book (λ (b : Booking). b.call) in
    subst (λ x. Times N waits (fresh_rules begun) (calls book) (rows N x sheet)) l (record {
      sized = run.times.sized;
      waited = λ e e_in we n pos k. run.times.waited e e_in we n pos (inl (omega arith));
      completed = λ i i_in n k. run.times.completed i i_in n (inl (omega arith));
    })

pub close_others :
    (N : ℕ) (waits : Event → List Wait) (begun : List Station) (book : List Booking) (first : List ℕ) (m : ℕ) (sheet : List ℕ)
    (ms : List Station) → Running N waits begun (calls book) first m (among N []) sheet ms
    → drop (room N (length book)) sheet ≡ drop (room N (length book)) first
close_others N waits begun book first m sheet ms run =
    subst (λ x. drop (room N x) sheet ≡ drop (room N x) first) (length-map book (λ (b : Booking). b.call)) run.others

-- the row that was freshened is left loaded with the releases
pub close_row :
    (N : ℕ) (waits : Event → List Wait) (old : List Station) (book : List Booking) (first : List ℕ) (m : ℕ) (sheet : List ℕ)
    (ms : List Station) → length book ≤ m → room N (length book) ≤ length sheet
    → Running N waits (map freshened old) (calls book) first m (among N []) sheet ms
    → RowLoadedWith N (λ i. rows N (length book) sheet (Release i)) old ms
close_row N waits old book first m sheet ms h wide run =
    let l : length (calls book) ≡ length book = length-map book (λ (b : Booking). b.call) in
    let l' : length (map freshened old) ≡ length old = length-map old freshened in
    let same : (i : StageNo) → station (map freshened old) i ≡ freshened (station old i) = λ i. freshened_at old (i.0 - 1) in
    record {
      as_long = run.stations ∙ l';
      loaded = λ i i_in.
          let sz = rows_length N (length book) sheet (Release i) i_in wide in
          let all : take m (rows N (length (calls book)) sheet (Release i)) ≡ rows N (length book) sheet (Release i) =
          ap (λ x. take m (rows N x sheet (Release i))) l ∙ take_all m (rows N (length book) sheet (Release i)) (omega arith) in
          subst (λ xs. LoadedWith (station old i).fresh xs (station ms i)) all
          (subst (λ (x : Station). LoadedWith x.fresh (take m (rows N (length (calls book)) sheet (Release i))) (station ms i)) (same i) (run.loaded i i_in));
      others = λ i past. run.idle i past ∙ same i;
    }

-- a whole run: the times are those of the old row's fresh rules
pub closed :
    (N : ℕ) (waits : Event → List Wait) (old begun : List Station) → begun ≡ map freshened old → (book : List Booking) (first : List ℕ)
    (m : ℕ) (sheet : List ℕ) (ms : List Station) → length book ≤ m → room N (length book) ≤ length sheet
    → Running N waits begun (calls book) first m (among N []) sheet ms
    → Times N waits (fresh_rules old) (calls book) (rows N (length book) sheet)
    × (drop (room N (length book)) sheet ≡ drop (room N (length book)) first)
    × RowLoadedWith N (λ i. rows N (length book) sheet (Release i)) old ms
closed N waits old begun is book first m sheet ms h wide run =
    let run' : Running N waits (map freshened old) (calls book) first m (among N []) sheet ms = subst (λ b. Running N waits b (calls book) first m (among N []) sheet ms) is run in
    let same : ◌≡◌ {A = Row} (fresh_rules (map freshened old)) (fresh_rules old) = (λ k i. (freshened_at old (i.0 - 1) k).fresh) in (
      subst (λ rules. Times N waits rules (calls book) (rows N (length book) sheet)) same
          (at_close N waits (map freshened old) book first m sheet ms h run'),
      close_others N waits (map freshened old) book first m sheet ms run',
      close_row N waits old book first m sheet ms h wide run',
    )
