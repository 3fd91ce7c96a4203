-- One event of a part is worked out.
use Rattle.std.proofs.Common.{◌≡◌, ℕ, zero, suc, ◌+◌, ◌-◌, ◌*◌, ◌/◌, ◌%◌, ◌<◌, ◌≤◌, Bool, true, false, cond, ◌⊎◌, List, [], ◌∷◌, ◌++◌, map, length, get_or, take, drop, set, sym, refl, ap, ◌∙◌, subst, inl, inr, arith, length-set}
use native.Mathlib.Decide.{ℕ_discrete}
use borrow.Author.Tests.{clash}
use Rattle.std.proofs.lemmas.Nat.{div-mul-add, mod-mul-add}
use Rattle.std.proofs.lemmas.List.{get_or-set_same, get_or-set_other, take_more, drop-set-lt}
use Rattle.std.proofs.lemmas.Bool.{cases_eq}
use Rattle.std.proofs.Math.Logic.{∥∥₁_elim}
use Rattle.std.specs.Coded.{le_prop}
use Rattle.calendar.specs.Clock.{E}
use Rattle.stations.specs.declared.numbers.StageNo.{StageNo}
use Rattle.stations.specs.Lists.{at}
use Rattle.stations.specs.Rule.{Rising, Meaning as Station}
use Rattle.controls.specs.declared.events.Event.{Event}
use Rattle.controls.specs.declared.events.Event.TheVariants.{Release, Completion}
use Rattle.controls.specs.declared.events.Wait.{Wait}
use Rattle.controls.specs.declared.events.Wait.TheVariants.{Call, After}
use Rattle.controls.specs.Control.{Steps}
use Rattle.controls.specs.Events.{IsStage, InLine, Waits, SourceIn}
use Rattle.controls.specs.Filling.{Filled, SourceKnown}
use Rattle.std.specs.List.{AllByRecursion}
use Rattle.controls.specs.Lists.{latest}
use Rattle.controls.specs.Times.{Table, wait_end}
use Rattle.controls.proofs.Basics.{each_map, each_map₂}
use Rattle.controls.proofs.Filling.{same_latest, same_front, known_kept, UpTo, placed_more}
use Rattle.controls.proofs.Steady.{releases_rising}
use Rattle.lines.specs.Order.{SourcePlaced, Ready}
use Rattle.lines.specs.Running.{Running}
use Rattle.lines.specs.Sheet.{row_of, rows, room}
use Rattle.lines.specs.Stations.{station, fresh_rules, LoadedWith}
use Rattle.lines.proofs.Ends.{in_room, rows_length, rows_at}
use Rattle.lines.proofs.Loads.{rising_rest, not_early, answered, loaded_more, LoadedThere}
use Rattle.lines.proofs.Placing.{same_row, same_stage, waits_ready}

-- the minutes of m parts and of the placed events of the next one are a filled part of a table
filled_up_to :
    (N : ℕ) (waits : Event → List Wait) (parts m : ℕ) (p : Event → Bool) → suc m ≤ parts
    → ((e : Event) → InLine N e → p e ≡ true → Ready waits p e) → Filled N waits parts (UpTo m p)
filled_up_to N waits parts m p more ready = record {
  within = λ e n e_in. elim [ inl h ↦ omega arith | inr h ↦ omega (arith, h.0) ];
  down = λ e n j e_in l. elim [
    | inl h ↦ inl (omega arith)
    | inr h ↦ elim (ℕ_discrete j (suc m)) [ yes z ↦ inr (z, h.1) | no nz ↦ inl (omega (arith, h.0)) ]
  ];
  source = λ e n e_in we pos. elim [
    | inl h ↦ early n h (waits e)
    | inr h ↦ each_map (waits e) (λ w. now n h.0 w) (waits_ready waits p e we (ready e e_in h.1))
  ];
  release = λ i n i_in. elim [ inl h ↦ inl h | inr h ↦ inr (h.0, ready (Completion i) i_in h.1) ];
}
  where
    early : (n : ℕ) → n ≤ m → (ws : List Wait) → AllByRecursion (SourceKnown (UpTo m p) n) ws
    early n h [] = tt
    early n h (Call ∷ ws) = (tt, early n h ws)
    early n h (After s L ∷ ws) = (inl (omega arith), early n h ws)

    now : (n : ℕ) → n ≡ suc m → (w : Wait) → SourcePlaced p w → SourceKnown (UpTo m p) n w
    now n is Call h = tt
    now n is (After s L) h = elim (ℕ_discrete L 0) [ yes z ↦ inr (omega arith, h z) | no nz ↦ inl (omega arith) ]

rising_prop : (low : ℕ) (xs : List ℕ) → IsProp (Rising low xs)
rising_prop low [] p q = λ i. tt
rising_prop low (x ∷ xs) p q = λ i. (le_prop p.0 q.0 i, le_prop p.1 q.1 i, rising_prop x xs p.2 q.2 i)

apart : (a b n i j : ℕ) → i < n → j < n → ¬ ((a ≡ b) × (i ≡ j)) → ¬ (a * n + i ≡ b * n + j)
apart a b n i j hi hj d e =
    d (sym (div-mul-add a n i hi) ∙ ap (λ x. x / n) e ∙ div-mul-add b n j hj, sym (mod-mul-add a n i hi) ∙ ap (λ x. x % n) e ∙ mod-mul-add b n j hj)

pub rows_other : (N n : ℕ) (sheet : List ℕ) (e f : Event) (m v k : ℕ) → m < n → k ≤ n → ¬ ((row_of N f ≡ row_of N e) × (k ≡ suc m)) →
    at (rows N n (set sheet (row_of N e * n + m) v) f) k ≡ at (rows N n sheet f) k
rows_other N n sheet e f m v zero hm hk d = refl
rows_other N n sheet e f m v (suc j) hm hk d =
    rows_at N n (set sheet (row_of N e * n + m) v) f j hk ∙
    get_or-set_other sheet (row_of N e * n + m) (row_of N f * n + j) v 0 (apart (row_of N f) (row_of N e) n j m hk hm (λ b. d (b.0, ap suc b.1))) ∙
    sym (rows_at N n sheet f j hk)

pub rows_here : (N n : ℕ) (sheet : List ℕ) (e : Event) (m v : ℕ) → InLine N e → m < n → room N n ≤ length sheet → at (rows N n (set sheet (row_of N e * n + m) v) e) (suc m) ≡ v
rows_here N n sheet e m v e_in hm wide =
    let r = in_room N n m e e_in hm in
    rows_at N n (set sheet (row_of N e * n + m) v) e m hm ∙ get_or-set_same sheet (row_of N e * n + m) v 0 (omega arith)

-- The event e comes next for part m + 1; those of p are worked out, and then those of q.
pub record Turn (N : ℕ) (waits : Event → List Wait) (parts m : ℕ) (p q : Event → Bool) (sheet : List ℕ) (e : Event) : Type 0 where
  pub more : m < parts
  pub wide : room N parts ≤ length sheet
  pub inside : (f : Event) → InLine N f → Waits f → AllByRecursion (SourceIn N) (waits f)
  pub behind : (f : Event) → InLine N f → p f ≡ true → Ready waits p f
  pub e_in : InLine N e
  pub new : p e ≡ false
  pub ready : Ready waits p e
  pub here : q e ≡ true
  pub other : (f : Event) → InLine N f → ¬ (row_of N f ≡ row_of N e) → q f ≡ p f

module _ (N : ℕ) (waits : Event → List Wait) (begun : List Station) (calls first : List ℕ) (m : ℕ) (p q : Event → Bool) (sheet : List ℕ) (e : Event) (v : ℕ)
    (turn : Turn N waits (length calls) m p q sheet e) where
  n : ℕ
  n = length calls

  t : Table
  t = rows N (length calls) sheet

  sheet' : List ℕ
  sheet' = set sheet (row_of N e * length calls + m) v

  u : Table
  u = rows N (length calls) (set sheet (row_of N e * length calls + m) v)

  filled : Filled N waits (length calls) (UpTo m p)
  filled = filled_up_to N waits (length calls) m p turn.more turn.behind

  wide' : room N (length calls) ≤ length (set sheet (row_of N e * length calls + m) v)
  wide' = let l = length-set sheet (row_of N e * length calls + m) v in let w = turn.wide in omega arith

  differ : (f : Event) → p f ≡ true → ¬ (f ≡ e)
  differ f h s = clash (sym turn.new ∙ ap p (sym s) ∙ h)

  kept : (f : Event) (k : ℕ) → InLine N f → UpTo m p f k → at (u f) k ≡ at (t f) k
  unfolding t u
  kept f k f-in known =
      let w = filled.within f k f-in known in
      rows_other N (length calls) sheet e f m v k turn.more w (λ b. elim known [
        | inl h ↦ omega (arith, b.1)
        | inr h ↦ differ f h.1 (same_row N f e f-in turn.e_in b.0)
      ])

  sized : (f : Event) → InLine N f → length (u f) ≡ length (t f)
  unfolding t u
  sized f f-in = rows_length N (length calls) (set sheet (row_of N e * length calls + m) v) f f-in wide' ∙ sym (rows_length N (length calls) sheet f f-in turn.wide)

  front : (f : Event) (k : ℕ) → InLine N f → UpTo m p f k → take k (u f) ≡ take k (t f)
  unfolding t u
  front f k f-in known =
      let w = filled.within f k f-in known in
      let l = rows_length N (length calls) (set sheet (row_of N e * length calls + m) v) f f-in wide' in
      same_front (u f) (t f) k (omega arith) (sized f f-in) (λ j jk. kept f j f-in (filled.down f k j f-in jk known))

  split : (f : Event) → InLine N f → q f ≡ true → (p f ≡ true) ⊎ (f ≡ e)
  split f f-in h = elim (cases_eq (row_of N f) (row_of N e)) [ inl s ↦ inr (same_row N f e f-in turn.e_in s) | inr d ↦ inl (sym (turn.other f f-in d) ∙ h) ]

  ends : (w : Wait) → SourceIn N w → SourcePlaced p w → wait_end calls t (suc m) w ≡ wait_end calls u (suc m) w
  unfolding t u
  ends Call a b = refl
  ends (After s L) a b = sym (kept s (suc m - L) a (elim (ℕ_discrete L 0) [ yes z ↦ inr (omega arith, b z) | no nz ↦ inl (omega arith) ]))

  others : drop (room N (length calls)) sheet ≡ drop (room N (length calls)) first → drop (room N (length calls)) (set sheet (row_of N e * length calls + m) v) ≡ drop (room N (length calls)) first
  others h = drop-set-lt (room N (length calls)) sheet (row_of N e * length calls + m) v (in_room N (length calls) m e turn.e_in turn.more) ∙ h

  -- what has been loaded at a stage before
  loads : (i : StageNo) → IsStage N i → take (cond (p (Completion i)) (suc m) m) (u (Release i)) ≡ take (cond (p (Completion i)) (suc m) m) (t (Release i))
  loads i i_in = by (p (Completion i)) refl
    where
      by : (b : Bool) → p (Completion i) ≡ b → take (cond b (suc m) m) (u (Release i)) ≡ take (cond b (suc m) m) (t (Release i))
      by true h = front (Release i) (suc m) i_in (inr (refl, turn.behind (Completion i) i_in h))
      by false h = front (Release i) m i_in (inl (omega arith))

  same_loaded :
      (ms ms' : List Station) (i : StageNo) → IsStage N i → ¬ (row_of N (Completion i) ≡ row_of N e) → station ms' i ≡ station ms i
      → LoadedWith (fresh_rules begun i) (take (cond (p (Completion i)) (suc m) m) (t (Release i))) (station ms i)
      → LoadedWith (fresh_rules begun i) (take (cond (q (Completion i)) (suc m) m) (u (Release i))) (station ms' i)
  same_loaded ms ms' i i_in d s r =
      subst (λ b. LoadedWith (fresh_rules begun i) (take (cond b (suc m) m) (u (Release i))) (station ms' i)) (sym (turn.other (Completion i) i_in d))
      (subst (λ xs. LoadedWith (fresh_rules begun i) xs (station ms' i)) (sym (loads i i_in))
      (subst (LoadedWith (fresh_rules begun i) (take (cond (p (Completion i)) (suc m) m) (t (Release i)))) (sym s) r))

  not_completion : (i : StageNo) → IsStage N i → Waits e → ¬ (row_of N (Completion i) ≡ row_of N e)
  not_completion i i_in we h = subst Waits (sym (same_row N (Completion i) e i_in turn.e_in h)) we

  -- a waiting event is written
  pub waited :
      (ms : List Station) → Waits e → v ≡ latest (map (wait_end calls (rows N (length calls) sheet) (suc m)) (waits e))
      → Running N waits begun calls first m p sheet ms
      → Running N waits begun calls first m q (set sheet (row_of N e * length calls + m) v) ms
  unfolding t u
  waited ms we is run = record {
    lawful = run.lawful;
    enough = run.enough;
    times = placed_more m p q e (known_kept run.times filled turn.inside u sized kept) split
        (λ _. rows_here N (length calls) sheet e m v turn.e_in turn.more turn.wide ∙ is ∙
        same_latest (wait_end calls t (suc m)) (wait_end calls u (suc m)) (waits e) (each_map₂ (waits e) ends (turn.inside e turn.e_in we) (waits_ready waits p e we turn.ready)))
        (λ i s. absurd (subst Waits s we));
    as_long = length-set sheet (row_of N e * length calls + m) v ∙ run.as_long;
    others = others run.others;
    stations = run.stations;
    loaded = λ i i_in. same_loaded ms ms i i_in (not_completion i i_in we) refl (run.loaded i i_in);
    idle = run.idle;
  }

  -- a completion: the release of the part is loaded, and the departure written
  module _ (stepped : ∥ Steps N waits ∥₁) (called : Rising 0 calls) (i : StageNo) (s : Completion i ≡ e) (ms : List Station)
      (a : ℕ) (is : a ≡ get_or sheet (row_of N (Release i) * length calls + m) 0) (run : Running N waits begun calls first m p sheet ms) where
    i_in : IsStage N i
    i_in = subst (InLine N) (sym s) turn.e_in

    released : p (Release i) ≡ true
    released = subst (Ready waits p) (sym s) turn.ready

    grown : take (suc m) (rows N (length calls) sheet (Release i)) ≡ take m (rows N (length calls) sheet (Release i)) ++ a ∷ []
    grown =
        let R = rows N (length calls) sheet (Release i) in
        let l = rows_length N (length calls) sheet (Release i) i_in turn.wide in
        let b = turn.more in
        let k : suc m ≡ m + 1 = omega arith in
        let g : get_or R m 0 ≡ a = rows_at N (length calls) sheet (Release i) m turn.more ∙ sym is in
        ap (λ x. take x R) k ∙ take_more R m 0 (omega arith) ∙ ap (λ x. take m R ++ x ∷ []) g

    ok : Rising 0 (take m (rows N (length calls) sheet (Release i)) ++ a ∷ [])
    ok = subst (Rising 0) grown
        (∥∥₁_elim stepped (rising_prop 0 _) (λ steps. releases_rising run.times filled steps turn.inside run.lawful called i (suc m) i_in (inr (refl, released))))

    so_far : LoadedWith (fresh_rules begun i) (take m (rows N (length calls) sheet (Release i))) (station ms i)
    so_far =
        subst (λ b. LoadedWith (fresh_rules begun i) (take (cond b (suc m) m) (rows N (length calls) sheet (Release i))) (station ms i))
        (ap p s ∙ turn.new) (run.loaded i i_in)

    -- the station grants the load
    pub on_clock : a ≤ E
    on_clock = (rising_rest 0 (take m (rows N (length calls) sheet (Release i))) a [] ok).1

    pub timely : (station ms i).early a ≡ false
    timely = ap (λ f. f a) so_far.last ∙ not_early 0 (take m (rows N (length calls) sheet (Release i))) a ok

    module _ (ms' : List Station) (load : LoadedThere ms i a v ms') where
      done : take (suc m) (u (Completion i)) ≡ fresh_rules begun i (take (suc m) (u (Release i)))
      unfolding t u
      done =
          let C = u (Completion i) in
          let l = rows_length N (length calls) (set sheet (row_of N e * length calls + m) v) (Completion i) i_in wide' in
          let b = turn.more in
          let k : suc m ≡ m + 1 = omega arith in
          let here : get_or C m 0 ≡ v = subst (λ x. at (u x) (suc m) ≡ v) (sym s) (rows_here N (length calls) sheet e m v turn.e_in turn.more turn.wide) in
          let old : take m C ≡ fresh_rules begun i (take m (t (Release i))) = front (Completion i) m i_in (inl (omega arith)) ∙ run.times.completed i i_in m (inl (omega arith)) in
          ap (λ x. take x C) k ∙ take_more C m 0 (omega arith) ∙ ap (λ x. take m C ++ x ∷ []) here ∙ ap (λ xs. xs ++ v ∷ []) old ∙
          sym (answered (fresh_rules begun i) (run.lawful i i_in) (take m (t (Release i))) (station ms i) (station ms' i) a v so_far ok load.here) ∙
          ap (fresh_rules begun i) (sym grown ∙ sym (front (Release i) (suc m) i_in (inr (refl, released))))

      loaded_here : LoadedWith (fresh_rules begun i) (take (cond (q (Completion i)) (suc m) m) (u (Release i))) (station ms' i)
      unfolding t u
      loaded_here =
          subst (λ b. LoadedWith (fresh_rules begun i) (take (cond b (suc m) m) (u (Release i))) (station ms' i)) (sym (ap q s ∙ turn.here))
          (subst (λ xs. LoadedWith (fresh_rules begun i) xs (station ms' i)) (sym grown ∙ sym (front (Release i) (suc m) i_in (inr (refl, released))))
          (loaded_more (fresh_rules begun i) (run.lawful i i_in) (take m (t (Release i))) (station ms i) (station ms' i) a v so_far ok load.here))

      other_row : (j : StageNo) → IsStage N j → ¬ (j.0 ≡ i.0) → ¬ (row_of N (Completion j) ≡ row_of N e)
      other_row j j-in d h = let r = ap (row_of N) s in let k = i_in in d (omega (arith, j-in.0, k.0))

      same_event : (j : StageNo) → e ≡ Completion j → i ≡ j
      same_event j h = let x : Completion i ≡ Completion j = s ∙ h in cc

      pub completed : Running N waits begun calls first m q (set sheet (row_of N e * length calls + m) v) ms'
      unfolding t u
      completed = record {
        lawful = run.lawful;
        enough = run.enough;
        times = placed_more m p q e (known_kept run.times filled turn.inside u sized kept) split
            (λ we. absurd (subst Waits (sym s) we))
            (λ j h. subst (λ x. take (suc m) (u (Completion x)) ≡ fresh_rules begun x (take (suc m) (u (Release x)))) (same_event j h) done);
        as_long = length-set sheet (row_of N e * length calls + m) v ∙ run.as_long;
        others = others run.others;
        stations = load.as_long ∙ run.stations;
        loaded = λ j j-in. elim (cases_eq j.0 i.0) [
          | inl z ↦ subst (λ x. LoadedWith (fresh_rules begun x) (take (cond (q (Completion x)) (suc m) m) (u (Release x))) (station ms' x)) (sym (same_stage j i z)) loaded_here
          | inr d ↦ same_loaded ms ms' j j-in (other_row j j-in d) (load.others j j-in.0 d) (run.loaded j j-in)
        ];
        idle = λ j past. let k = i_in in load.others j (omega arith) (λ z. omega (arith, k.1, z, past)) ∙ run.idle j past;
      }
