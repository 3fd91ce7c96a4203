-- A station after one more load, and the stations of a row by their numbers.
use Rattle.std.proofs.Common.{◌≡◌, ℕ, zero, suc, ◌-◌, ◌<◌, ◌≤◌, false, List, [], ◌∷◌, ◌++◌, map, length, get_or, Some, None, Ok, Err, Option, Result, sym, refl, ap, ◌∙◌, subst, inl, inr, append_assoc, arith, length-append}
use Rattle.std.proofs.lemmas.Bool.{le-ltb}
use Rattle.calendar.specs.Clock.{E}
use Rattle.stations.specs.declared.loading.LoadFault.{LoadFault}
use Rattle.stations.specs.declared.numbers.StageNo.{StageNo}
use Rattle.stations.specs.Load.{refusal, number, Loaded}
use Rattle.stations.specs.Rule.{Rule, Rising, Lawful, before, freshened, Meaning as Station}
use Rattle.stations.specs.Layering.{grants}
use Rattle.rows.specs.declared.loading.RowFault.{RowFault}
use Rattle.rows.specs.declared.loading.RowFault.TheVariants.{NoStation, Refused}
use Rattle.rows.specs.Row.{AllLawful, LoadedAt}
use Rattle.rows.specs.RowLoad.{RowLoaded}
use Rattle.controls.specs.Times.{LawfulRow}
use Rattle.lines.specs.Stations.{no_station, station, fresh_rules, last_of, LoadedWith}

-- what comes after some arrivals
pub rising_rest : (low : ℕ) (xs : List ℕ) (a : ℕ) (ys : List ℕ) → Rising low (xs ++ a ∷ ys) → (low ≤ a) × (a ≤ E) × Rising a ys
rising_rest low [] a ys h = h
rising_rest low (x ∷ xs) a ys h = let r = rising_rest x xs a ys h.2 in (omega (arith, h.0, r.0), r.1, r.2)

rising_front : (low : ℕ) (xs ys : List ℕ) → Rising low (xs ++ ys) → Rising low xs
rising_front low [] ys h = tt
rising_front low (x ∷ xs) ys h = (h.0, h.1, rising_front x xs ys h.2)

last_end : (xs : List ℕ) (a : ℕ) → last_of (xs ++ a ∷ []) ≡ Some a
last_end [] a = refl
last_end (x ∷ []) a = refl
last_end (x ∷ (y ∷ xs)) a = last_end (y ∷ xs) a

pub not_early : (low : ℕ) (xs : List ℕ) (a : ℕ) → Rising low (xs ++ a ∷ []) → before (last_of xs) a ≡ false
not_early low [] a h = refl
not_early low (x ∷ []) a h = le-ltb a x h.2.0
not_early low (x ∷ (y ∷ xs)) a h = not_early x (y ∷ xs) a h.2

pub no_more : (xs : List ℕ) → length xs ≡ 0 → xs ≡ []
no_more [] h = refl
no_more (x ∷ xs) h = absurd (omega arith)

module _ (fresh : Rule) (lawful : Lawful fresh) (rs : List ℕ) (m m' : Station) (a d : ℕ) (so_far : LoadedWith fresh rs m)
    (ok : Rising 0 (rs ++ a ∷ [])) (load : Loaded m a (Ok d) m') where
  pub answered : fresh (rs ++ a ∷ []) ≡ fresh rs ++ d ∷ []
  answered =
      let e : fresh (rs ++ a ∷ []) ≡ fresh rs ++ d ∷ m'.rule [] = so_far.rest (a ∷ []) ok ∙ ap (λ xs. fresh rs ++ xs) (load.3 [] tt) in
      let l₁ = lawful.one_each (rs ++ a ∷ []) ok in
      let l₂ = lawful.one_each rs (rising_front 0 rs (a ∷ []) ok) in
      let l₃ = length-append rs (a ∷ []) in
      let l₄ = length-append (fresh rs) (d ∷ m'.rule []) in
      let l₅ = ap length e in
      let z : m'.rule [] ≡ [] = no_more (m'.rule []) (omega arith) in
      e ∙ ap (λ xs. fresh rs ++ d ∷ xs) z

  pub loaded_more : LoadedWith fresh (rs ++ a ∷ []) m'
  loaded_more = record {
    same = load.2 ∙ so_far.same;
    last = load.1 ∙ ap before (sym (last_end rs a));
    rest = λ more h.
        let h' : Rising 0 (rs ++ a ∷ more) = subst (Rising 0) (append_assoc rs (a ∷ []) more) h in
        ap fresh (append_assoc rs (a ∷ []) more) ∙ so_far.rest (a ∷ more) h'
        ∙ ap (λ xs. fresh rs ++ xs) (load.3 more (rising_rest 0 rs a more h').2)
        ∙ sym (append_assoc (fresh rs) (d ∷ []) (m'.rule more)) ∙ ap (λ xs. xs ++ m'.rule more) (sym answered);
  }

-- a fresh station was loaded with nothing
pub loaded_none : (m : Station) → Lawful m.fresh → LoadedWith m.fresh [] (freshened m)
loaded_none m lawful = record {
  same = refl;
  last = refl;
  rest = λ more h. ap (λ xs. xs ++ m.fresh more) (sym (no_more (m.fresh []) (lawful.one_each [] tt)));
}

-- the station of a place, counted from 0
there : (ms ms' : List Station) (n a : ℕ) (r : Result ℕ LoadFault) → LoadedAt ms (suc n) a r ms' → Loaded (get_or ms n no_station) a r (get_or ms' n no_station)
there [] ms' n a r h = absurd h
there (m ∷ ms) [] zero a r h = absurd h
there (m ∷ ms) [] (suc n) a r h = absurd h
there (m ∷ ms) (m' ∷ ms') zero a r h = h.0
there (m ∷ ms) (m' ∷ ms') (suc n) a r h = there ms ms' n a r h.1

elsewhere :
    (ms ms' : List Station) (n a : ℕ) (r : Result ℕ LoadFault) → LoadedAt ms (suc n) a r ms' → (j : ℕ) → ¬ (j ≡ n)
    → get_or ms' j no_station ≡ get_or ms j no_station
elsewhere [] ms' n a r h j d = absurd h
elsewhere (m ∷ ms) [] zero a r h j d = absurd h
elsewhere (m ∷ ms) [] (suc n) a r h j d = absurd h
elsewhere (m ∷ ms) (m' ∷ ms') zero a r h zero d = absurd (d refl)
elsewhere (m ∷ ms) (m' ∷ ms') zero a r h (suc j) d = ap (λ xs. get_or xs j no_station) h.1
elsewhere (m ∷ ms) (m' ∷ ms') (suc n) a r h zero d = h.0
elsewhere (m ∷ ms) (m' ∷ ms') (suc n) a r h (suc j) d = elsewhere ms ms' n a r h.1 j (λ e. d (ap suc e))

same_length : (ms ms' : List Station) (n a : ℕ) (r : Result ℕ LoadFault) → LoadedAt ms (suc n) a r ms' → length ms' ≡ length ms
same_length [] ms' n a r h = absurd h
same_length (m ∷ ms) [] zero a r h = absurd h
same_length (m ∷ ms) [] (suc n) a r h = absurd h
same_length (m ∷ ms) (m' ∷ ms') zero a r h = ap (λ (xs : List Station). suc (length xs)) h.1
same_length (m ∷ ms) (m' ∷ ms') (suc n) a r h = ap suc (same_length ms ms' n a r h.1)

-- Station i of the row was loaded with a and answered d.
pub record LoadedThere (ms : List Station) (i : StageNo) (a d : ℕ) (ms' : List Station) : Type 0 where
  pub here : Loaded (station ms i) a (Ok d) (station ms' i)
  pub others : (j : StageNo) → 1 ≤ j.0 → ¬ (j.0 ≡ i.0) → station ms' j ≡ station ms j
  pub as_long : length ms' ≡ length ms

numbered : (i : StageNo) → 1 ≤ i.0 → i.0 ≡ suc (i.0 - 1)
numbered i h = omega arith

pub row_loads : (ms ms' : List Station) (i : StageNo) (a d : ℕ) → 1 ≤ i.0 → RowLoaded ms i a (Ok d) ms' → LoadedThere ms i a d ms'
row_loads ms ms' i a d pos h =
    let h' : LoadedAt ms (suc (i.0 - 1)) a (Ok d) ms' = subst (λ n. LoadedAt ms n a (Ok d) ms') (numbered i pos) h in
    record {
      here = there ms ms' (i.0 - 1) a (Ok d) h';
      others = λ j j_pos differ. elsewhere ms ms' (i.0 - 1) a (Ok d) h' (j.0 - 1) (λ e. differ (omega arith));
      as_long = same_length ms ms' (i.0 - 1) a (Ok d) h';
    }

some_none : (o : Option ℕ) (n : ℕ) → o ≡ Some n → o ≡ None → ⊥
some_none o n p q = let z : ◌≡◌ {A = ℕ} 0 1 = cc in omega arith

-- a station of the row does not refuse what it grants
pub never_refused :
    (ms ms' : List Station) (i : StageNo) (a : ℕ) (f : RowFault) → 1 ≤ i.0 → i.0 ≤ length ms → a ≤ E → (station ms i).early a ≡ false
    → RowLoaded ms i a (Err f) ms' → ⊥
never_refused ms ms' i a (NoStation k) pos le on_clock timely h = elim h.1 [ inl z ↦ omega arith | inr z ↦ omega arith ]
never_refused ms ms' i a (Refused k f) pos le on_clock timely h =
    let l = there ms ms' (i.0 - 1) a (Err f) (subst (λ n. LoadedAt ms n a (Err f) ms') (numbered i pos) h.1) in
    some_none (refusal (station ms i).early a) (number f) l.0 (grants (station ms i).early a on_clock timely)

-- stations that are all made fresh
pub freshened_at : (ms : List Station) (n : ℕ) → get_or (map freshened ms) n no_station ≡ freshened (get_or ms n no_station)
freshened_at [] n = refl
freshened_at (m ∷ ms) zero = refl
freshened_at (m ∷ ms) (suc n) = freshened_at ms n

lawful_at : (ms : List Station) (n : ℕ) → AllLawful ms → n < length ms → Lawful (get_or ms n no_station).fresh
lawful_at [] n h l = absurd (omega arith)
lawful_at (m ∷ ms) zero h l = h.0
lawful_at (m ∷ ms) (suc n) h l = lawful_at ms n h.1 (omega arith)

pub lawful_row : (N : ℕ) (ms : List Station) → AllLawful ms → N ≤ length ms → LawfulRow N (fresh_rules ms)
lawful_row N ms h le i i_in = lawful_at ms (i.0 - 1) h (omega (arith, i_in.0, i_in.1))
