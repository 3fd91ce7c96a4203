-- The laws of a control that is given by its waits of each stage.
use Rattle.std.specs.Prelude.{◌≡◌, ℕ, zero, suc, ◌+◌, ◌<◌, ◌≤◌, Bool, true, false, cond, leb, List, [], ◌∷◌, ◌++◌, length, ◌≢◌, nat_le, refl}
use Rattle.std.specs.List.{AllByRecursion, AllZip, list_all, range_with_len}
use Rattle.std.proofs.Common.{ap, ◌∙◌, inl, inr, arith, length-append}
use Rattle.std.proofs.lemmas.Bool.{leb-true, le-leb, lt-ltb, le-ltb, and_parts, and_from, cases_eq, cases_lt, both_ways}
use Rattle.stations.specs.declared.numbers.StageNo.{StageNo}
use Rattle.stations.specs.Lists.{at}
use Rattle.controls.specs.declared.events.Event.{Event}
use Rattle.controls.specs.declared.events.Event.TheVariants.{Pass, Release, Completion, Delivery}
use Rattle.controls.specs.declared.events.Wait.{Wait}
use Rattle.controls.specs.declared.events.Wait.TheVariants.{Call, After}
use Rattle.controls.specs.Events.{IsStage, InLine, Waits, SourceIn, SameSource, LagUpTo}
use Rattle.controls.specs.Control.{Meaning, Rise, StepFits, LawfulControl}
use Rattle.controls.specs.Stages.{stage, is_stage, at_stage, before, staged, next_release, every, carded}

pub rise_at : (K L : List ℕ) → Rise K L → (n : ℕ) → at K n ≤ at L n
rise_at K L h zero = omega arith
rise_at [] [] h (suc p) = omega arith
rise_at [] (l ∷ L) h (suc p) = absurd h
rise_at (k ∷ K) [] h (suc p) = absurd h
rise_at (k ∷ K) (l ∷ L) h (suc zero) = h.0
rise_at (k ∷ K) (l ∷ L) h (suc (suc p)) = rise_at K L h.1 (suc p)

-- A test of every stage.
pub every_each : (test : ℕ → Bool) (a n : ℕ) → list_all test (range_with_len a n) ≡ true → (i : ℕ) → a ≤ i → i < a + n → test i ≡ true
every_each test a zero h i l m = absurd (omega arith)
every_each test a (suc n) h i l m =
    let parts = and_parts (test a) (list_all test (range_with_len (a + 1) n)) h in
    elim (cases_eq i a) [ inl e ↦ ap test e ∙ parts.0 | inr d ↦ every_each test (a + 1) n parts.1 i (omega arith) (omega arith) ]

pub each_every : (test : ℕ → Bool) (a n : ℕ) → ((i : ℕ) → a ≤ i → i < a + n → test i ≡ true) → list_all test (range_with_len a n) ≡ true
each_every test a zero h = refl
each_every test a (suc n) h =
    and_from (test a) (list_all test (range_with_len (a + 1) n)) (h a (omega arith) (omega arith))
    (each_every test (a + 1) n (λ i l m. h i (omega arith) (omega arith)))

untrue : (b : Bool) → (b ≢ true) → false ≡ b
untrue true h = absurd (h refl)
untrue false h = refl

-- A search that goes from stage to stage finds one that fails, or goes on.
pub every_not : (test : ℕ → Bool) (n i : ℕ) → i < n → test (i + 1) ≡ false → false ≡ every test n
every_not test n i a h = untrue (every test n) (λ t. both_ways (test (i + 1)) h (every_each test 1 n t (i + 1) (omega arith) (omega arith)))

pub every_more : (test : ℕ → Bool) (i : ℕ) → every test i ≡ true → test (i + 1) ≡ true → every test (i + 1) ≡ true
every_more test i h k = each_every test 1 (i + 1) (λ j a b.
    elim (cases_eq j (i + 1)) [ inl e ↦ ap test e ∙ k | inr d ↦ every_each test 1 i h j a (omega arith) ])

pub carded_at : (first : ℕ) (K : List ℕ) (n : ℕ) → carded first K n ≡ true → (i : ℕ) → 1 ≤ i → i ≤ n → 1 ≤ at K (first + i)
carded_at first K n h i a b = leb-true 1 (at K (first + i)) (every_each (λ i. leb 1 (at K (first + i))) 1 n h i a (omega arith))

pub carded_rises : (first : ℕ) (K L : List ℕ) (n : ℕ) → Rise K L → carded first K n ≡ true → carded first L n ≡ true
carded_rises first K L n r h = each_every (λ i. leb 1 (at L (first + i))) 1 n (λ i a b.
    le-leb 1 (at L (first + i)) (let k = carded_at first K n h i a (omega arith) in let l = rise_at K L r (first + i) in omega arith))

-- An event of a stage that the line has.
pub stage_waits : (N : ℕ) (i : StageNo) (ws : List Wait) → IsStage N i → at_stage N i ws ≡ ws
stage_waits N i ws h =
    let on : is_stage N i ≡ true = and_from (nat_le 1 i.0) (nat_le i.0 N) (le-leb 1 i.0 h.0) (le-leb i.0 N h.1) in
    ap (λ b. cond b ws []) on

pub next_cases :
    (P : Event → Type 0) (N : ℕ) (i : StageNo) → (i.0 < N → P (Release (stage (i.0 + 1)))) → (N ≤ i.0 → P Delivery)
    → P (next_release N i)
next_cases P N i a b = elim (cases_lt i.0 N) [ inl l ↦ rw (lt-ltb i.0 N l) (a l) | inr m ↦ rw (le-ltb i.0 N m) (b m) ]

each_append : {A : Type 0} (P : A → Type 0) (xs ys : List A) → AllByRecursion P xs → AllByRecursion P ys → AllByRecursion P (xs ++ ys)
each_append P [] ys h k = k
each_append P (x ∷ xs) ys h k = (h.0, each_append P xs ys h.1 k)

both_append :
    {A B : Type 0} (R : A → B → Type 0) (xs : List A) (us : List B) (ys : List A) (vs : List B) → AllZip R xs us → AllZip R ys vs
    → AllZip R (xs ++ ys) (us ++ vs)
both_append R [] [] ys vs h k = k
both_append R [] (u ∷ us) ys vs h k = absurd h
both_append R (x ∷ xs) [] ys vs h k = absurd h
both_append R (x ∷ xs) (u ∷ us) ys vs h k = (h.0, both_append R xs us ys vs h.1 k)

-- The waits of a control, by stage.
abbrev pub StageWaits : Type 0
StageWaits = ℕ → List ℕ → StageNo → List Wait

abbrev pub waits_of : StageWaits → StageWaits → ℕ → List ℕ → Event → List Wait
waits_of pass release N K = staged (pass N K) (release N K) N K

-- What is to show of each wait of an event: of those of each stage, and of those that the controls have in common.
pub record EachStage (P : Event → Wait → Type 0) (pass release : StageWaits) (N : ℕ) (K : List ℕ) : Type 0 where
  pub on_pass : (i : StageNo) → IsStage N i → AllByRecursion (P (Pass i)) (pass N K i)
  pub on_release : (i : StageNo) → IsStage N i → AllByRecursion (P (Release i)) (release N K i)
  pub on_before :
      (i : StageNo) (p : ℕ) → i.0 ≡ suc (suc p) → i.0 ≤ N
      → P (Release i) (After (Completion (stage (suc p))) (at K (suc p)))
  pub on_call : P Delivery Call
  pub on_last : P Delivery (After (Completion (stage N)) (at K N))

pub each_stage :
    {P : Event → Wait → Type 0} {pass release : StageWaits} {N : ℕ} {K : List ℕ} → EachStage P pass release N K → (e : Event)
    → InLine N e → Waits e → AllByRecursion (P e) (waits_of pass release N K e)
each_stage {pass = pass} {N = N} {K = K} h (Pass i) e_in w = rw (stage_waits N i (pass N K i) e_in) (h.on_pass i e_in)
each_stage {P = P} {release = release} {N = N} {K = K} h (Release i) e_in w =
    rw (stage_waits N i (release N K i ++ before K i.0) e_in)
    (each_append (P (Release i)) (release N K i) (before K i.0) (h.on_release i e_in) (there i.0 refl))
  where
    there : (j : ℕ) → i.0 ≡ j → AllByRecursion (P (Release i)) (before K j)
    there zero e = tt
    there (suc zero) e = tt
    there (suc (suc p)) e = (h.on_before i p e e_in.1, tt)
each_stage h (Completion i) e_in w = absurd w
each_stage h Delivery e_in w = (h.on_call, (h.on_last, tt))

-- The laws by stage.
pub record StageLaws (lawful : ℕ → List ℕ → Bool) (pass release : StageWaits) : Type 0 where
  pub rises : (N : ℕ) (K L : List ℕ) → Rise K L → lawful N K ≡ true → lawful N L ≡ true
  pub same_pass : (N : ℕ) (K L : List ℕ) (i : StageNo) → AllZip SameSource (pass N K i) (pass N L i)
  pub same_release : (N : ℕ) (K L : List ℕ) (i : StageNo) → AllZip SameSource (release N K i) (release N L i)
  pub lags_pass : (N : ℕ) (K L : List ℕ) → Rise K L → (i : StageNo) → AllZip LagUpTo (pass N K i) (pass N L i)
  pub lags_release : (N : ℕ) (K L : List ℕ) → Rise K L → (i : StageNo) → AllZip LagUpTo (release N K i) (release N L i)
  pub few_pass : (N : ℕ) (K : List ℕ) (i : StageNo) → length (pass N K i) ≤ 3
  pub few_release : (N : ℕ) (K : List ℕ) (i : StageNo) → length (release N K i) ≤ 2
  pub in_pass : (N : ℕ) (K : List ℕ) (i : StageNo) → IsStage N i → AllByRecursion (SourceIn N) (pass N K i)
  pub in_release : (N : ℕ) (K : List ℕ) (i : StageNo) → IsStage N i → AllByRecursion (SourceIn N) (release N K i)
  pub step : ℕ → List ℕ → Event → ℕ
  pub fits : (N : ℕ) (K : List ℕ) → 1 ≤ N → lawful N K ≡ true → EachStage (StepFits (step N K)) pass release N K
  pub done : (N : ℕ) (K : List ℕ) (i : StageNo) → IsStage N i → step N K (Release i) < step N K (Completion i)

module _ {lawful : ℕ → List ℕ → Bool} {pass release : StageWaits} (laws : StageLaws lawful pass release) (per_stage : ℕ) where
  abbrev control : Meaning
  control = record { per_stage = per_stage; lawful = lawful; waits = waits_of pass release }

  guarded : (R : Wait → Wait → Type 0) (b : Bool) (xs ys : List Wait) → AllZip R xs ys → AllZip R (cond b xs []) (cond b ys [])
  guarded R true xs ys h = h
  guarded R false xs ys h = tt

  both_waits :
      (R : Wait → Wait → Type 0) (N : ℕ) (K L : List ℕ) → ((i : StageNo) → AllZip R (pass N K i) (pass N L i))
      → ((i : StageNo) → AllZip R (release N K i) (release N L i)) → R Call Call
      → ((i : ℕ) → R (After (Completion (stage i)) (at K i)) (After (Completion (stage i)) (at L i))) → (e : Event) → Waits e
      → AllZip R (waits_of pass release N K e) (waits_of pass release N L e)
  both_waits R N K L p r c s (Pass i) w = guarded R (is_stage N i) (pass N K i) (pass N L i) (p i)
  both_waits R N K L p r c s (Release i) w = guarded R (is_stage N i) (release N K i ++ before K i.0) (release N L i ++ before L i.0)
      (both_append R (release N K i) (release N L i) (before K i.0) (before L i.0) (r i) (there i.0))
    where
      there : (j : ℕ) → AllZip R (before K j) (before L j)
      there zero = tt
      there (suc zero) = tt
      there (suc (suc q)) = (s (suc q), tt)
  both_waits R N K L p r c s (Completion i) w = absurd w
  both_waits R N K L p r c s Delivery w = (c, (s N, tt))

  inside : (N : ℕ) (K : List ℕ) → 1 ≤ N → EachStage (λ e. SourceIn N) pass release N K
  inside N K pos = record {
    on_pass = laws.in_pass N K;
    on_release = laws.in_release N K;
    on_before = λ i p e le. (omega arith, omega arith);
    on_call = tt;
    on_last = (pos, omega arith);
  }

  few_before : (K : List ℕ) (i : ℕ) → length (before K i) ≤ 1
  few_before K zero = omega arith
  few_before K (suc zero) = omega arith
  few_before K (suc (suc p)) = omega arith

  few : (N : ℕ) (K : List ℕ) (e : Event) → InLine N e → Waits e → length (waits_of pass release N K e) ≤ 3
  few N K (Pass i) h w = rw (stage_waits N i (pass N K i) h) (laws.few_pass N K i)
  few N K (Release i) h w =
      rw (stage_waits N i (release N K i ++ before K i.0) h)
      (rw (length-append (release N K i) (before K i.0))
      (let a = laws.few_release N K i in let b = few_before K i.0 in omega arith))
  few N K (Completion i) h w = absurd w
  few N K Delivery h w = omega arith

  pub staged_laws : LawfulControl control
  staged_laws = record {
    rises = λ N K L f. laws.rises N K L;
    same = λ N K L f g e h w. both_waits SameSource N K L (laws.same_pass N K L) (laws.same_release N K L) tt (λ i. refl) e w;
    lags = λ N K L f r e h w.
        both_waits LagUpTo N K L (laws.lags_pass N K L r) (laws.lags_release N K L r) (omega arith) (λ i. rise_at K L r i) e w;
    steps = λ N K f ok. record {
      step = laws.step N K;
      fits = each_stage (laws.fits N K f.stages ok);
      done = laws.done N K;
    };
    few = λ N K f. few N K;
    inside = λ N K f. each_stage (inside N K f.stages);
  }
