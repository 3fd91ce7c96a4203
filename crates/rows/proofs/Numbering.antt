-- What a load of a row answers, and what its stations mean when they are made fresh.
use Rattle.std.specs.Prelude.{◌≡◌, ℕ, zero, suc, ◌+◌, ◌-◌, ◌<◌, ◌≤◌, ◌⊎◌, List, [], ◌∷◌, ◌++◌, map, length, take, Ok, Err, Result, MatchResult, IsErrAnd, slice_index_or, slice_set, refl}
use Rattle.std.proofs.Common.{sym, ap, ap₂, ◌∙◌, subst, inl, inr, ⊎_elim, arith, add-one}
use Rattle.std.proofs.lemmas.List.{take-map, map-append}
use Rattle.std.proofs.Math.Seq.{take-append_seam}
use Rattle.stations.specs.Rule.{Meaning, freshened}
use Rattle.stations.specs.Load.{Loaded}
use Rattle.stations.specs.declared.loading.LoadFault.{LoadFault}
use Rattle.rows.specs.Row.{LoadedAt, Absent, joined, banked}
use Rattle.rows.specs.RowLoad.{RowLoaded, numbered}
use Rattle.stations.specs.declared.numbers.StageNo.{StageNo}
use Rattle.rows.specs.declared.loading.RowFault.{RowFault}
use Rattle.rows.specs.declared.loading.RowFault.TheVariants.{NoStation, Refused}
use Rattle.rows.specs.Numbering.{joined_length, banked_length}

pub joined_fresh :
    (ms ns ms' ns' : List Meaning) → ms' ≡ map freshened ms → ns' ≡ map freshened ns
    → joined ms' ns' ≡ map freshened (joined ms ns)
joined_fresh ms ns ms' ns' e d =
    ap₂ joined e d ∙ ap (take 64) (sym (map-append freshened ms ns)) ∙ take-map freshened 64 (ms ++ ns)

at_front :
    (ms ms' ns : List Meaning) (n a : ℕ) (r : Result ℕ LoadFault) → LoadedAt ms n a r ms' → LoadedAt (ms ++ ns) n a r (ms' ++ ns)
at_front [] ms' ns n a r l = absurd l
at_front (m ∷ ms) ms' ns zero a r l = absurd l
at_front (m ∷ ms) [] ns (suc n) a r l = absurd l
at_front (m ∷ ms) (m' ∷ ms') ns (suc zero) a r l = (l.0, ap (λ (x : List Meaning). x ++ ns) l.1)
at_front (m ∷ ms) (m' ∷ ms') ns (suc (suc n)) a r l = (l.0, at_front ms ms' ns (suc n) a r l.1)

at_back :
    (ms ns ns' : List Meaning) (n i a : ℕ) (r : Result ℕ LoadFault) → n ≡ length ms + i → 1 ≤ i → LoadedAt ns i a r ns'
    → LoadedAt (ms ++ ns) n a r (ms ++ ns')
at_back [] ns ns' n i a r e h l = let P : ℕ → Type 0 = λ x. LoadedAt ns x a r ns' in let d : i ≡ n = omega arith in subst P d l
at_back (m ∷ ms) ns ns' zero i a r e h l = absurd (omega arith)
at_back (m ∷ ms) ns ns' (suc zero) i a r e h l = absurd (omega arith)
at_back (m ∷ ms) ns ns' (suc (suc n)) i a r e h l = (refl, at_back ms ns ns' (suc n) i a r (omega arith) h l)

at_take :
    (k : ℕ) (ms ms' : List Meaning) (n a : ℕ) (r : Result ℕ LoadFault) → n ≤ k → LoadedAt ms n a r ms'
    → LoadedAt (take k ms) n a r (take k ms')
at_take k [] ms' n a r h l = absurd l
at_take k (m ∷ ms) ms' zero a r h l = absurd l
at_take zero (m ∷ ms) ms' (suc n) a r h l = absurd (omega arith)
at_take (suc k) (m ∷ ms) [] (suc n) a r h l = absurd l
at_take (suc k) (m ∷ ms) (m' ∷ ms') (suc zero) a r h l = (l.0, ap (take k) l.1)
at_take (suc k) (m ∷ ms) (m' ∷ ms') (suc (suc n)) a r h l = (l.0, at_take k ms ms' (suc n) a r (omega arith) l.1)

pub joined_front :
    (ms ms' ns : List Meaning) (n : StageNo) (a : ℕ) (r : Result ℕ RowFault) → n.0 ≤ length ms → length ms ≤ 64
    → RowLoaded ms n a r ms' → RowLoaded (joined ms ns) n a r (joined ms' ns)
joined_front ms ms' ns n a (Ok d) h k l =
    at_take 64 (ms ++ ns) (ms' ++ ns) n.0 a (Ok d) (omega arith) (at_front ms ms' ns n.0 a (Ok d) l)
joined_front ms ms' ns n a (Err (NoStation j)) h k l =
    (l.0, ⊎_elim inl (λ z. absurd (omega arith)) l.1, ap (λ x. joined x ns) l.2)
joined_front ms ms' ns n a (Err (Refused j f)) h k l =
    (l.0, at_take 64 (ms ++ ns) (ms' ++ ns) n.0 a (Err f) (omega arith) (at_front ms ms' ns n.0 a (Err f) l.1))

pub joined_back :
    (ms ns ns' : List Meaning) (n i a : ℕ) (r : Result ℕ LoadFault) → n ≡ length ms + i → 1 ≤ i → n ≤ 64
    → LoadedAt ns i a r ns' → LoadedAt (joined ms ns) n a r (joined ms ns')
joined_back ms ns ns' n i a r e h k l = at_take 64 (ms ++ ns) (ms ++ ns') n a r k (at_back ms ns ns' n i a r e h l)

pub joined_absent : (ms ns : List Meaning) (n i : ℕ) → n ≡ length ms + i → 1 ≤ i → n ≤ 64 → Absent ns i → Absent (joined ms ns) n
joined_absent ms ns n i e h k (inl z) = absurd (omega arith)
joined_absent ms ns n i e h k (inr z) = inr (omega (arith, joined_length ms ns))

pub joined_past : (ms ns : List Meaning) (n : ℕ) → 64 < n → Absent (joined ms ns) n
joined_past ms ns n h = inr (omega (arith, joined_length ms ns))

pub joined_back_fault :
    (ms ns ns' : List Meaning) (n i : StageNo) (a : ℕ) (f : RowFault) → n.0 ≡ length ms + i.0 → 1 ≤ i.0 → n.0 ≤ 64
    → RowLoaded ns i a (Err f) ns' → RowLoaded (joined ms ns) n a (Err (numbered n f)) (joined ms ns')
joined_back_fault ms ns ns' n i a (NoStation j) e h k l =
    (refl, joined_absent ms ns n.0 i.0 e h k l.1, ap (joined ms) l.2)
joined_back_fault ms ns ns' n i a (Refused j f) e h k l =
    (refl, joined_back ms ns ns' n.0 i.0 a (Err f) e h k l.1)

-- a load in the second row, its fault under the number in the whole row
pub joined_second :
    (ms ns ns' : List Meaning) (n i : StageNo) (a : ℕ) (r q : Result ℕ RowFault) → n.0 ≡ length ms + i.0 → 1 ≤ i.0 → n.0 ≤ 64
    → RowLoaded ns i a r ns' → MatchResult r (λ d. q ≡ Ok d) (λ f. IsErrAnd q (λ e. e ≡ numbered n f))
    → RowLoaded (joined ms ns) n a q (joined ms ns')
joined_second ms ns ns' n i a (Ok d) q e h k l s =
    let P : Result ℕ RowFault → Type 0 = λ x. RowLoaded (joined ms ns) n a x (joined ms ns') in
    subst P (sym s) (joined_back ms ns ns' n.0 i.0 a (Ok d) e h k l)
joined_second ms ns ns' n i a (Err f) (Ok d) e h k l s = absurd s
joined_second ms ns ns' n i a (Err f) (Err g) e h k l s =
    let P : RowFault → Type 0 = λ x. RowLoaded (joined ms ns) n a (Err x) (joined ms ns') in
    subst P (sym s) (joined_back_fault ms ns ns' n i a f e h k l)

at_set :
    {S : Type 0} (meaning : S → Meaning) (ss : List S) (n a : ℕ) (s s' : S) (r : Result ℕ LoadFault)
    → n < length ss → s ≡ slice_index_or ss n s → Loaded (meaning s) a r (meaning s')
    → LoadedAt (map meaning ss) (suc n) a r (map meaning (slice_set ss n s'))
at_set meaning [] n a s s' r h e l = absurd (omega arith)
at_set {S} meaning (x ∷ ss) zero a s s' r h e l = (subst (λ (y : S). Loaded (meaning y) a r (meaning s')) e l, refl)
at_set meaning (x ∷ ss) (suc n) a s s' r h e l = (refl, at_set meaning ss n a s s' r (omega arith) e l)

pub banked_loads :
    {S : Type 0} (meaning : S → Meaning) (ss : List S) (n a : ℕ) (s s' : S) (r : Result ℕ LoadFault)
    → 1 ≤ n → n ≤ 64 → n ≤ length ss → s ≡ slice_index_or ss (n - 1) s → Loaded (meaning s) a r (meaning s')
    → LoadedAt (banked meaning ss) n a r (banked meaning (slice_set ss (n - 1) s'))
banked_loads meaning ss n a s s' r one few h e l =
    let P : ℕ → Type 0 = λ k. LoadedAt (map meaning ss) k a r (map meaning (slice_set ss (n - 1) s')) in
    let d : suc (n - 1) ≡ n = omega arith in
    at_take 64 (map meaning ss) (map meaning (slice_set ss (n - 1) s')) n a r few
    (subst P d (at_set meaning ss (n - 1) a s s' r (omega arith) e l))

pub banked_absent : {S : Type 0} (meaning : S → Meaning) (ss : List S) (n : ℕ) → (n ≡ 0) ⊎ ((64 < n) ⊎ (length ss < n)) → Absent (banked meaning ss) n
banked_absent meaning ss n (inl z) = inl z
banked_absent meaning ss n (inr (inl z)) = inr (omega (arith, banked_length meaning ss))
banked_absent meaning ss n (inr (inr z)) = inr (omega (arith, banked_length meaning ss))

-- a load of a station, its fault under the station's number
pub stationed :
    (ms ms' : List Meaning) (n : StageNo) (a : ℕ) (r : Result ℕ LoadFault) (q : Result ℕ RowFault)
    → LoadedAt ms n.0 a r ms' → MatchResult r (λ d. q ≡ Ok d) (λ f. IsErrAnd q (λ e. e ≡ Refused n f)) → RowLoaded ms n a q ms'
stationed ms ms' n a (Ok d) q l s = let P : Result ℕ RowFault → Type 0 = λ x. RowLoaded ms n a x ms' in subst P (sym s) l
stationed ms ms' n a (Err f) (Ok d) l s = absurd s
stationed ms ms' n a (Err f) (Err g) l s =
    let P : RowFault → Type 0 = λ x. RowLoaded ms n a (Err x) ms' in subst P (sym s) (refl, l)

-- The first i stations of the second list are those of the first made fresh, and the others are as they were.
abbrev pub FreshTo : {S : Type 0} → (S → Meaning) → ℕ → List S → List S → Type 0
FreshTo meaning zero xs ys = ys ≡ xs
FreshTo meaning (suc i) [] ys = ⊥
FreshTo meaning (suc i) (x ∷ xs) [] = ⊥
FreshTo meaning (suc i) (x ∷ xs) (y ∷ ys) = (meaning y ≡ freshened (meaning x)) × FreshTo meaning i xs ys

fresh_next :
    {S : Type 0} (meaning : S → Meaning) (i : ℕ) (xs ys : List S) (s s' : S) → i < length ys → s ≡ slice_index_or ys i s
    → meaning s' ≡ freshened (meaning s) → FreshTo meaning i xs ys → FreshTo meaning (suc i) xs (slice_set ys i s')
fresh_next meaning zero xs [] s s' h e m f = absurd (omega arith)
fresh_next meaning zero [] (y ∷ ys) s s' h e m f = absurd (omega (arith, ap length f))
fresh_next meaning zero (x ∷ xs) (y ∷ ys) s s' h e m f =
    let k : y ≡ x = cc in let t : ys ≡ xs = cc in (m ∙ ap (λ z. freshened (meaning z)) (e ∙ k), t)
fresh_next meaning (suc i) [] ys s s' h e m f = absurd f
fresh_next meaning (suc i) (x ∷ xs) [] s s' h e m f = absurd f
fresh_next meaning (suc i) (x ∷ xs) (y ∷ ys) s s' h e m f = (f.0, fresh_next meaning i xs ys s s' (omega arith) e m f.1)

pub fresh_more :
    {S : Type 0} (meaning : S → Meaning) (i : ℕ) (xs ys : List S) (s s' : S) → i < length ys → s ≡ slice_index_or ys i s
    → meaning s' ≡ freshened (meaning s) → FreshTo meaning i xs ys → FreshTo meaning (i + 1) xs (slice_set ys i s')
fresh_more meaning i xs ys s s' h e m f = rw add-one (fresh_next meaning i xs ys s s' h e m f)

fresh_all : {S : Type 0} (meaning : S → Meaning) (i : ℕ) (xs ys : List S) → length xs ≤ i → FreshTo meaning i xs ys → map meaning ys ≡ map freshened (map meaning xs)
fresh_all meaning zero [] ys h f = ap (map meaning) f
fresh_all meaning zero (x ∷ xs) ys h f = absurd (omega arith)
fresh_all meaning (suc i) [] ys h f = absurd f
fresh_all meaning (suc i) (x ∷ xs) [] h f = absurd f
fresh_all meaning (suc i) (x ∷ xs) (y ∷ ys) h f = ap₂ (λ (m : Meaning) (ms : List Meaning). m ∷ ms) f.0 (fresh_all meaning i xs ys (omega arith) f.1)

take_all : {S : Type 0} (n : ℕ) (ys zs : List S) → length ys ≡ n → take n (ys ++ zs) ≡ ys
take_all n ys zs e = ap (λ k. take k (ys ++ zs)) (sym e) ∙ take-append_seam ys zs

pub banked_fresh :
    {S : Type 0} (meaning : S → Meaning) (n i : ℕ) (xs xs' ys zs : List S) → xs' ≡ xs → length ys ≡ n → length xs' ≤ i → FreshTo meaning i xs' ys
    → banked meaning (take n (ys ++ zs)) ≡ map freshened (banked meaning xs)
banked_fresh meaning n i xs xs' ys zs d e h f =
    ap (banked meaning) (take_all n ys zs e)
    ∙ ap (take 64) (fresh_all meaning i xs' ys h f ∙ ap (λ l. map freshened (map meaning l)) d)
    ∙ take-map freshened 64 (map meaning xs)
