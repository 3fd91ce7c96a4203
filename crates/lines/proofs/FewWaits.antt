-- Rows of at most three waits.
use Rattle.std.proofs.Common.{◌≡◌, ℕ, zero, suc, ◌<◌, ◌≤◌, Bool, true, ◌&&◌, leb, List, [], ◌∷◌, length, get_or, set, sym, subst, inl, inr, arith}
use Rattle.std.proofs.lemmas.Bool.{cases_eq, and_parts, leb-true}
use Rattle.std.proofs.lemmas.List.{get_or-set_same, get_or-set_other}

abbrev pub all_few : {A : Type 0} → List (List A) → Bool
all_few [] = true
all_few (r ∷ rs) = leb (length r) 3 && all_few rs

pub few_start : {A : Type 0} (rs : List (List A)) → all_few rs ≡ true → (row : ℕ) → length (get_or rs row []) ≤ 3
few_start [] h row = omega arith
few_start (r ∷ rs) h zero = leb-true (length r) 3 (and_parts (leb (length r) 3) (all_few rs) h).0
few_start (r ∷ rs) h (suc row) = few_start rs (and_parts (leb (length r) 3) (all_few rs) h).1 row

pub few_more :
    {A : Type 0} (rs : List (List A)) (at : ℕ) (r : List A) → at < length rs → ((row : ℕ) → length (get_or rs row []) ≤ 3) → length r ≤ 3
    → (row : ℕ) → length (get_or (set rs at r) row []) ≤ 3
few_more rs at r h few l row =
    elim (cases_eq row at) [
      | inl e ↦ subst (λ x. length (get_or (set rs at r) x []) ≤ 3) (sym e) (subst (λ x. length x ≤ 3) (sym (get_or-set_same rs at r [] h)) l)
      | inr d ↦ subst (λ x. length x ≤ 3) (sym (get_or-set_other rs at row r [] d)) (few row)
    ]
