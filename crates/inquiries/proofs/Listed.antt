-- The line of the counts.
use Rattle.std.proofs.Common.{◌≡◌, ℕ, ◌<◌, ◌≤◌, ◌⊎◌, inl, inr, sym, take, List, [], ◌∷◌, ◌++◌, length, ap, codes, decimal, arith}
use Rattle.std.proofs.lemmas.List.{length-take-le}
use Rattle.forms.specs.Stages.{spaced}
use Rattle.forms.proofs.Listed.{Listing, ended, last_all}
use Rattle.inquiries.specs.Inquiry.{CountsFit}

-- the line of the counts begins with its word and a space
pub no_cards :
    {text : List ℕ} → ((x : List ℕ) → text ≡ 40 ∷ (codes "cards" ++ (32 ∷ x)) → ⊥) → (ns y : List ℕ) → 0 < length ns
    → text ≡ 40 ∷ (codes "cards" ++ (spaced ns ++ y)) → ⊥
no_cards out [] y h e = omega arith
no_cards out (n ∷ ns) y h e = out ((decimal n ++ spaced ns) ++ y) e

-- the counts that were read are all that the text has, where there is no room for more or no space is next
all_counts :
    {start rest vs : List ℕ} {k : ℕ} → Listing 16 start rest vs k → (16 ≤ k) ⊎ ((r : List ℕ) → rest ≡ 32 ∷ r → ⊥)
    → (ns x : List ℕ) → CountsFit ns → start ≡ spaced ns ++ (41 ∷ x) → (take k vs ≡ ns) × (rest ≡ 41 ∷ x)
all_counts {start} {rest} {vs} {k} h (inl full) ns x fit e = let o = h.only ns x fit.0 e in last_all (take k vs) ns x rest o.more o.split o.is (omega (arith, fit.2, length-take-le k vs (omega (arith, h.few, h.size))))
all_counts {start} {rest} {vs} {k} h (inr out) ns x fit e = let d = ended h out ns x fit.0 e in (sym d.0, d.1)

pub counts_read :
    {start rest vs : List ℕ} {k : ℕ} → Listing 16 start rest vs k → (16 ≤ k) ⊎ ((r : List ℕ) → rest ≡ 32 ∷ r → ⊥) → 0 < k
    → CountsFit (take k vs) × (start ≡ spaced (take k vs) ++ rest)
    × ((ns x : List ℕ) → CountsFit ns → start ≡ spaced ns ++ (41 ∷ x) → (take k vs ≡ ns) × (rest ≡ 41 ∷ x))
counts_read {start} {rest} {vs} {k} h done more =
    let l : length (take k vs) ≡ k = length-take-le k vs (omega (arith, h.few, h.size)) in ((h.low, omega (arith, l), omega (arith, l, h.few)), h.is, all_counts h done)

pub no_counts :
    {start rest vs : List ℕ} {k : ℕ} → Listing 16 start rest vs k → (16 ≤ k) ⊎ ((r : List ℕ) → rest ≡ 32 ∷ r → ⊥) → k ≡ 0
    → (ns x : List ℕ) → CountsFit ns → start ≡ spaced ns ++ (41 ∷ x) → ⊥
no_counts {start} {rest} {vs} {k} h done none ns x fit e =
    let d = all_counts h done ns x fit e in omega (arith, ap length d.0, fit.1, length-take-le k vs (omega (arith, h.few, h.size)))
