-- Rows that are joined, cut and found at run time are lawful, and of at most 64 stations.
use Rattle.std.specs.Prelude.{◌≡◌, ℕ, zero, suc, ◌+◌, ◌≤◌, min, List, [], ◌∷◌, ◌++◌, map, length, take}
use Rattle.std.proofs.Common.{arith, length-append}
use Rattle.std.proofs.lemmas.List.{length-take, length-map}
use Rattle.stations.specs.Rule.{Meaning, Lawful}
use Rattle.rows.specs.Row.{AllLawful, joined, banked}

lawful_append : (ms ns : List Meaning) → AllLawful ms → AllLawful ns → AllLawful (ms ++ ns)
lawful_append [] ns h k = k
lawful_append (m ∷ ms) ns h k = (h.0, lawful_append ms ns h.1 k)

pub lawful_take : (n : ℕ) (ms : List Meaning) → AllLawful ms → AllLawful (take n ms)
lawful_take zero ms h = tt
lawful_take (suc n) [] h = tt
lawful_take (suc n) (m ∷ ms) h = (h.0, lawful_take n ms h.1)

pub joined_lawful : (ms ns : List Meaning) → AllLawful ms → AllLawful ns → AllLawful (joined ms ns)
joined_lawful ms ns h k = lawful_take 64 (ms ++ ns) (lawful_append ms ns h k)

pub joined_length : (ms ns : List Meaning) → length (joined ms ns) ≡ min (length ms + length ns) 64
joined_length ms ns = simp (length-take, length-append) (omega arith)

pub joined_few : (ms ns : List Meaning) → length (joined ms ns) ≤ 64
joined_few ms ns = omega (arith, joined_length ms ns)

-- the run-time row
all_lawful : {S : Type 0} (meaning : S → Meaning) (ss : List S) → ((s : S) → Lawful (meaning s).fresh) → AllLawful (map meaning ss)
all_lawful meaning [] h = tt
all_lawful meaning (s ∷ ss) h = (h s, all_lawful meaning ss h)

pub banked_lawful : {S : Type 0} (meaning : S → Meaning) (ss : List S) → ((s : S) → Lawful (meaning s).fresh) → AllLawful (banked meaning ss)
banked_lawful meaning ss h = lawful_take 64 (map meaning ss) (all_lawful meaning ss h)

pub banked_length : {S : Type 0} (meaning : S → Meaning) (ss : List S) → length (banked meaning ss) ≡ min (length ss) 64
banked_length meaning ss = simp (length-take, length-map) (omega arith)

pub banked_few : {S : Type 0} (meaning : S → Meaning) (ss : List S) → length (banked meaning ss) ≤ 64
banked_few meaning ss = omega (arith, banked_length meaning ss)
