-- When waits end, and the places of the sheet.
use Rattle.std.proofs.Common.{◌≡◌, ℕ, zero, suc, ◌+◌, ◌*◌, ◌<◌, ◌≤◌, max, List, [], ◌∷◌, map, length, get_or, take, drop, Some, None, Option, sym, refl, ap, ◌∙◌, arith, length-drop, length-take-le, get_or-drop, get_or-take}
use Rattle.std.proofs.lemmas.Nat.{mul-le}
use Rattle.std.proofs.lemmas.List.{take_all}
use Rattle.controls.specs.declared.events.Event.{Event}
use Rattle.controls.specs.declared.events.Event.TheVariants.{Pass, Release, Completion, Delivery}
use Rattle.controls.specs.declared.events.Wait.{Wait}
use Rattle.stations.specs.Lists.{at}
use Rattle.controls.specs.Events.{InLine}
use Rattle.controls.specs.Times.{Table, wait_end}
use Rattle.controls.specs.Lists.{latest, somes}
use Rattle.lines.specs.Sheet.{row_of, rows, room}
use Rattle.lines.specs.Running.{told_end}

pub row_few : (N : ℕ) (e : Event) → InLine N e → row_of N e < 3 * N + 1
row_few N (Pass i) h = omega arith
row_few N (Release i) h = omega arith
row_few N (Completion i) h = omega arith
row_few N Delivery h = omega arith

times_suc : (r n : ℕ) → (r + 1) * n ≡ r * n + n
times_suc r n = omega arith

pub in_room : (N n i : ℕ) (e : Event) → InLine N e → i < n → row_of N e * n + i < room N n
in_room N n i e h l =
    let f = row_few N e h in
    let a = mul-le (row_of N e + 1) n (3 * N + 1) n (omega arith) (omega arith) in
    let b = times_suc (row_of N e) n in omega arith

pub rows_length : (N n : ℕ) (sheet : List ℕ) (e : Event) → InLine N e → room N n ≤ length sheet → length (rows N n sheet e) ≡ n
rows_length N n sheet e h wide =
    let f = row_few N e h in
    let a = mul-le (row_of N e + 1) n (3 * N + 1) n (omega arith) (omega arith) in
    let b = times_suc (row_of N e) n in
    let c = length-drop (row_of N e * n) sheet in
    length-take-le n (drop (row_of N e * n) sheet) (omega arith)

pub rows_at : (N n : ℕ) (sheet : List ℕ) (e : Event) (k : ℕ) → k < n → at (rows N n sheet e) (suc k) ≡ get_or sheet (row_of N e * n + k) 0
rows_at N n sheet e k h = get_or-take n (drop (row_of N e * n) sheet) k 0 h ∙ get_or-drop (row_of N e * n) sheet k 0

latest_somes : (calls : List ℕ) (t : Table) (n : ℕ) (os : List (Option Wait)) → latest (map (wait_end calls t n) (somes os)) ≡ latest (map (told_end calls t n) os)
latest_somes calls t n [] = refl
latest_somes calls t n (None ∷ os) = let r = latest_somes calls t n os in omega arith
latest_somes calls t n (Some w ∷ os) = let r = latest_somes calls t n os in omega arith

-- the latest of the waits so far
abbrev pub latest_of : List ℕ → Table → ℕ → List (Option Wait) → ℕ
latest_of calls t n os = latest (map (told_end calls t n) os)

pub latest_more :
    (calls : List ℕ) (t : Table) (n : ℕ) (os : List (Option Wait)) (k : ℕ) → k < length os
    → latest_of calls t n (take (k + 1) os) ≡ max (latest_of calls t n (take k os)) (told_end calls t n (get_or os k None))
latest_more calls t n [] k h = absurd (omega arith)
latest_more calls t n (o ∷ os) zero h = omega arith
latest_more calls t n (o ∷ os) (suc k) h =
    let s : suc k + 1 ≡ suc (k + 1) = omega arith in
    let r = latest_more calls t n os k (omega arith) in
    ap (λ x. latest_of calls t n (take x (o ∷ os))) s ∙ ap (max (told_end calls t n o)) r ∙ max_assoc (told_end calls t n o) (latest_of calls t n (take k os)) (told_end calls t n (get_or os k None))
  where
    max_assoc : (a b c : ℕ) → max a (max b c) ≡ max (max a b) c
    max_assoc a b c = omega arith

pub latest_all :
    (calls : List ℕ) (t : Table) (n : ℕ) (os : List (Option Wait)) (k : ℕ) → length os ≤ k
    → latest_of calls t n (take k os) ≡ latest (map (wait_end calls t n) (somes os))
latest_all calls t n os k h = ap (latest_of calls t n) (take_all k os h) ∙ sym (latest_somes calls t n os)
