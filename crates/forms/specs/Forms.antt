-- Numbers, words and lines, as they are written: a reader is the inverse.
use Rattle.std.specs.Prelude.{◌≡◌, ℕ, ◌^◌, ◌<◌, ◌≤◌, List, ◌∷◌, ◌++◌, length, decimal, ◌≢◌, slice_index}
use Rattle.std.specs.Int.{IsInRange}
use Rattle.std.specs.List.{AllByRecursion}

-- the text does not go on with a byte from lo to hi
abbrev pub Ends : ℕ → ℕ → List ℕ → Type 0
Ends lo hi t = 0 < length t → IsInRange lo hi (slice_index t 0) → ⊥

-- each byte is from lo to hi
abbrev pub Each : ℕ → ℕ → List ℕ → Type 0
Each lo hi t = (i : ℕ) → i < length t → IsInRange lo hi (slice_index t i)

-- the first n bytes of `text` are from lo to hi, and no more that follow
pub record Front (lo hi : ℕ) (text : List ℕ) (n : ℕ) : Type 0 where
  pub within : n ≤ length text
  pub each : (i : ℕ) → i < n → IsInRange lo hi (slice_index text i)
  pub stops : n < length text → IsInRange lo hi (slice_index text n) → ⊥

-- a number of at most 7 digits
abbrev pub Low : ℕ → Type 0
Low n = n < 10 ^ 7

-- `text` is the number n, written in decimal, and then `rest`, which does not go on with a digit
abbrev pub Numbered : ℕ → List ℕ → List ℕ → Type 0
Numbered n rest text = Low n × Ends 48 57 rest × (text ≡ decimal n ++ rest)

-- where `text` is some number and then a byte below the digits, they are n and `rest`
abbrev pub OnlyNumber : ℕ → List ℕ → List ℕ → Type 0
OnlyNumber n rest text = (m b : ℕ) (x : List ℕ) → Low m → b < 48 → text ≡ decimal m ++ (b ∷ x) → (n ≡ m) × (rest ≡ b ∷ x)

-- `text` begins with no number
abbrev pub Numberless : List ℕ → Type 0
Numberless text = (n : ℕ) (rest : List ℕ) → Numbered n rest text → ⊥

-- 1 to 12 small letters
abbrev pub Word : List ℕ → Type 0
Word w = (0 < length w) × (length w ≤ 12) × AllByRecursion (IsInRange 97 122) w

-- `text` is the word w and then `rest`, which does not go on with a small letter
abbrev pub Worded : List ℕ → List ℕ → List ℕ → Type 0
Worded w rest text = Word w × Ends 97 122 rest × (text ≡ w ++ rest)

-- where `text` is some word and then a byte below the small letters, they are w and `rest`
abbrev pub OnlyWord : List ℕ → List ℕ → List ℕ → Type 0
OnlyWord w rest text = (v : List ℕ) (b : ℕ) (x : List ℕ) → Word v → b < 97 → text ≡ v ++ (b ∷ x) → (w ≡ v) × (rest ≡ b ∷ x)

-- `text` begins with no word
abbrev pub Wordless : List ℕ → Type 0
Wordless text = (w rest : List ℕ) → Worded w rest text → ⊥

-- no byte of l ends a line
abbrev pub Endless : List ℕ → Type 0
Endless l = (k : ℕ) → k < length l → slice_index l k ≢ 10

-- `text` is the line l, the byte 10 that ends it, and then `rest`
abbrev pub Lined : List ℕ → List ℕ → List ℕ → Type 0
Lined l rest text = Endless l × (text ≡ l ++ (10 ∷ rest))

-- where `text` is some line, its end and what follows, they are l and `rest`
abbrev pub OnlyLine : List ℕ → List ℕ → List ℕ → Type 0
OnlyLine l rest text = (k x : List ℕ) → Lined k x text → (l ≡ k) × (rest ≡ x)

-- no line of `text` is ended
abbrev pub Lineless : List ℕ → Type 0
Lineless text = (l x : List ℕ) → Lined l x text → ⊥
