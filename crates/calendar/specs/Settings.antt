use Rattle.std.specs.Prelude.{◌≡◌, ℕ, suc, Bool, cond, ◌||◌, List, [], ◌∷◌, ◌++◌, Some, None, Ok, Err, codes, decimal, Option, Result, nat_lt}
use Rattle.calendar.specs.declared.settings.Piece.{Piece}
use Rattle.calendar.specs.declared.settings.Piece.TheVariants as pieces
use Rattle.calendar.specs.declared.settings.SettingFault.{SettingFault}
use Rattle.calendar.specs.declared.settings.SettingFault.TheVariants.{OffRange, ShiftOrder}

-- The word for a piece.
abbrev pub piece_word : Piece → List ℕ
piece_word pieces.Machine = codes "machine"
piece_word pieces.Oven = codes "oven"
piece_word pieces.Move = codes "move"
piece_word pieces.Week = codes "week"

-- What the refusal of a setting tells: its number, the piece, the setting's position in the piece, counted from 1, and its value.
pub record Told : Type 0 where
  pub number : ℕ
  pub piece : Piece
  pub position : ℕ
  pub value : ℕ

-- Refusal 1 is a setting off its range, refusal 2 a shift out of order, whose value is the minute at which it begins.
abbrev pub told : SettingFault → Told
told (OffRange piece position value) = record { number = 1; piece = piece; position = position; value = value }
told (ShiftOrder position begin) = record { number = 2; piece = pieces.Week; position = position; value = begin }

-- Why a setting is at fault, in words.
abbrev pub setting_reason : SettingFault → List ℕ
setting_reason (OffRange piece position value) = codes "off its range"
setting_reason (ShiftOrder position begin) = codes "out of order"

-- The words that tell which setting is at fault, and why.
abbrev pub setting_line : SettingFault → List ℕ
setting_line fault =
    codes "setting "
    ++ (decimal (told fault).position
    ++ (codes " of the "
    ++ (piece_word (told fault).piece ++ (codes " is " ++ (decimal (told fault).value ++ (codes ", " ++ setting_reason fault))))))

-- A value is off the range from low to high.
abbrev pub off : ℕ → ℕ → ℕ → Bool
off low high value = nat_lt value low || nat_lt high value

-- A setting's range and its value.
pub record Setting : Type 0 where
  pub low : ℕ
  pub high : ℕ
  pub value : ℕ

-- The first of the settings of a piece that is off its range, where the first one stands at a position.
abbrev pub first_off : Piece → ℕ → List Setting → Option Told
first_off piece position [] = None
first_off piece position (s ∷ ss) =
    cond (off s.low s.high s.value)
    (Some (record { number = 1; piece = piece; position = position; value = s.value }))
    (first_off piece (suc position) ss)

-- What making a piece answers: the piece, of which P holds, where nothing refuses it, and else the fault that tells the refusal.
abbrev pub Makes : {T : Type 0} → Option Told → (T → Type 0) → Result T SettingFault → Type 0
Makes refusal P (Ok x) = (refusal ≡ None) × P x
Makes refusal P (Err e) = refusal ≡ Some (told e)
