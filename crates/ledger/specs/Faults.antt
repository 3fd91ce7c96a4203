use Rattle.std.specs.Prelude.{ℕ}
use Rattle.ledger.specs.declared.faults.BookFault.{BookFault}
use Rattle.ledger.specs.declared.faults.BookFault.TheVariants as book
use Rattle.ledger.specs.declared.faults.BoardFault.{BoardFault}
use Rattle.ledger.specs.declared.faults.BoardFault.TheVariants as board

-- The numbers of the refusals, which carry no values; want of memory is no refusal of the rules, and has 0.
abbrev pub book_number : BookFault → ℕ
book_number book.Full = 6
book_number book.Due = 7
book_number book.CallOrder = 8
book_number book.Empty = 9
book_number book.NoMemory = 0

abbrev pub board_number : BoardFault → ℕ
board_number board.OffRange = 10
board_number board.NoMemory = 0
