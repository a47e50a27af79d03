-- Demand 3 of the board program's loop: what its exchanges answer on two boards, by the contracts that they export, where every
-- line is a confined run or is refused.
-- Assumes nothing.
use Rattle.std.specs.Prelude.{ℕ, ◌≡◌, true, List, [], ◌∷◌, ◌++◌, take, drop}
use Rattle.memory.specs.Bytes.{Memory}
use Rattle.machine.specs.Status.{Cpu}
use Rattle.run_spec.specs.Run.{Board, board}
use Rattle.board_lines.specs.Printouts.{Printout}
use Rattle.lines.specs.Texts.{next, last_line}
use Rattle.board_conversation.specs.Loop.{exchange_lines}
use Rattle.isolation.specs.Sealed.{Agree, HiddenKept}
use Rattle.isolation.specs.Isolation.{Apart}
use Rattle.isolation_board.specs.Calls.{LentBoard, ExchangeCall, Converse, LastCall, Finish}
use Rattle.isolation_board.specs.Lines.{admits_lines}

-- ---- exchanges, each going on from what the last one left

-- between two exchanges: the board and the printout, the number of the last line, and the bytes that are kept
pub record Between : Type 0 where
  pub lent : LentBoard
  pub last : ℕ
  pub kept : List ℕ

abbrev pub between : LentBoard → ℕ → List ℕ → Between
between s n k = record { lent = s; last = n; kept = k }

abbrev pub board_of : LentBoard → Board
board_of s = board s.machine s.memory

-- the bytes that an exchange is given, and those that it keeps
abbrev pub bytes_given : ExchangeCall → List ℕ
bytes_given x = drop x.stream.from (take x.end x.block)

abbrev pub bytes_kept : ExchangeCall → List ℕ
bytes_kept x = drop x.answer.from (take x.answer.end x.block_left)

abbrev pub after_exchange : ExchangeCall → Between
after_exchange x = between x.left x.answer.last (bytes_kept x)

-- an exchange that reads the bytes r, perhaps none
pub record Exchanging (b : Between) (r : List ℕ) (x : ExchangeCall) : Type 0 where
  pub number : x.stream.last ≡ b.last
  pub bytes : bytes_given x ≡ b.kept ++ r
  pub answers : Converse b.lent x

abbrev pub Exchanges : Between → List (List ℕ) → List ExchangeCall → Type 0
Exchanges b [] [] = Unit {0}
Exchanges b [] (x ∷ xs) = ⊥
Exchanges b (r ∷ rs) [] = ⊥
Exchanges b (r ∷ rs) (x ∷ xs) = Exchanging b r x × Exchanges (after_exchange x) rs xs

-- every line that they answer is a confined run or is refused
abbrev pub AdmittedExchanges : Between → List (List ℕ) → List ExchangeCall → Type 0
AdmittedExchanges b [] xs = Unit {0}
AdmittedExchanges b (r ∷ rs) [] = Unit {0}
AdmittedExchanges b (r ∷ rs) (x ∷ xs) =
    (admits_lines (next b.last) (exchange_lines (b.kept ++ r)) (board_of b.lent) ≡ true) × AdmittedExchanges (after_exchange x) rs xs

-- the end of input after them
abbrev pub after_all : Between → List ExchangeCall → Between
after_all b [] = b
after_all b (x ∷ xs) = after_all (after_exchange x) xs

abbrev pub last_bytes : LastCall → List ℕ
last_bytes x = drop x.stream.from (take x.stream.end x.block)

pub record End (b : Between) (x : LastCall) : Type 0 where
  pub number : x.stream.last ≡ b.last
  pub bytes : last_bytes x ≡ b.kept
  pub answers : Finish b.lent x

abbrev pub AdmittedEnd : Between → Type 0
AdmittedEnd b = admits_lines (next b.last) (last_line b.kept) (board_of b.lent) ≡ true

-- ---- what two calls left

-- the boards, the buffers with the places up to which they are written out, and the tallies: equal but for the hidden pages,
-- which hold the bytes of m and of n
pub record SameLent (Hidden : ℕ → Type 0) (m n : Memory) (s t : LentBoard) : Type 0 where
  pub printout : s.printout ≡ t.printout
  pub registers : s.machine ≡ t.machine
  pub others : Agree Hidden s.memory t.memory
  pub first_a : HiddenKept Hidden m s.memory
  pub first_b : HiddenKept Hidden n t.memory

-- the number of the last line, what is kept, and whether a line ends in it
pub record SameExchange (Hidden : ℕ → Type 0) (m n : Memory) (x y : ExchangeCall) : Type 0 where
  pub last : x.answer.last ≡ y.answer.last
  pub kept : bytes_kept x ≡ bytes_kept y
  pub more : x.answer.more ≡ y.answer.more
  pub left : SameLent Hidden m n x.left y.left

abbrev pub SameExchanges : (ℕ → Type 0) → Memory → Memory → List ExchangeCall → List ExchangeCall → Type 0
SameExchanges Hidden m n [] [] = Unit {0}
SameExchanges Hidden m n [] (y ∷ ys) = ⊥
SameExchanges Hidden m n (x ∷ xs) [] = ⊥
SameExchanges Hidden m n (x ∷ xs) (y ∷ ys) = SameExchange Hidden m n x y × SameExchanges Hidden m n xs ys

-- ---- the loop

abbrev pub begun : Cpu → Memory → Printout → ℕ → List ℕ → Between
begun c m o i k = between (record { machine = c; memory = m; printout = o }) i k

-- for every two boards that are equal but for hidden pages, and every input, however it is read: the same after each exchange
abbrev pub ConfinedExchanges : Type 1
ConfinedExchanges =
    (Hidden : ℕ → Type 0) (a b : Cpu) (m n : Memory) → Apart Hidden (board a m) (board b n)
    → (o : Printout) (i : ℕ) (k : List ℕ) (reads : List (List ℕ)) (xs ys : List ExchangeCall)
    → AdmittedExchanges (begun a m o i k) reads xs → Exchanges (begun a m o i k) reads xs → Exchanges (begun b n o i k) reads ys
    → SameExchanges Hidden m n xs ys

-- and after the end of input, at which a last line may have no newline and the totals are printed
abbrev pub ConfinedEnd : Type 1
ConfinedEnd =
    (Hidden : ℕ → Type 0) (a b : Cpu) (m n : Memory) → Apart Hidden (board a m) (board b n)
    → (o : Printout) (i : ℕ) (k : List ℕ) (reads : List (List ℕ)) (xs ys : List ExchangeCall)
    → AdmittedExchanges (begun a m o i k) reads xs → Exchanges (begun a m o i k) reads xs → Exchanges (begun b n o i k) reads ys
    → (x y : LastCall) → AdmittedEnd (after_all (begun a m o i k) xs)
    → End (after_all (begun a m o i k) xs) x → End (after_all (begun b n o i k) ys) y → SameLent Hidden m n x.left y.left
