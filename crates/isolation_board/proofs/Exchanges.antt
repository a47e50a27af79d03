-- What the exchanges of the board program's loop answer on two boards that are equal but for hidden pages.
-- Assumes nothing.
use Prim.Native.Nat.{ℕ}
use mathlib.Core.Path.{◌≡◌, refl, sym, ap, ◌∙◌}
use mathlib.Core.Bool.{true}
use mathlib.Core.List.{List, [], ◌∷◌, ◌++◌}
use Rattle.memory.specs.Bytes.{Memory}
use Rattle.machine.specs.Status.{Cpu}
use Rattle.run_spec.specs.Run.{Board, board}
use Rattle.board_lines.specs.Printouts.{Printout, totalled}
use Rattle.lines.specs.Texts.{next, last_line}
use Rattle.board_conversation.specs.Code.{BoardIo, board_io, cleared}
use Rattle.board_conversation.specs.Blocks.{lines_on}
use Rattle.board_conversation.specs.Loop.{exchange_lines, Exchange, exchange, exchange_of, totals_on}
use Rattle.isolation.specs.Isolation.{Apart}
use Rattle.isolation_board.specs.Calls.{LentBoard, ExchangeCall, Converse, LastCall, Finish}
use Rattle.isolation_board.specs.Lines.{admits_lines}
use Rattle.isolation_board.specs.Exchanges.{Between, board_of, bytes_given, bytes_kept, last_bytes, after_exchange, Exchanging, Exchanges}
use Rattle.isolation_board.specs.Exchanges.{after_all, End, AdmittedExchanges, AdmittedEnd, SameLent, SameExchange, SameExchanges}
use Rattle.isolation_board.specs.Exchanges.{begun, ConfinedExchanges, ConfinedEnd}
use Rattle.isolation_board.proofs.Lines.{Alike, alike}
use Rattle.isolation_board.proofs.Buffers.{buffers_same}

abbrev pub io_by : LentBoard → BoardIo
io_by s = board_io (board_of s) s.printout

-- as an exchange begins
abbrev pub cleared_by : LentBoard → BoardIo
cleared_by s = board_io (board_of s) (cleared s.printout)

abbrev pub exchange_by : ExchangeCall → Exchange
exchange_by x = exchange (io_by x.left) x.answer.last (bytes_kept x) x.answer.more

-- what the exported contracts say: they ask for nothing, and an exchange and the end are those of the definitions
pub converse_says : (s : LentBoard) (x : ExchangeCall)
    → Converse s x → exchange_by x ≡ exchange_of x.stream.last (bytes_given x) (cleared_by s)
converse_says s x h = (h tt).1

pub finish_says : (s : LentBoard) (x : LastCall)
    → Finish s x → io_by x.left ≡ totals_on (lines_on (next x.stream.last) (last_line (last_bytes x)) (cleared_by s))
finish_says s x h = (h tt).1

-- on from what the last call left
pub exchange_said : (b : Between) (r : List ℕ) (x : ExchangeCall) → Exchanging b r x
    → exchange_by x ≡ exchange_of b.last (b.kept ++ r) (cleared_by b.lent)
exchange_said b r x t = converse_says b.lent x t.answers ∙ (λ i. exchange_of (t.number i) (t.bytes i) (cleared_by b.lent))

pub end_said : (b : Between) (x : LastCall) → End b x
    → io_by x.left ≡ totals_on (lines_on (next b.last) (last_line b.kept) (cleared_by b.lent))
end_said b x t =
    finish_says b.lent x t.answers ∙ (λ i. totals_on (lines_on (next (t.number i)) (last_line (t.bytes i)) (cleared_by b.lent)))

module _ (H : ℕ → Type 0) (a₀ b₀ : Board) where
  -- both loops are at the same place
  record Level (b d : Between) : Type 0 where
    boards : Alike H a₀ b₀ (board_of b.lent) (board_of d.lent)
    printout : b.lent.printout ≡ d.lent.printout
    last : b.last ≡ d.last
    kept : b.kept ≡ d.kept

  left_same : (s t : LentBoard) → s.printout ≡ t.printout
      → Alike H a₀ b₀ (board_of s) (board_of t) → SameLent H a₀.memory b₀.memory s t
  left_same s t e h =
      let w = h.now in
      record { printout = e; registers = w.registers; others = w.others; first_a = w.first_a; first_b = w.first_b }

  -- ---- an exchange, the second side's by the number, the bytes and the printout of the first

  abbrev second_io : Between → Between → BoardIo
  second_io b d = board_io (board_of d.lent) (cleared b.lent.printout)

  exchange_second : (b d : Between) (r : List ℕ) (y : ExchangeCall) → Level b d → Exchanging d r y
      → exchange_by y ≡ exchange_of b.last (b.kept ++ r) (second_io b d)
  exchange_second b d r y l t =
      exchange_said d r y t
      ∙ (λ i. exchange_of (sym l.last i) (sym l.kept i ++ r) (board_io (board_of d.lent) (cleared (sym l.printout i))))

  module _ (b d : Between) (r : List ℕ) (x y : ExchangeCall) (l : Level b d) (f : Exchanging b r x) (g : Exchanging d r y)
      (e : admits_lines (next b.last) (exchange_lines (b.kept ++ r)) (board_of b.lent) ≡ true) where
    told : ((lines_on (next b.last) (exchange_lines (b.kept ++ r)) (cleared_by b.lent)).printout
        ≡ (lines_on (next b.last) (exchange_lines (b.kept ++ r)) (second_io b d)).printout)
        × Alike H a₀ b₀ (lines_on (next b.last) (exchange_lines (b.kept ++ r)) (cleared_by b.lent)).board
        (lines_on (next b.last) (exchange_lines (b.kept ++ r)) (second_io b d)).board
    told =
        buffers_same H a₀ b₀ (next b.last) (exchange_lines (b.kept ++ r)) (board_of b.lent) (board_of d.lent)
        (cleared b.lent.printout) l.boards e

    -- what is the same of the definition is the same of the answers
    of_both : {A : Type 0} (p : Exchange → A)
        → p (exchange_of b.last (b.kept ++ r) (cleared_by b.lent)) ≡ p (exchange_of b.last (b.kept ++ r) (second_io b d))
        → p (exchange_by x) ≡ p (exchange_by y)
    of_both p h = ap p (exchange_said b r x f) ∙ h ∙ sym (ap p (exchange_second b d r y l g))

    boards_after : Alike H a₀ b₀ (board_of x.left) (board_of y.left)
    boards_after =
        let e = ap (λ (z : Exchange). z.board_io.board) (exchange_said b r x f) in
        let h = ap (λ (z : Exchange). z.board_io.board) (exchange_second b d r y l g) in
        rw (e, h) told.1

    printout_after : x.left.printout ≡ y.left.printout
    printout_after = of_both (λ z. z.board_io.printout) told.0

    exchange_same : SameExchange H a₀.memory b₀.memory x y
    exchange_same =
        record {
          last = of_both (λ z. z.last) refl;
          kept = of_both (λ z. z.bytes) refl;
          more = of_both (λ z. z.more) refl;
          left = left_same x.left y.left printout_after boards_after;
        }

    level_after : Level (after_exchange x) (after_exchange y)
    level_after =
        record { boards = boards_after; printout = printout_after; last = exchange_same.last; kept = exchange_same.kept }

  exchanges_same : (b d : Between) (rs : List (List ℕ)) (xs ys : List ExchangeCall) → Level b d
      → AdmittedExchanges b rs xs → Exchanges b rs xs → Exchanges d rs ys
      → SameExchanges H a₀.memory b₀.memory xs ys × Level (after_all b xs) (after_all d ys)
  exchanges_same b d [] [] [] l e f g = (tt, l)
  exchanges_same b d [] [] (y ∷ ys) l e f g = absurd g
  exchanges_same b d [] (x ∷ xs) ys l e f g = absurd f
  exchanges_same b d (r ∷ rs) [] ys l e f g = absurd f
  exchanges_same b d (r ∷ rs) (x ∷ xs) [] l e f g = absurd g
  exchanges_same b d (r ∷ rs) (x ∷ xs) (y ∷ ys) l e f g =
      let h = level_after b d r x y l f.0 g.0 e.0 in
      let k = exchanges_same (after_exchange x) (after_exchange y) rs xs ys h e.1 f.1 g.1 in
      ((exchange_same b d r x y l f.0 g.0 e.0, k.0), k.1)

  -- ---- the end of input

  end_second : (b d : Between) (y : LastCall) → Level b d → End d y
      → io_by y.left ≡ totals_on (lines_on (next b.last) (last_line b.kept) (second_io b d))
  end_second b d y l t =
      end_said d y t
      ∙ (λ i. totals_on (lines_on (next (sym l.last i)) (last_line (sym l.kept i)) (board_io (board_of d.lent) (cleared (sym l.printout i)))))

  end_same : (b d : Between) (x y : LastCall) → Level b d → AdmittedEnd b → End b x → End d y
      → SameLent H a₀.memory b₀.memory x.left y.left
  end_same b d x y l e f g = left_same x.left y.left printed_alike boards
    where
      told : ((lines_on (next b.last) (last_line b.kept) (cleared_by b.lent)).printout
          ≡ (lines_on (next b.last) (last_line b.kept) (second_io b d)).printout)
          × Alike H a₀ b₀ (lines_on (next b.last) (last_line b.kept) (cleared_by b.lent)).board
          (lines_on (next b.last) (last_line b.kept) (second_io b d)).board
      told =
          buffers_same H a₀ b₀ (next b.last) (last_line b.kept) (board_of b.lent) (board_of d.lent)
          (cleared b.lent.printout) l.boards e

      -- the last line's answer and the totals after it
      printed_alike : x.left.printout ≡ y.left.printout
      printed_alike =
          ap (λ (z : BoardIo). z.printout) (end_said b x f) ∙ ap totalled told.0
          ∙ sym (ap (λ (z : BoardIo). z.printout) (end_second b d y l g))

      boards : Alike H a₀ b₀ (board_of x.left) (board_of y.left)
      boards =
          let h = ap (λ (z : BoardIo). z.board) (end_said b x f) in
          let k = ap (λ (z : BoardIo). z.board) (end_second b d y l g) in
          rw (h, k) told.1

module _ (H : ℕ → Type 0) (a b : Cpu) (m n : Memory) (p : Apart H (board a m) (board b n)) where
  start : (o : Printout) (i : ℕ) (k : List ℕ) → Level H (board a m) (board b n) (begun a m o i k) (begun b n o i k)
  start o i k = record { boards = alike H (board a m) (board b n) p; printout = refl; last = refl; kept = refl }

pub confined_exchanges : ConfinedExchanges
confined_exchanges H a b m n p o i k rs xs ys e f g =
    (exchanges_same H (board a m) (board b n) (begun a m o i k) (begun b n o i k) rs xs ys (start H a b m n p o i k) e f g).0

pub confined_end : ConfinedEnd
confined_end H a b m n p o i k rs xs ys e f g x y c d h =
    let l = start H a b m n p o i k in
    let s = exchanges_same H (board a m) (board b n) (begun a m o i k) (begun b n o i k) rs xs ys l e f g in
    end_same H (board a m) (board b n) (after_all (begun a m o i k) xs) (after_all (begun b n o i k) ys) x y s.1 c d h
