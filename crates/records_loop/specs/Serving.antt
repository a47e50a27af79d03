-- The programs that convert, of the running code: in whatever pieces the input is read, what the exchanges of their loop and its end
-- hand to the writes, by the contracts that they export, is what the definition prints.
-- Assumes nothing.
use Rattle.std.specs.Prelude.{ℕ, suc, ◌≤◌, ◌≡◌, true, false, List, [], ◌∷◌, ◌++◌, length, take, Result, is_err, ⊤}
use contract.Lifetimes.{Lfts}
use Rattle.std.specs.Borrow.{Bor, MutBor}
use denote.Triple.Entry.{Args}
use denote.Triple.Clauses.{Lasts, at_exit}
use Rattle.refusals.specs.declared.Refusal.{Refusal}
use Rattle.hex_digits.specs.declared.Writer.{Writer}
use Rattle.lines.specs.Texts.{whole}
use Rattle.records_conversion.specs.declared.Way.{Way}
use Rattle.records_conversion.specs.declared.ConversionState.{ConversionState}
use Rattle.records_conversion.specs.Conversion.{conversion_program}
use Rattle.records_conversion.specs.Loop.{most_kept, room_needed}
use Rattle.records_conversion.specs.contracts.ConversionState.convert as convert
use Rattle.records_conversion.proofs.ConversionState.convert.Reads as convert_contract
use Rattle.records_conversion.specs.contracts.ConversionState.finish as finish
use Rattle.records_conversion.proofs.ConversionState.finish.Reads as finish_contract

-- ---- the calls

-- an exchange: what it was given, with lifetimes, pointers and ghost names, of which the contract says only that the output's
-- buffer stays the one that was lent, its answer, and what it left
pub record ConvertCall : Type 0 where
  pub lifetimes : Lfts 4
  pub state : MutBor ConversionState
  pub end : ℕ
  pub block : MutBor (List ℕ)
  pub output : MutBor Writer
  pub answer : Result ⊤ Refusal
  pub state_left : ConversionState
  pub block_left : List ℕ
  pub output_left : Writer

-- `records_conversion::ConversionState::convert` answered so
abbrev pub Converts : Way → ConvertCall → Type 0
Converts w x =
    convert_contract.Asked x.lifetimes arguments
    → convert_contract.Learnt x.lifetimes arguments x.answer (at_exit convert.ended x.lifetimes arguments left)
  where
    arguments : Args convert.signature x.lifetimes
    arguments = (x.state, (w, (x.end, (x.block, (x.output, tt)))))

    left : Lasts convert.ended x.lifetimes arguments
    left = (x.state_left, (tt, (tt, (x.block_left, (x.output_left, tt)))))

-- the end of input: what it was given, and what it left
pub record FinishCall : Type 0 where
  pub lifetimes : Lfts 3
  pub state : ConversionState
  pub block : Bor (List ℕ)
  pub output : MutBor Writer
  pub output_left : Writer

-- `records_conversion::ConversionState::finish` answered so
abbrev pub Finishes : Way → FinishCall → Type 0
Finishes w x =
    finish_contract.Asked x.lifetimes arguments
    → finish_contract.Learnt x.lifetimes arguments tt (at_exit finish.ended x.lifetimes arguments left)
  where
    arguments : Args finish.signature x.lifetimes
    arguments = (x.state, (w, (x.block, (x.output, tt))))

    left : Lasts finish.ended x.lifetimes arguments
    left = (tt, (tt, (tt, (x.output_left, tt))))

-- ---- how the loop makes them, each going on from what the last one left

-- between two calls: the bytes that are kept, the number of the last line, and the buffer
pub record BetweenCalls : Type 0 where
  pub kept : List ℕ
  pub last : ℕ
  pub buffer : List ℕ

abbrev pub between_calls : List ℕ → ℕ → List ℕ → BetweenCalls
between_calls k n o = record { kept = k; last = n; buffer = o }

-- before the first of them
abbrev pub before_calls : List ℕ → BetweenCalls
before_calls o = between_calls [] 0 o

abbrev pub after_call : ConvertCall → BetweenCalls
after_call x = between_calls (take x.state_left.end x.block_left) x.state_left.last x.output_left.buffer.now

-- an exchange that reads the bytes r, into a buffer with the room that they need, as the programs' has for their whole block
pub record ExchangeMade (w : Way) (p : BetweenCalls) (r : List ℕ) (x : ConvertCall) : Type 0 where
  pub number : x.state.now.last ≡ p.last
  pub bytes : take x.end x.block.now ≡ p.kept ++ r
  pub buffer : x.output.now.buffer.now ≡ p.buffer
  pub room : room_needed (length (p.kept ++ r)) ≤ length p.buffer
  pub answers : Converts w x

-- the end of input
pub record EndMade (w : Way) (p : BetweenCalls) (x : FinishCall) : Type 0 where
  pub number : x.state.last ≡ p.last
  pub bytes : take x.state.end x.block.now ≡ p.kept
  pub buffer : x.output.now.buffer.now ≡ p.buffer
  pub room : room_needed (suc (length p.kept)) ≤ length p.buffer
  pub answers : Finishes w x

-- what a call hands to a write: the buffer up to the place that it left
abbrev pub to_write : ConvertCall → List ℕ
to_write x = take x.output_left.place x.output_left.buffer.now

abbrev pub to_write_last : FinishCall → List ℕ
to_write_last x = take x.output_left.place x.output_left.buffer.now

-- the input is read in these pieces, perhaps not to its end, and this text is handed to the writes
pub data Writes (w : Way) : BetweenCalls → List (List ℕ) → List ℕ → Type 0 where
  -- the work is over: nothing more is read
  refusal_written : (p : BetweenCalls) (r : List ℕ) (rs : List (List ℕ)) (x : ConvertCall) → ExchangeMade w p r x → is_err x.answer ≡ true
      → Writes w p (r ∷ rs) (to_write x)
  more_written : (p : BetweenCalls) (r : List ℕ) (rs : List (List ℕ)) (x : ConvertCall) (t : List ℕ) → ExchangeMade w p r x → is_err x.answer ≡ false
      → Writes w (after_call x) rs t → Writes w p (r ∷ rs) (to_write x ++ t)
  last_written : (p : BetweenCalls) (x : FinishCall) → EndMade w p x → Writes w p [] (to_write_last x)

-- some of it, as where a read or a write fails
pub data BeginsWriting (w : Way) : BetweenCalls → List (List ℕ) → List ℕ → Type 0 where
  nothing_written : (p : BetweenCalls) → BeginsWriting w p [] []
  some_written : (p : BetweenCalls) (r : List ℕ) (rs : List (List ℕ)) (x : ConvertCall) (t : List ℕ) → ExchangeMade w p r x → is_err x.answer ≡ false
      → BeginsWriting w (after_call x) rs t → BeginsWriting w p (r ∷ rs) (to_write x ++ t)

-- ---- what is handed to the writes is what the definition prints for the whole input

abbrev pub ConversionPrints : Type 0
ConversionPrints =
    (w : Way) (o : List ℕ) (reads : List (List ℕ)) (t : List ℕ) → Writes w (before_calls o) reads t → t ≡ conversion_program w (whole reads)

-- and before the end: it is how that text begins, whatever would have followed
abbrev pub ConversionBegins : Type 0
ConversionBegins =
    (w : Way) (o : List ℕ) (reads : List (List ℕ)) (t : List ℕ) → BeginsWriting w (before_calls o) reads t
    → (more : List ℕ) → take (length t) (conversion_program w (whole reads ++ more)) ≡ t

-- there are such calls: the contracts allow them for every input that is read at once, where the buffer has the room
pub record WritesWhole (w : Way) (o input : List ℕ) : Type 0 where
  pub text : List ℕ
  pub writes : Writes w (before_calls o) (input ∷ []) text

abbrev pub ConversionServes : Type 0
ConversionServes =
    Lfts 4 → MutBor (List ℕ) → (w : Way) (o input : List ℕ) → room_needed (length input) ≤ length o → room_needed (suc most_kept) ≤ length o
    → WritesWhole w o input
