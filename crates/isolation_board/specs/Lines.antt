-- Demand 3 of the board program's lines: what a conversation prints in which every line is a confined run or is refused.
-- Assumes nothing.
use Rattle.std.specs.Prelude.{ℕ, ◌≡◌, Bool, true, false, ◌&&◌, List, [], ◌∷◌, ltb, Option, Some, None}
use Rattle.machine.specs.Registers.{set_register}
use Rattle.run_spec.specs.Run.{Board, refusal}
use Rattle.board_lines.specs.declared.Frame.{Frame}
use Rattle.board_lines.specs.declared.Frame.TheVariants.{Set, Store, Run, Confined}
use Rattle.board_lines.specs.Lines.{frame_of}
use Rattle.board_lines.specs.Stores.{frame_store}
use Rattle.lines.specs.Texts.{lines_of, next}
use Rattle.board_conversation.specs.Conversation.{line_answer, conversation, program_on}
use Rattle.isolation.specs.Isolation.{Same, Apart}

-- frames that are "confined runs, refused ones included", or refused: 04; a bad line; 01, 02 and 03 with a number of the
-- refusals, 03 before its first step
abbrev pub admits_frame : List ℕ → Board → Option Frame → Bool
admits_frame s b (Some (Set place word)) = ltb 0 (set_register b.cpu.bank place word).refusal
admits_frame s b (Some (Store address)) = ltb 0 (frame_store s b.memory address).refusal
admits_frame s b (Some (Run budget level)) = ltb 0 (refusal false level b)
admits_frame s b (Some (Confined budget level)) = true
admits_frame s b None = true

-- each line on the board that the lines before it left, the first of them line n; only one machine is judged
abbrev pub admits_lines : ℕ → List (List ℕ) → Board → Bool
admits_lines n [] b = true
admits_lines n (s ∷ t) b = admits_frame s b (frame_of s) && admits_lines (next n) t (line_answer n s b).board

-- the bytes of a line's answer are equal, and the boards after it are the same but for the hidden pages, which hold the
-- bytes of a₀ and b₀
pub record SameLine (Hidden : ℕ → Type 0) (a₀ b₀ : Board) (n : ℕ) (s : List ℕ) (a b : Board) : Type 0 where
  pub printed : (line_answer n s a).printed ≡ (line_answer n s b).printed
  pub left : Same Hidden a₀ b₀ (line_answer n s a).board (line_answer n s b).board

-- after every line
abbrev pub SameLines : (ℕ → Type 0) → Board → Board → ℕ → List (List ℕ) → Board → Board → Type 0
SameLines Hidden a₀ b₀ n [] a b = Unit {0}
SameLines Hidden a₀ b₀ n (s ∷ t) a b =
    SameLine Hidden a₀ b₀ n s a b × SameLines Hidden a₀ b₀ (next n) t (line_answer n s a).board (line_answer n s b).board

-- "for every list of confined runs, refused ones included .. each run going on from what the last one left": every line's
-- answer is equal
abbrev pub ConfinedLines : Type 1
ConfinedLines =
    (Hidden : ℕ → Type 0) (a b : Board) → Apart Hidden a b
    → (n : ℕ) (lines : List (List ℕ)) → admits_lines n lines a ≡ true → SameLines Hidden a b n lines a b

-- and so is all that the conversation prints; the boards after it are the same but for the hidden pages
abbrev pub ConfinedConversation : Type 1
ConfinedConversation =
    (Hidden : ℕ → Type 0) (a b : Board) → Apart Hidden a b
    → (n : ℕ) (lines : List (List ℕ)) → admits_lines n lines a ≡ true
    → ((conversation n lines a).printed ≡ (conversation n lines b).printed)
    × Same Hidden a b (conversation n lines a).board (conversation n lines b).board

-- and all that the program prints for an input, to the totals under it
abbrev pub ConfinedProgram : Type 1
ConfinedProgram =
    (Hidden : ℕ → Type 0) (a b : Board) → Apart Hidden a b
    → (input : List ℕ) → admits_lines 1 (lines_of input) a ≡ true → program_on a input ≡ program_on b input
