-- A line answered: the ways out of each part, and a line by its frame.
-- Assumes nothing.
use Rattle.std.proofs.Common.{◌≡◌, ℕ, Bool, true, false, ◌&&◌, leb, List, sym, refl, ap, ◌∙◌}
use Rattle.std.specs.Prelude.{Option, Some, None}
use Rattle.machine.specs.Registers.{Bank, Setting, setting, set_register}
use Rattle.machine.specs.Cache.{Cache}
use Rattle.machine.specs.Status.{Cpu, cpu, reg}
use Rattle.run_spec.specs.Run.{board, RunResult, run_result, run}
use Rattle.board_lines.specs.declared.Frame.{Frame}
use Rattle.board_lines.specs.declared.Frame.TheVariants.{Set, Store, Run, Confined}
use Rattle.board_lines.specs.Lines.{frame_of, numbers_of}
use Rattle.board_lines.proofs.FrameLaws.{same_frame}
use Rattle.board_lines.specs.Stores.{StoreResult, store_result, frame_store}
use Rattle.board_lines.specs.Answers.{refused_line, unless_done, ran_line}
use Rattle.board_lines.specs.Printouts.{Printout, tallied}
use Rattle.board_conversation.specs.Conversation.{was_set, was_stored, has_run, frame_answer}
use Rattle.board_conversation.specs.Code.{BoardIo, board_io, printed_on}
use Rattle.board_conversation.specs.Blocks.{is_long_run, line_answered, answered_unless}

-- ---- frames 03 and 04

pub run_answered : (n stop code : ℕ) (k : Cpu) (m : List ℕ) (o o' : Printout) (x : RunResult) → run_result n stop code (board k m) ≡ x
    → o' ≡ tallied (ran_line n stop code (reg k 5) (reg k 6)) o → board_io (board k m) o' ≡ printed_on (has_run x) o
run_answered n stop code k m o o' x e h = ap (board_io (board k m)) h ∙ ap (λ (y : RunResult). printed_on (has_run y) o) e

-- ---- a line, by its frame

pub some_frame : (f : Option Frame) (x y : Frame) → f ≡ Some x → x ≡ y → f ≡ Some y
some_frame f x y e h = e ∙ ap (λ (z : Frame). Some z) h

module _ (n : ℕ) (s : List ℕ) (b : Bank) (q : Cache) (m : List ℕ) (o : Printout) (f : Option Frame) where
  framed : (x : Option Frame) (d : BoardIo) → f ≡ x → d ≡ printed_on (frame_answer n s (board (cpu b q) m) x) o
      → d ≡ printed_on (frame_answer n s (board (cpu b q) m) f) o
  framed x d g h = h ∙ ap (λ (y : Option Frame). printed_on (frame_answer n s (board (cpu b q) m) y) o) (sym g)

  pub answered_set : (a w k : ℕ) (d : Bank) (o' : Printout) → f ≡ Some (Set a w) → setting k d ≡ set_register b a w
      → o' ≡ tallied (unless_done n k) o → board_io (board (cpu d q) m) o' ≡ printed_on (frame_answer n s (board (cpu b q) m) f) o
  unfolding frame_answer
  answered_set a w k d o' g h e =
      framed (Some (Set a w)) _ g
      (ap (board_io (board (cpu d q) m)) e ∙ ap (λ (t : Setting). printed_on (was_set n (board (cpu b q) m) t) o) h)

  pub answered_store : (a k : ℕ) (l : List ℕ) (o' : Printout) → f ≡ Some (Store a) → store_result k l ≡ frame_store s m a
      → o' ≡ tallied (unless_done n k) o → board_io (board (cpu b q) l) o' ≡ printed_on (frame_answer n s (board (cpu b q) m) f) o
  unfolding frame_answer
  answered_store a k l o' g h e =
      framed (Some (Store a)) _ g
      (ap (board_io (board (cpu b q) l)) e ∙ ap (λ (t : StoreResult). printed_on (was_stored n (board (cpu b q) m) t) o) h)

  pub answered_run : (k l : ℕ) (d : BoardIo) → f ≡ Some (Run k l) → d ≡ printed_on (has_run (run false k l (board (cpu b q) m))) o
      → d ≡ printed_on (frame_answer n s (board (cpu b q) m) f) o
  unfolding frame_answer
  answered_run k l d g h = framed (Some (Run k l)) d g h

  pub answered_confined : (k l : ℕ) (d : BoardIo) → f ≡ Some (Confined k l) → d ≡ printed_on (has_run (run true k l (board (cpu b q) m))) o
      → d ≡ printed_on (frame_answer n s (board (cpu b q) m) f) o
  unfolding frame_answer
  answered_confined k l d g h = framed (Some (Confined k l)) d g h

  pub answered_bad : (o' : Printout) → f ≡ None → o' ≡ tallied (refused_line 7 n) o
      → board_io (board (cpu b q) m) o' ≡ printed_on (frame_answer n s (board (cpu b q) m) f) o
  unfolding frame_answer
  answered_bad o' g h = framed None _ g (ap (board_io (board (cpu b q) m)) h)

-- ---- a run of many steps

pub long_run_law : (f : Option Frame) (budget level : ℕ) → f ≡ Some (Run budget level) → leb 4096 budget ≡ is_long_run f
long_run_law f budget level e = ap is_long_run (sym e)

-- ---- a line, answered or waiting, by the frame that it is

module _ (begun : Bool) (n : ℕ) (s : List ℕ) (d : BoardIo) (f : Option Frame) (e : numbers_of f ≡ numbers_of (frame_of s)) (l : Bool) (g : l ≡ is_long_run f) where
  test : begun && l ≡ begun && is_long_run (frame_of s)
  test = ap (λ (x : Bool). begun && x) (g ∙ ap is_long_run (same_frame f (frame_of s) e))

  pub line_waits : begun && l ≡ true → line_answered d true ≡ answered_unless begun n s d
  line_waits h = rw (sym test ∙ h) refl

  pub line_answered_law : (x : BoardIo) → begun && l ≡ false → x ≡ printed_on (frame_answer n s d.board f) d.printout → line_answered x false ≡ answered_unless begun n s d
  line_answered_law x h k =
      rw (sym test ∙ h)
      (ap (λ (y : BoardIo). line_answered y false) (k ∙ ap (λ (y : Option Frame). printed_on (frame_answer n s d.board y) d.printout) (same_frame f (frame_of s) e)))
