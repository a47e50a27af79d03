-- What a conversation prints, line by line: a line of input prints nothing, or one line of digits.
-- Assumes nothing.
use Rattle.std.proofs.Common.{◌≡◌, ℕ, zero, suc, Bool, true, false, List, [], ◌∷◌, ◌++◌, sym, refl, ap, ◌∙◌, subst, append_assoc}
use Rattle.std.specs.Prelude.{Option, Some, None}
use Rattle.word.proofs.ListLaws.{Each}
use Rattle.machine.specs.Registers.{set_register}
use Rattle.run_spec.specs.Run.{Board, run}
use Rattle.board_lines.specs.declared.Frame.{Frame}
use Rattle.board_lines.specs.declared.Frame.TheVariants.{Set, Store, Run, Confined}
use Rattle.board_lines.specs.Lines.{frame_of, malformed_line}
use Rattle.board_lines.specs.Stores.{frame_store}
use Rattle.board_lines.specs.Answers.{refused_line, unless_done}
use Rattle.lines.specs.Texts.{lines_of, next}
use Rattle.board_lines.specs.declared.Tally.{Tally}
use Rattle.board_lines.specs.Printouts.{lines_added}
use Rattle.lines.proofs.TextLaws.{unended, LineText, no_text, lines_after, line_lines}
use Rattle.board_lines.proofs.TotalsLaws.{refused_text, ran_text, added_after}
use Rattle.board_conversation.specs.Conversation.{has_run, frame_answer, line_answer, conversation}

module _ (P : List ℕ → Type 0) where
  -- where every line of a refusal is in P, and every line of a run
  module _ (refused : (r n : ℕ) → P (unended (refused_line r n)))
      (ran : (confined : Bool) (budget level : ℕ) (b : Board) → P (unended (has_run (run confined budget level b)).printed)) where
    unless_text : (n r : ℕ) → LineText P (unless_done n r)
    unless_text n zero = no_text
    unless_text n (suc r) = refused_text (suc r) n P (refused (suc r) n)

    run_text : (confined : Bool) (budget level : ℕ) (b : Board) → LineText P (has_run (run confined budget level b)).printed
    run_text confined budget level b = ran_text _ _ _ _ _ P (ran confined budget level b)

    frame_text : (n : ℕ) (s : List ℕ) (b : Board) (f : Option Frame) → LineText P (frame_answer n s b f).printed
    unfolding frame_answer
    frame_text n s b (Some (Set place word)) = unless_text n (set_register b.cpu.bank place word).refusal
    frame_text n s b (Some (Store address)) = unless_text n (frame_store s b.memory address).refusal
    frame_text n s b (Some (Run budget level)) = run_text false budget level b
    frame_text n s b (Some (Confined budget level)) = run_text true budget level b
    frame_text n s b None = refused_text malformed_line n P (refused malformed_line n)

    -- before a text whose lines are in P
    pub conversation_lines : (n : ℕ) (l : List (List ℕ)) (b : Board) (u : List ℕ) → Each P (lines_of u)
        → Each P (lines_of ((conversation n l b).printed ++ u))
    unfolding conversation
    conversation_lines n [] b u h = h
    conversation_lines n (s ∷ l) b u h =
        let a = line_answer n s b in
        let w = (conversation (next n) l a.board).printed in
        subst (λ (t : List ℕ). Each P (lines_of t)) (sym (append_assoc a.printed w u))
        (line_lines P a.printed (w ++ u) (frame_text n s b (frame_of s)) (conversation_lines (next n) l a.board u h))

-- ---- the lines of an answer before those of a text

answer_lines : (n : ℕ) (s : List ℕ) (b : Board) (u : List ℕ) → lines_of ((line_answer n s b).printed ++ u) ≡ lines_of (line_answer n s b).printed ++ lines_of u
answer_lines n s b u =
    lines_after (λ _. Unit {0}) (line_answer n s b).printed u
    (frame_text (λ _. Unit {0}) (λ r i. tt) (λ confined budget level d. tt) n s b (frame_of s))

conversation_after : (n : ℕ) (l : List (List ℕ)) (b : Board) (u : List ℕ)
    → lines_of ((conversation n l b).printed ++ u) ≡ lines_of (conversation n l b).printed ++ lines_of u
unfolding conversation lines_of
conversation_after n [] b u = refl
conversation_after n (s ∷ l) b u =
    let a = line_answer n s b in
    let w = (conversation (next n) l a.board).printed in
    ap lines_of (append_assoc a.printed w u)
    ∙ answer_lines n s b (w ++ u)
    ∙ ap (λ (x : List (List ℕ)). lines_of a.printed ++ x) (conversation_after (next n) l a.board u)
    ∙ sym (append_assoc (lines_of a.printed) (lines_of w) (lines_of u))
    ∙ ap (λ (x : List (List ℕ)). x ++ lines_of u) (sym (answer_lines n s b w))

-- counted one after the other, or at once
module _ (n : ℕ) (b : Board) (u : List ℕ) (k : Tally) where
  pub answer_added : (s : List ℕ)
      → lines_added (lines_of u) (lines_added (lines_of (line_answer n s b).printed) k) ≡ lines_added (lines_of ((line_answer n s b).printed ++ u)) k
  answer_added s =
      sym (ap (λ (x : List (List ℕ)). lines_added x k) (answer_lines n s b u) ∙ added_after (lines_of (line_answer n s b).printed) (lines_of u) k)

  pub conversation_added : (l : List (List ℕ))
      → lines_added (lines_of u) (lines_added (lines_of (conversation n l b).printed) k) ≡ lines_added (lines_of ((conversation n l b).printed ++ u)) k
  conversation_added l =
      sym (ap (λ (x : List (List ℕ)). lines_added x k) (conversation_after n l b u) ∙ added_after (lines_of (conversation n l b).printed) (lines_of u) k)
