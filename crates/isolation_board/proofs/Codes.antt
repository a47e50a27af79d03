-- The stops and codes of runs as the code answers them and as lines show them, from the theorem on the definition.
-- Assumes nothing.
use Prim.Native.Nat.{ℕ, ◌<◌}
use mathlib.Core.Path.{◌≡◌, refl, sym, ap, subst, ◌∙◌}
use mathlib.Core.Bool.{Bool, true, false, false≢true}
use mathlib.Core.List.{List, [], ◌∷◌}
use native.Mathlib.Omega.{arith}
use lib.Dec.{lit<}
use Rattle.std.specs.Prelude.{Option}
use Rattle.word.specs.Lists.{contains}
use Rattle.word.proofs.ListLaws.{Each, no_others, ◌also◌, each_at, all_below, contains_below}
use Rattle.machine.specs.Registers.{pc, psw, good_bank}
use Rattle.machine.specs.Status.{reg}
use Rattle.run_spec.specs.Run.{Board, board, RunResult, refusal, run}
use Rattle.hex_digits.specs.Digits.{digit_of, digit_byte, digits, number_at}
use Rattle.board_lines.specs.declared.Frame.{Frame}
use Rattle.board_lines.specs.Lines.{frame_of}
use Rattle.board_lines.specs.Answers.{refused_line, stop_place, code_place}
use Rattle.lines.specs.Texts.{lines_of}
use Rattle.board_lines.specs.Totals.{Totals, is_run_line, totals_of, totals_line}
use Rattle.lines.proofs.TextLaws.{unended}
use Rattle.board_lines.proofs.TotalsLaws.{read_stop, read_code, totals_lines}
use Rattle.board_conversation.specs.Conversation.{Answered, has_run, frame_answer, line_answer, conversation, start_board}
use Rattle.board_conversation.proofs.PrintedLaws.{conversation_lines}
use Rattle.hobbit.specs.Blocks.{RunAnswer, board_in, blocks_of}
use Rattle.invariants.specs.StopCodes.{refusal_codes, event_codes, codes_at, confined_code, RunStops}
use Rattle.invariants.proofs.StopCodes.{by_stop, on_confined_list, run_listed, listed_codes, answers_codes}
use Rattle.isolation_board.specs.Codes.{LentStops, LentCodes, LentAllows, HobbitStops, HobbitCodes, HobbitAllows, run_frame, PrintedStops, PrintedCodes, printed_lines, ProgramStops, ProgramCodes, ProgramAnswered}

-- ---- by the contracts that are exported, which ask for nothing

pub lent_codes : LentCodes
lent_codes confined = answers_codes confined (LentStops confined) as_run
  where
    as_run : (reason code : ℕ) → LentStops confined reason code → RunStops confined reason code
    as_run reason code a =
        record {
          budget = a.budget;
          level = a.level;
          start = board a.machine a.memory;
          stop_is = sym (ap (λ (e : RunResult). e.stop) (a.call tt)) ∙ a.stop_is;
          code_is = sym (ap (λ (e : RunResult). e.code) (a.call tt)) ∙ a.code_is;
        }

pub hobbit_codes : HobbitCodes
hobbit_codes confined = answers_codes confined (HobbitStops confined) as_run
  where
    as_run : (reason code : ℕ) → HobbitStops confined reason code → RunStops confined reason code
    as_run reason code a =
        record {
          budget = a.budget;
          level = a.level;
          start = board_in a.lent.registers a.lent.cache a.lent.memory;
          stop_is = sym (ap (λ (e : RunAnswer). e.stop) (a.call tt)) ∙ a.stop_is;
          code_is = sym (ap (λ (e : RunAnswer). e.code) (a.call tt)) ∙ a.code_is;
        }

pub lent_allows : LentAllows
lent_allows p confined reason code r =
    let e = run confined r.budget r.level r.start in
    record {
      places = p;
      machine = r.start.cpu;
      memory = r.start.memory;
      budget = r.budget;
      level = r.level;
      answer = record { steps = e.steps; stop = e.stop; code = e.code };
      machine_left = e.left.cpu;
      memory_left = e.left.memory;
      call = λ _. refl;
      stop_is = r.stop_is;
      code_is = r.code_is;
    }

pub hobbit_allows : HobbitAllows
hobbit_allows p confined budget level s =
    let e = run confined budget level (board_in s.registers s.cache s.memory) in
    record {
      places = p;
      lent = s;
      budget = budget;
      level = level;
      answer = record { steps = e.steps; stop = e.stop; code = e.code };
      left = blocks_of e.left;
      call = λ _. refl;
      stop_is = refl;
      code_is = refl;
    }

-- ---- a line: two digits have the stop and two the code, since both are below 256

pub small_stop : (confined : Bool) (code reason : ℕ) → contains (codes_at confined reason) code ≡ true → reason < 256
small_stop confined code =
    by_stop (λ r l. contains l code ≡ true → r < 256) confined (λ h. lit< tt) (λ h. lit< tt) (λ h. lit< tt) (λ r h. absurd (false≢true h))

small_code : (confined : Bool) (code reason : ℕ) → contains (codes_at confined reason) code ≡ true → code < 256
small_code confined code =
    by_stop (λ r l. contains l code ≡ true → code < 256) confined (contains_below 256 code (0 ∷ []) refl)
    (contains_below 256 code (refusal_codes confined) (refusals confined)) (contains_below 256 code (event_codes confined) (events confined))
    (λ r h. absurd (false≢true h))
  where
    refusals : (confined : Bool) → all_below 256 (refusal_codes confined) ≡ true
    refusals true = refl
    refusals false = refl

    events : (confined : Bool) → all_below 256 (event_codes confined) ≡ true
    events true = refl
    events false = refl

run_answer_law : (confined : Bool) (n : ℕ) (s : List ℕ) (b : Board) (budget level : ℕ)
    → frame_answer n s b (run_frame confined budget level) ≡ has_run (run confined budget level b)
unfolding frame_answer
run_answer_law true n s b budget level = refl
run_answer_law false n s b budget level = refl

pub printed_codes : PrintedCodes
printed_codes confined = answers_codes confined (PrintedStops confined) as_run
  where
    as_run : (reason code : ℕ) → PrintedStops confined reason code → RunStops confined reason code
    as_run reason code a =
        record {
          budget = a.budget;
          level = a.level;
          start = a.board;
          stop_is = stop_is;
          code_is = code_is;
        }
      where
        ran : RunResult
        ran = run confined a.budget a.level a.board

        listed : contains (codes_at confined ran.stop) ran.code ≡ true
        listed = run_listed confined a.budget a.level a.board

        line : (line_answer a.number a.line a.board).printed ≡ (has_run ran).printed
        line =
            ap (λ (f : Option Frame). (frame_answer a.number a.line a.board f).printed) a.frame
            ∙ ap (λ (x : Answered). x.printed) (run_answer_law confined a.number a.line a.board a.budget a.level)

        stop_is : ran.stop ≡ reason
        stop_is =
            let e = read_stop ran.steps ran.stop ran.code (reg ran.left.cpu pc) (reg ran.left.cpu psw) in
            omega (arith, small_stop confined ran.code ran.stop listed, e, ap (λ (t : List ℕ). number_at 2 t stop_place) line, a.stop_is)

        code_is : ran.code ≡ code
        code_is =
            let e = read_code ran.steps ran.stop ran.code (reg ran.left.cpu pc) (reg ran.left.cpu psw) in
            omega (arith, small_code confined ran.code ran.stop listed, e, ap (λ (t : List ℕ). number_at 2 t code_place) line, a.code_is)

-- ---- every line of what the program prints

-- of a line that is a run's
abbrev RunLineListed : List ℕ → Type 0
RunLineListed s = is_run_line s ≡ true → confined_code (number_at 2 s stop_place) (number_at 2 s code_place) ≡ true

refused_line_law : (r n : ℕ) → RunLineListed (unended (refused_line r n))
unfolding digit_of digit_byte
refused_line_law r n h = absurd (false≢true h)

ran_line_law : (confined : Bool) (budget level : ℕ) (b : Board) → RunLineListed (unended (has_run (run confined budget level b)).printed)
ran_line_law confined budget level b h = rw (stop_is, code_is) (on_confined_list confined e.code e.stop on_list)
  where
    e : RunResult
    e = run confined budget level b

    on_list : contains (codes_at confined e.stop) e.code ≡ true
    on_list = run_listed confined budget level b

    stop_is : number_at 2 (unended (has_run e).printed) stop_place ≡ e.stop
    stop_is =
        let n = read_stop e.steps e.stop e.code (reg e.left.cpu pc) (reg e.left.cpu psw) in
        n ∙ omega (arith, small_stop confined e.code e.stop on_list)

    code_is : number_at 2 (unended (has_run e).printed) code_place ≡ e.code
    code_is =
        let n = read_code e.steps e.stop e.code (reg e.left.cpu pc) (reg e.left.cpu psw) in
        n ∙ omega (arith, small_code confined e.code e.stop on_list)

totals_listed : (t : Totals) → Each RunLineListed (lines_of (totals_line t))
unfolding digit_of digit_byte
totals_listed t = subst (Each RunLineListed) (sym (totals_lines t)) ((λ h. absurd (false≢true h)) also no_others)

pub program_codes : ProgramCodes
program_codes = listed_codes true ProgramStops on_list
  where
    on_list : (reason code : ℕ) → ProgramStops reason code → contains (codes_at true reason) code ≡ true
    on_list reason code a =
        let t = (conversation 1 (lines_of a.input) start_board).printed in
        let k = totals_of (lines_of t) in
        let e = conversation_lines RunLineListed refused_line_law ran_line_law 1 (lines_of a.input) start_board (totals_line k) (totals_listed k) in
        rw (← a.stop_is, ← a.code_is) (each_at RunLineListed (printed_lines a.input) [] e a.place a.within a.ran)

pub program_answered : ProgramAnswered
unfolding lines_of digit_of digit_byte frame_of frame_answer conversation run refusal good_bank
program_answered =
    record { input = digits 12 0x0400_0000_0007; place = 0; within = lit< tt; ran = refl; stop_is = refl; code_is = refl }
