-- Request (i): "Show that code 06 can't come from frame 04, and take it from that frame's codes; frame 03 keeps the exception for the
-- kernel." The codes that runs of either frame stop with, and what is claimed of answers to runs.
-- Assumes nothing.
use Rattle.std.specs.Prelude.{ℕ, ◌≡◌, Bool, true, false, cond, List, [], ◌∷◌, ◌++◌, eqb}
use Rattle.word.specs.Lists.{contains}
use Rattle.isa.specs.Answers.{unimplemented_code}
use Rattle.memory.specs.Exceptions.{zero_divide, trace_exception, illegal_instruction, alignment_fault, privilege_violation, unimplemented_register, fetch_fault, read_fault, write_fault, bus_fault, walk_fault}
use Rattle.memory.specs.Bytes.{memory_size}
use Rattle.machine.specs.Registers.{register_refused}
use Rattle.run_spec.specs.Run.{Board, budget_spent, refused, event_due, stack_range, level_refused, level_not_user, kcall_code, run}

-- ---- the codes by their stop (document 01, "The board program and its frames")

-- stop 01, "refused, code its number": 1, 2, 3, 4, and 9 of a confined run
abbrev pub refusal_codes : Bool → List ℕ
refusal_codes confined = memory_size ∷ register_refused ∷ level_refused ∷ stack_range ∷ cond confined (level_not_user ∷ []) []

-- stop 02, "code 01 to 0B the exception", but for 06: at user level a register operand is 05 before its register is looked for
abbrev pub confined_exceptions : List ℕ
confined_exceptions =
    zero_divide ∷ trace_exception ∷ illegal_instruction ∷ alignment_fault ∷ privilege_violation ∷ fetch_fault ∷ read_fault ∷ write_fault ∷ bus_fault
    ∷ walk_fault ∷ []

-- "10 to 16 interrupt level 0 to 6, 17 and 18 timers"
abbrev pub interrupt_codes : List ℕ
interrupt_codes = 0x10 ∷ 0x11 ∷ 0x12 ∷ 0x13 ∷ 0x14 ∷ 0x15 ∷ 0x16 ∷ 0x17 ∷ 0x18 ∷ []

-- "20 KCALL, 21 unimplemented", which have only been fetched
abbrev pub fetched_codes : List ℕ
fetched_codes = kcall_code ∷ unimplemented_code ∷ []

-- frame 03 takes its events: it stops for none
abbrev pub event_codes : Bool → List ℕ
event_codes true = confined_exceptions ++ interrupt_codes ++ fetched_codes
event_codes false = []

-- stop 00, "budget spent, code 00"
abbrev pub codes_at : Bool → ℕ → List ℕ
codes_at confined stop =
    cond (eqb stop budget_spent) (0 ∷ [])
    (cond (eqb stop refused) (refusal_codes confined) (cond (eqb stop event_due) (event_codes confined) []))

-- a stop and its code are a confined run's, frame 04's
abbrev pub confined_code : ℕ → ℕ → Bool
confined_code stop code = contains (codes_at true stop) code

-- ---- what is claimed of answers to runs, confined or not: Stops stop code if one is answered so

pub record RunCodes (confined : Bool) (Stops : ℕ → ℕ → Type 0) : Type 0 where
  -- each is on the list
  pub listed : (stop code : ℕ) → Stops stop code → contains (codes_at confined stop) code ≡ true
  -- "code 06 can't come", at any stop
  pub no_unimplemented_register : (stop : ℕ) → Stops stop unimplemented_register → ⊥
  -- and no event comes without a code
  pub no_event_without_code : Stops event_due 0 → ⊥

-- ---- the definition's answers: to any budget and any interrupt input, on any board, refused ones among them

pub record RunStops (confined : Bool) (stop code : ℕ) : Type 0 where
  pub budget : ℕ
  pub level : ℕ
  pub start : Board
  pub stop_is : (run confined budget level start).stop ≡ stop
  pub code_is : (run confined budget level start).code ≡ code

-- the theorem: so they are, confined or not
abbrev pub StopCodes : Type 0
StopCodes = (confined : Bool) → RunCodes confined (RunStops confined)

-- and no code is on the list in vain
abbrev pub EveryCode : Type 0
EveryCode = (confined : Bool) (stop code : ℕ) → contains (codes_at confined stop) code ≡ true → RunStops confined stop code
