-- What a call of the code answered and left, as far as the contract tells that the called function exports to its callers:
-- who shows what it asks for learns what it ensures.
-- Assumes nothing.
use Rattle.std.specs.Prelude.{ℕ, Bool, List}
use Rattle.std.specs.Borrow.{GName, Bor, MutBor}
use contract.Lifetimes.{Lfts}
use denote.Triple.Entry.{Args}
use denote.Triple.Clauses.{Lasts, at_exit}
use Rattle.memory.specs.Bytes.{Memory}
use Rattle.machine.specs.Registers.{Bank}
use Rattle.machine.specs.Cache.{Cache}
use Rattle.machine.specs.Status.{Cpu}
use Rattle.run_spec.specs.declared.Stopped.{Stopped}
use Rattle.run.specs.contracts.running.run_lent as run_lent
use Rattle.run.proofs.running.run_lent.Reads as run_lent_contract
use Rattle.hobbit.specs.declared.HobbitAnswer.{HobbitAnswer}
use Rattle.hobbit.specs.Blocks.{Blocks}
use Rattle.hobbit.specs.contracts.hobbit_run as hobbit_run
use Rattle.hobbit.proofs.hobbit_run.Reads as hobbit_run_contract
use Rattle.board_lines.specs.declared.Printer.{Printer}
use Rattle.board_lines.specs.Printouts.{Printout}
use Rattle.board_conversation.specs.declared.LoopState.{LoopState}
use Rattle.board_conversation.specs.contracts.exchanges.converse as converse
use Rattle.board_conversation.proofs.exchanges.converse.Reads as converse_contract
use Rattle.board_conversation.specs.contracts.exchanges.finish as finish
use Rattle.board_conversation.proofs.exchanges.finish.Reads as finish_contract

-- a reference's pointer and ghost name; all that a contract here says of them is that the buffer of a printout keeps its ghost name
pub record Reference : Type 0 where
  pub ptr : ℕ × ℕ
  pub name : GName

abbrev pub lent_at : {X : Type 0} → Reference → X → MutBor X
lent_at p x = record { ref_ptr = p.ptr; ghost_name = p.name; now = x }

-- of a parameter that is only read
abbrev pub shared_at : {X : Type 0} → Reference → X → Bor X
shared_at p x = record { ref_ptr = p.ptr; now = x }

-- ---- `run::running::run_lent`

-- the lifetimes and references of a call
pub record RunPlaces : Type 0 where
  pub lifetimes : Lfts 3
  pub memory : Reference
  pub cache : Reference
  pub bank : Reference

-- on the machine c and the memory m it answered x and left the machine d and the memory n
abbrev pub RunLent : RunPlaces → Cpu → Memory → Bool → ℕ → ℕ → Stopped → Cpu → Memory → Type 0
RunLent p c m confined budget level x d n =
    run_lent_contract.Asked p.lifetimes arguments
    → run_lent_contract.Learnt p.lifetimes arguments x (at_exit run_lent.ended p.lifetimes arguments left)
  where
    arguments : Args run_lent.signature p.lifetimes
    arguments =
        let cache = lent_at p.cache c.cache in
        let bank = lent_at p.bank c.bank in
        (lent_at p.memory m, (cache, (bank, (confined, (budget, (level, tt))))))

    left : Lasts run_lent.ended p.lifetimes arguments
    left = (n, (d.cache, (d.bank, (tt, (tt, (tt, tt))))))

-- ---- `hobbit::hobbit_run`, over the blocks of a caller; the C interface's symbol (the crate hobbit_c) hands on what it answers, by the same contract

abbrev pub HobbitRun : RunPlaces → Blocks → Bool → ℕ → ℕ → HobbitAnswer → Blocks → Type 0
HobbitRun p s confined budget level x t =
    hobbit_run_contract.Asked p.lifetimes arguments
    → hobbit_run_contract.Learnt p.lifetimes arguments x (at_exit hobbit_run.ended p.lifetimes arguments left)
  where
    arguments : Args hobbit_run.signature p.lifetimes
    arguments =
        let registers = lent_at p.bank s.registers in
        let cache = lent_at p.cache s.cache in
        (lent_at p.memory s.memory, (registers, (cache, (confined, (budget, (level, tt))))))

    left : Lasts hobbit_run.ended p.lifetimes arguments
    left = (t.memory, (t.registers, (t.cache, (tt, (tt, (tt, tt))))))

-- ---- `board_conversation::exchanges::converse` and `finish`, of the board program's loop

pub record ExchangePlaces : Type 0 where
  pub lifetimes : Lfts 6
  pub block : Reference
  pub memory : Reference
  pub cache : Reference
  pub bank : Reference
  pub printout : Reference
  pub buffer : Reference

-- the board and the printout that a call is lent, and that it leaves
pub record LentBoard : Type 0 where
  pub machine : Cpu
  pub memory : Memory
  pub printout : Printout

-- a printout of the code, with its buffer lent
abbrev pub lent_printout : Reference → Printout → Printer
lent_printout p o =
    record { output = record { buffer = lent_at p o.output.bytes; place = o.output.place }; tally = o.tally }

abbrev pub lent_to : ExchangePlaces → LentBoard → MutBor Memory × (MutBor Cache × (MutBor Bank × (MutBor Printer × Unit {0})))
lent_to p s =
    let cache = lent_at p.cache s.machine.cache in
    let bank = lent_at p.bank s.machine.bank in
    (lent_at p.memory s.memory, (cache, (bank, (lent_at p.printout (lent_printout p.buffer s.printout), tt))))

abbrev pub left_by : Reference → LentBoard → Memory × (Cache × (Bank × (Printer × Unit {0})))
left_by p s = (s.memory, (s.machine.cache, (s.machine.bank, (lent_printout p s.printout, tt))))

-- an exchange of the loop: what it was given beside them, its answer, what it left, and where the buffer that it left lies
pub record ExchangeCall : Type 0 where
  pub places : ExchangePlaces
  pub stream : LoopState
  pub end : ℕ
  pub block : List ℕ
  pub answer : LoopState
  pub block_left : List ℕ
  pub left : LentBoard
  pub left_at : Reference

abbrev pub Converse : LentBoard → ExchangeCall → Type 0
Converse s x =
    converse_contract.Asked lifetimes arguments
    → converse_contract.Learnt lifetimes arguments x.answer (at_exit converse.ended lifetimes arguments left)
  where
    lifetimes : Lfts 6
    lifetimes = x.places.lifetimes

    arguments : Args converse.signature lifetimes
    arguments = (x.stream, (x.end, (lent_at x.places.block x.block, lent_to x.places s)))

    left : Lasts converse.ended lifetimes arguments
    left = (tt, (tt, (x.block_left, left_by x.left_at x.left)))

-- the end of input: what it was given, what it left, and where the buffer that it left lies
pub record LastCall : Type 0 where
  pub places : ExchangePlaces
  pub stream : LoopState
  pub block : List ℕ
  pub left : LentBoard
  pub left_at : Reference

abbrev pub Finish : LentBoard → LastCall → Type 0
Finish s x =
    finish_contract.Asked lifetimes arguments
    → finish_contract.Learnt lifetimes arguments tt (at_exit finish.ended lifetimes arguments left)
  where
    lifetimes : Lfts 6
    lifetimes = x.places.lifetimes

    arguments : Args finish.signature lifetimes
    arguments = (x.stream, (shared_at x.places.block x.block, lent_to x.places s))

    left : Lasts finish.ended lifetimes arguments
    left = (tt, (tt, left_by x.left_at x.left))
