-- The machine record of the code, as the bank and the cache of the definitions; the start; a register read.
-- Assumes nothing.
use Rattle.std.specs.Prelude.{ℕ, zero, suc, ◌-◌, Bool, cond, List, [], ◌∷◌, ◌++◌, replicate, eqb, Result, Ok, Err}
use Rattle.machine.specs.declared.Machine.{Machine}
use Rattle.machine.specs.Registers.{Bank, word, trace_due, timer1_due, timer2_due, nmi_taken}
use Rattle.machine.specs.Registers.{is_register_place}
use Rattle.refusals.specs.declared.Refusal.{Refusal}
use Rattle.refusals.specs.declared.Refusal.TheVariants.{Register}
use Rattle.machine.specs.Cache.{Cache, quads_of, flat_of}
use Rattle.machine.specs.Status.{Cpu, cpu}

-- what is due, as a word of the bank: 1 or 0; a word says that it is due exactly if it is 1
abbrev pub due_word : Bool → ℕ
due_word d = cond d 1 0

abbrev pub is_due : ℕ → Bool
is_due w = eqb w 1

abbrev pub dues : Machine → List ℕ
dues m =
    due_word m.trace_due ∷ due_word m.timer1_due ∷ due_word m.timer2_due ∷ due_word m.nmi_taken ∷ []

abbrev pub bank_of : Machine → Bank
bank_of m = m.registers ++ dues m

abbrev pub cpu_of : Machine → Cpu
cpu_of m = cpu (bank_of m) (quads_of m.cache)

-- the first n words of a bank
abbrev pub words_to : ℕ → Bank → List ℕ
words_to zero b = []
words_to (suc n) b = words_to n b ++ (word b n ∷ [])

unfoldable pub machine_of : Bank → Cache → Machine
machine_of b q =
    record {
      registers = words_to 13 b;
      cache = flat_of q;
      trace_due = is_due (word b trace_due);
      timer1_due = is_due (word b timer1_due);
      timer2_due = is_due (word b timer2_due);
      nmi_taken = is_due (word b nmi_taken);
    }

-- the cache at the start: sixteen quad-words of zeros
abbrev pub zero_cache : Cache
zero_cache = replicate 16 (replicate 4 0)

-- ---- a register read

-- the register at place p of Table 1-1, or the refusal whose number is `register_refused`
unfoldable pub reading_of : Bank → ℕ → Result ℕ Refusal
reading_of b p = cond (is_register_place p) (Ok (word b (p - 1))) (Err Register)
