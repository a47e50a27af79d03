-- The machine record and the bank and cache of a run: each conversion undoes the other.
-- Assumes nothing.
use mathlib.Core.Path.{◌≡◌, refl, sym, ap, ◌∙◌}
use mathlib.Core.Bool.{Bool, true, false}
use mathlib.Core.List.{List, ◌++◌}
use Prim.Native.Nat.{ℕ, zero, suc, zero-le, ◌+◌, ◌-◌, ◌≤◌}
use native.Mathlib.Nat.{add-sub_of_le}
use native.Mathlib.Omega.{arith}
use lib.ListN.{length, length-append}
use lib.Seq.{get_or-append-add}
use lib.Dec.{lit≤}
use Rattle.machine.specs.declared.Machine.{Machine}
use Rattle.machine.specs.Registers.{Bank, word}
use Rattle.machine.specs.Cache.{Cache, quads_of, flat_of}
use Rattle.machine.specs.Status.{cpu}
use Rattle.machine.specs.Record.{due_word, is_due, dues, bank_of, cpu_of, words_to, machine_of}
use Rattle.machine.specs.Shapes.{BankShape, CacheShape}
use Rattle.machine.proofs.WordLaws.{words_all, words_front}
use Rattle.machine.proofs.FlatLaws.{flat_quads, quads_flat}

abbrev pub machine : List ℕ → List ℕ → Bool → Bool → Bool → Bool → Machine
machine r f t a b n =
    record { registers = r; cache = f; trace_due = t; timer1_due = a; timer2_due = b; nmi_taken = n }

pub machine_made : (b : Bank) (q : Cache) (f : List ℕ) (t x y n : Bool) → f ≡ flat_of q → t ≡ is_due (word b 13) → x ≡ is_due (word b 14)
    → y ≡ is_due (word b 15) → n ≡ is_due (word b 16) → machine (words_to 13 b) f t x y n ≡ machine_of b q
unfolding machine_of
machine_made b q f t x y n e g h k l = rw (e, g, h, k, l) refl

-- what is due, as a word and back
pub due_word_law : (d : Bool) → is_due (due_word d) ≡ d
due_word_law true = refl
due_word_law false = refl

pub word_due : (w : ℕ) → w ≤ 1 → due_word (is_due w) ≡ w
word_due zero h = refl
word_due (suc zero) h = refl
word_due (suc (suc w)) h = absurd (omega arith)

due_low : (d : Bool) → due_word d ≤ 1
due_low true = lit≤ tt
due_low false = lit≤ tt

dues_low : (m : Machine) (k : ℕ) → word (dues m) k ≤ 1
dues_low m zero = due_low m.trace_due
dues_low m (suc zero) = due_low m.timer1_due
dues_low m (suc (suc zero)) = due_low m.timer2_due
dues_low m (suc (suc (suc zero))) = due_low m.nmi_taken
dues_low m (suc (suc (suc (suc k)))) = zero-le

-- the words after the registers
pub word_after : (r d : List ℕ) (k : ℕ) → length r ≡ 13 → word (r ++ d) (13 + k) ≡ word d k
word_after r d k h = rw (sym h) (get_or-append-add r d k 0)

pub bank_17 : (m : Machine) → length m.registers ≡ 13 → length (bank_of m) ≡ 17
bank_17 m h = length-append m.registers (dues m) ∙ omega arith

-- the record made of a bank and a cache has them again, where they have the shape of the code's
pub cpu_machine : (b : Bank) (q : Cache) → BankShape b → CacheShape q → cpu_of (machine_of b q) ≡ cpu b q
unfolding machine_of
cpu_machine b q s t =
    rw (
      word_due (word b 13) (s.due 13 (lit≤ tt)),
      word_due (word b 14) (s.due 14 (lit≤ tt)),
      word_due (word b 15) (s.due 15 (lit≤ tt)),
      word_due (word b 16) (s.due 16 (lit≤ tt)),
      quads_flat q t,
    )
    (ap (λ (l : Bank). cpu l q) (words_all 17 b s.long))

pub machine_cpu : (m : Machine) → length m.registers ≡ 13 → length m.cache ≡ 64 → machine_of (bank_of m) (quads_of m.cache) ≡ m
unfolding machine_of
machine_cpu m h g =
    let after : (k : ℕ) → word (bank_of m) (13 + k) ≡ word (dues m) k = λ k. word_after m.registers (dues m) k h in
    rw (
      words_front 13 m.registers (dues m) h,
      flat_quads m.cache g,
      after 0,
      after 1,
      after 2,
      after 3,
      due_word_law m.trace_due,
      due_word_law m.timer1_due,
      due_word_law m.timer2_due,
      due_word_law m.nmi_taken,
    )
    refl

pub bank_shape : (m : Machine) → length m.registers ≡ 13 → BankShape (bank_of m)
bank_shape m h =
    record {
      long = bank_17 m h;
      due = λ k g. rw (sym (add-sub_of_le g), word_after m.registers (dues m) (k - 13) h) (dues_low m (k - 13));
    }
