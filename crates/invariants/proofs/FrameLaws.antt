-- Frames on the interrupt stack, KCALL, KRET, CRET and the event sequences keep to the rules, where all accesses are allowed.
-- Assumes nothing.
use Prim.Native.Nat.{ℕ}
use mathlib.Core.Path.{refl}
use native.Mathlib.Omega.{arith}
use lib.Dec.{T, lit<}
use Rattle.word.specs.Fields.{bit_of}
use Rattle.word.specs.declared.Width.TheVariants.{Word}
use Rattle.word.specs.Sums.{plus_of}
use Rattle.isa.specs.declared.MonadicMode.{MonadicMode}
use Rattle.memory.specs.Exceptions.{privilege_violation}
use Rattle.access_spec.specs.Program.{Program}
use Rattle.machine.specs.Registers.{config, isp, msp, pc, psw, shad, sp, trace_due, timer1_due, timer2_due, unreserved}
use Rattle.machine.specs.Status.{Cpu, reg, with, sp_current, is_user}
use Rattle.datapath.specs.Parts.{Out}
use Rattle.exec_spec.specs.Control.{jumped, next_pc}
use Rattle.exec_spec.specs.EventFrames.{push_pair, push_frame, through_vector, kcall_vector, exception_vector, restored_csp, kcall, interrupt_sequence, exception_sequence, store_pc, unimplemented_sequence, returned, kret, restored_regime, cret_fill, cret, privileged, reset, cret_after, cret_caught, cret_from}
use Rattle.invariants.proofs.RuleLaws.{suits, Rules, Value, Part, bind, gives, stops, either}
use Rattle.invariants.proofs.AccessLaws.{plus_value, minus_value, read_frame_law, write_frame_law, write_data_law}
use Rattle.invariants.proofs.OperandLaws.{kept_word}
use Rattle.invariants.proofs.FlowLaws.{jumped_holds, csp_holds, word_operand}
use Rattle.invariants.proofs.StackLaws.{catch_to_law}

-- "KRET is privileged", and CRET: at kernel level all is allowed
pub privileged_part : (k : Rules) (c : Cpu) (n : ℕ) (p : Program (Out Cpu)) → k.Holds c → (k.Free → Part k k.Holds n p)
    → Part k k.Holds n (privileged c p)
unfolding privileged
privileged_part k c n p h f = either (is_user c.bank) (λ _. stops (k.raises privilege_violation refl) h) (λ e. f (k.kernel c h e))

module _ (k : Rules) (free : k.Free) where
  -- ---- frames and vectors

  push_pair_law : (c : Cpu) (a : ℕ) → k.Holds c → Part k k.Holds 2 (push_pair c a)
  unfolding push_pair
  push_pair_law c a h =
      bind (write_frame_law k c _ a free h) λ _ _.
      bind (write_frame_law k c _ (reg c psw) free h) λ _ _.
      gives {n = 0} (k.plain _ shad _ tt (k.plain c isp _ tt h (minus_value k (reg c isp) 16)) (minus_value k (reg c isp) 16))

  push_frame_law : (c : Cpu) (x a : ℕ) → k.Holds c → Part k k.Holds 3 (push_frame c x a)
  unfolding push_frame
  push_frame_law c x a h = bind (write_frame_law k c _ x free h) λ _ _. push_pair_law c a h

  through_vector_law : (c : Cpu) (offset : ℕ) → k.Holds c → Part k k.Holds 1 (through_vector c offset)
  unfolding through_vector
  through_vector_law c offset h =
      bind (read_frame_law k c _ free h) λ a f.
      gives {n = 0} (k.register _ psw _ tt free (jumped_holds k c a h f) (λ t. omega (arith, k.words c psw h t)))

  restored_holds : (c : Cpu) → k.Holds c → k.Holds (restored_csp c)
  restored_holds c h = csp_holds k c _ h (k.words c shad h)

  -- ---- KCALL and the sequences

  pub kcall_part : (c : Cpu) (m : MonadicMode) (v n : ℕ) → k.Holds c → Value k v → Part k k.Holds 6 (kcall c m v n)
  unfolding kcall
  kcall_part c m v n h f =
      bind (word_operand k c m v h f) λ x _.
      bind (push_frame_law c x (next_pc c n) h) λ d g. through_vector_law d kcall_vector g

  pub interrupt_part : (c : Cpu) (vector : ℕ) → k.Holds c → Part k k.Holds 3 (interrupt_sequence c vector)
  unfolding interrupt_sequence
  interrupt_part c vector h = bind (push_pair_law (restored_csp c) (reg c pc) (restored_holds c h)) λ d g. through_vector_law d vector g

  pub exception_part : (c : Cpu) (e : ℕ) → k.Holds c → Part k k.Holds 4 (exception_sequence c e)
  unfolding exception_sequence
  exception_part c e h = bind (push_frame_law (restored_csp c) e (reg c pc) (restored_holds c h)) λ d g. through_vector_law d exception_vector g

  store_pc_law : (c : Cpu) → k.Holds c → Part k k.Holds 1 (store_pc c)
  unfolding store_pc
  store_pc_law c h = bind (write_frame_law k c _ _ free h) λ _ _. gives {n = 0} h

  pub unimplemented_part : (c : Cpu) (vector : ℕ) → k.Holds c → Part k k.Holds 2 (unimplemented_sequence c vector)
  unfolding unimplemented_sequence
  unimplemented_part c vector h =
      bind (either (sp_current c.bank) (λ _. write_data_law k c Word (reg c sp) (reg c pc) h (k.words c sp h)) (λ _. store_pc_law c h)) λ d g.
      bind (read_frame_law k d _ free g) λ a f. gives {n = 0} (jumped_holds k d a g f)

  -- ---- KRET and CRET

  returned_holds : (c : Cpu) (a p : ℕ) → k.Holds c → Value k a → k.Holds (returned c a p)
  returned_holds c a p h f = k.plain _ shad _ tt left (k.words _ _ left)
    where
      left : k.Holds (with (with (jumped c a) psw (unreserved psw p)) isp (plus_of (reg c isp) 16))
      left = k.plain _ isp _ tt (k.register _ psw _ tt free (jumped_holds k c a h f) (λ _. kept_word psw p)) (plus_value k (reg c isp) 16)

  pub kret_part : (c : Cpu) → k.Holds c → Part k k.Holds 2 (kret c)
  unfolding kret
  kret_part c h = bind (read_frame_law k c _ free h) λ a f. bind (read_frame_law k c _ free h) λ p _. gives {n = 0} (returned_holds c a p h f)

  cret_fill_law : (c : Cpu) (m p : ℕ) → k.Holds c → Part k k.Holds 65 (cret_fill c m p)
  unfolding cret_fill cret_caught
  cret_fill_law c m p h =
      either (bit_of p 9)
      (λ _. either (bit_of (reg c config) 18)
      (λ _. bind (catch_to_law k c (restored_regime c p) (unreserved msp m) (λ q _. k.anything free q) h) λ d g. gives {n = 0} (topped d g))
      (λ _. gives h))
      (λ _. gives (topped c h))
    where
      topped : (d : Cpu) → k.Holds d → k.Holds (with d msp (unreserved msp m))
      topped d g = k.plain d msp _ tt g (λ _. kept_word msp m)

  pub cret_part : (c : Cpu) → k.Holds c → Part k k.Holds 69 (cret c)
  unfolding cret cret_after cret_from
  cret_part c h =
      bind (read_frame_law k c _ free h) λ s _.
      bind (read_frame_law k c _ free h) λ m _.
      bind (read_frame_law k c _ free h) λ a f.
      bind (read_frame_law k c _ free h) λ p _.
      bind (cret_fill_law _ m p (k.plain _ msp _ tt (k.plain c sp _ tt h (λ _. kept_word sp s)) (λ _. kept_word sp s))) λ d g.
      gives {n = 0} (returned_holds d a p g f)

  -- ---- reset

  pub reset_holds : (c : Cpu) → k.Holds c → k.Holds (reset c)
  unfolding reset
  reset_holds c h =
      clear timer2_due tt (clear timer1_due tt (clear trace_due tt
      (clear pc tt (clear config tt (clear psw tt (k.plain c shad _ tt h (k.words c psw h)))))))
    where
      clear : {d : Cpu} (n : ℕ) → T (suits n 0) → k.Holds d → k.Holds (with d n 0)
      clear {d = d} n t g = k.register d n 0 t free g (λ _. lit< tt)
