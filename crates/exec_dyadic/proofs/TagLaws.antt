-- The ways out of TADD and TSUB.
-- Assumes nothing.
use Prim.Native.Nat.{ℕ}
use mathlib.Core.Path.{◌≡◌, refl, sym, ap, ◌∙◌}
use mathlib.Core.Bool.{Bool, true, false, cond}
use Rattle.word.specs.declared.Tagged.{Tagged}
use Rattle.isa.specs.declared.Mode.{Mode}
use Rattle.isa.specs.declared.Operand.{Operand}
use Rattle.isa.specs.declared.Operand.TheVariants.{General, Register}
use Rattle.memory.specs.Answers.{good, answer_of}
use Rattle.access_spec.specs.Access.{Response, response}
use Rattle.access_spec.specs.Program.{interpret, after}
use Rattle.access_spec.specs.Journal.{Journaled, logging}
use Rattle.machine.specs.Registers.{Bank, register_of, psw}
use Rattle.machine.specs.Cache.{Cache}
use Rattle.machine.specs.Status.{Cpu, cpu, reg}
use Rattle.datapath.specs.Parts.{Out, onward, done, ◌>>=◌}
use Rattle.datapath.specs.Code.{cpu_out}
use Rattle.exec_spec.specs.Operands.{Place, in_memory, literal, mode_kind, write_register, write_place}
use Rattle.exec_spec.specs.Dyadic.{tagged_flags, write_tagged, store_tagged, tagged, put_tagged, tagged_with}
use Rattle.exec_operands.specs.Code.{is_constant, place_at}
use Rattle.exec_operands.proofs.RestLaws.{finished}

-- to memory or a constant: the flags follow the write
general_put : (c : Cpu) (t : Tagged) (m : Mode) (v a : ℕ) (j : Journaled) (k : Bool)
    → interpret logging (put_tagged c t (cond k (literal v) (in_memory m a))) j ≡ interpret logging (write_tagged c t (cond k (literal v) (in_memory m a))) j
unfolding write_place write_tagged ◌>>=◌ after onward interpret
general_put c t m v a j true = refl
general_put c t m v a j false = refl

module _ (b : Bank) (q : Cache) (t : Tagged) (d : Operand) (a : ℕ) (j : Journaled) where
  pub tagged_general : (m : Mode) (v : ℕ) → d ≡ General m v → (R : Response Journaled (Out Cpu)) → R ≡ interpret logging (put_tagged (cpu b q) t (place_at d a)) j
      → R ≡ interpret logging (write_tagged (cpu b q) t (place_at d a)) j
  tagged_general m v h R f = f ∙ rw h (general_put (cpu b q) t m v a j (is_constant (mode_kind m)))

  pub tagged_register : (n k z : ℕ) (s r : Bank) → d ≡ Register n → k ≡ register_of n → ((p : Cache) → cpu s p ≡ tagged_flags (cpu b p) t)
      → ((p : Cache) → cpu r p ≡ write_register (cpu s p) k t.value) → answer_of z ≡ good 0
      → response (cpu_out (answer_of z) r q) j ≡ interpret logging (write_tagged (cpu b q) t (place_at d a)) j
  unfolding write_tagged
  tagged_register n k z s r h ek f g ez =
      rw h
      (finished r q z j (write_register (tagged_flags (cpu b q) t) (register_of n) t.value) ez
      (g q ∙ ap (λ (c : Cpu). write_register c k t.value) (f q) ∙ ap (λ (y : ℕ). write_register (tagged_flags (cpu b q) t) y t.value) ek))

module _ (b : Bank) (q : Cache) (t : Tagged) (p : Place) (j : Journaled) where
  -- by the test alone
  abbrev tested : Bool → Response Journaled (Out Cpu)
  tested k = interpret logging (cond k (write_tagged (cpu b q) t p) (done (tagged_flags (cpu b q) t))) j

  pub tagged_stored : t.stored ≡ true → (R : Response Journaled (Out Cpu)) → R ≡ interpret logging (write_tagged (cpu b q) t p) j
      → R ≡ interpret logging (store_tagged (cpu b q) t p) j
  tagged_stored h R f = f ∙ sym (ap tested h)

  pub tagged_flagged : t.stored ≡ false → (z : ℕ) (s : Bank) → ((k : Cache) → cpu s k ≡ tagged_flags (cpu b k) t) → answer_of z ≡ good 0
      → response (cpu_out (answer_of z) s q) j ≡ interpret logging (store_tagged (cpu b q) t p) j
  tagged_flagged h z s f ez = finished s q z j (tagged_flags (cpu b q) t) ez (f q) ∙ sym (ap tested h)

  pub tagged_by : (minus : Bool) (y x : ℕ) → t ≡ tagged_with minus (reg (cpu b q) psw) y x → (R : Response Journaled (Out Cpu))
      → R ≡ interpret logging (store_tagged (cpu b q) t p) j → R ≡ interpret logging (store_tagged (cpu b q) (tagged minus (cpu b q) y x) p) j
  tagged_by minus y x e R f = f ∙ ap (λ (w : Tagged). interpret logging (store_tagged (cpu b q) w p) j) e
