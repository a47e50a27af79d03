-- An instruction performed by its plan, and the one at PC.
-- Assumes nothing.
use Prim.Native.Nat.{ℕ, ◌+◌, ◌%◌, ◌^◌, ◌<◌, ◌≤◌}
use mathlib.Core.Path.{◌≡◌, refl, sym, ap, ◌∙◌}
use mathlib.Core.Bool.{true, false}
use lib.ListN.{length}
use borrow.Author.Tests.{ne_eqb}
use Rattle.isa.specs.declared.Mode.{Mode}
use Rattle.isa.specs.declared.MonadicMode.{MonadicMode}
use Rattle.isa.specs.declared.Operand.TheVariants.{General}
use Rattle.isa.specs.declared.Wide.{Wide}
use Rattle.isa.specs.declared.Instruction.{Instruction}
use Rattle.isa.specs.Decode.{decode_of, cpu_prefix}
use Rattle.memory.specs.Bytes.{Memory}
use Rattle.mmu.specs.declared.AccessKind.TheVariants.{Fetch}
use Rattle.access_spec.specs.Access.{response}
use Rattle.access_spec.specs.Program.{ret, interpret, plain}
use Rattle.machine.specs.Registers.{Bank, word, pc}
use Rattle.machine.specs.Cache.{Cache}
use Rattle.machine.specs.Status.{Cpu, cpu, regime}
use Rattle.access.specs.EffectFree.{EffectFree}
use Rattle.datapath.specs.Parts.{ok}
use Rattle.datapath.specs.Text.{fetch_text}
use Rattle.exec_spec.specs.declared.Monadic.{Monadic}
use Rattle.exec_spec.specs.declared.Task.{Task}
use Rattle.exec_spec.specs.Execute.{two_operands, one_operand, execute_monadic, execute_normal, execute}
use Rattle.step_spec.specs.Step.{dispatch, to_instruction, fetch_instruction, holds_stack}
use Rattle.run_spec.specs.Run.{is_kcall}
use Rattle.fast_decode.specs.declared.Plan.{Plan}
use Rattle.fast_decode.specs.declared.Plan.TheVariants.{Two, One}
use Rattle.fast_decode.specs.Plans.{plan_of, is_plan, normal_of, plan_length}
use Rattle.fast_decode.proofs.AnswerLaws.{Does, answer_does}
use Rattle.fast_dyadic.specs.Fast.{gives}
use Rattle.fast.specs.Performed.{parcel_at, text_at, InstructionDone, Executed, Performed}
use Rattle.fast_dyadic.proofs.GiveLaws.{gives_then}
use Rattle.fast.proofs.TextLaws.{text_effect_free}
use Rattle.std.specs.Prelude.{Ok}
use Rattle.isa.specs.Answers.{Decoded}

-- ---- by the plan

module _ (b e : Bank) (q s : Cache) (m n : Memory) (p : Plan) where
  pub two_executed : (w : Wide) (t : Task) (a d : Mode) (x y l : ℕ) → p ≡ Two l w t a x d y → gives (execute_normal (cpu b q) l (two_operands w t (General a x) (General d y))) m (cpu e s) n × (holds_stack (cpu e s) ≡ holds_stack (cpu b q))
      → Executed p (cpu b q) m (cpu e s) n
  two_executed w t a d x y l h k = record { planned = rw h refl; executed = rw h k.0; free = rw h refl; held = λ z. k.1 ∙ z }

  pub one_executed : (o : Monadic) (k : MonadicMode) (v l : ℕ) → p ≡ One l o k v → n ≡ m → gives (execute_monadic (cpu b q) o k v l) m (cpu e s) m × (is_kcall (one_operand o k v) ≡ false) × (holds_stack (cpu b q) ≡ true → holds_stack (cpu e s) ≡ true)
      → Executed p (cpu b q) m (cpu e s) n
  unfolding execute_normal
  one_executed o k v l h f u = record { planned = rw h refl; executed = rw (h, f) u.0; free = rw h u.1; held = u.2 }

-- ---- the instruction at PC

instruction_fetched : (c : Cpu) (m : Memory) (k : ℕ) (i : Instruction) (l : ℕ) → gives (fetch_text c) m (text_at m k) m → decode_of (text_at m k) ≡ Ok (i, l)
    → gives (fetch_instruction c) m (to_instruction i l) m
unfolding fetch_instruction interpret
instruction_fetched c m k i l g e = gives_then (fetch_text c) _ m m m (text_at m k) (to_instruction i l) g (decoded c m (decode_of (text_at m k)) e)
  where
    decoded : (z : Cpu) (n : Memory) (a : Decoded) → a ≡ Ok (i, l) → interpret plain (ret (dispatch z a)) n ≡ response (ok (to_instruction i l)) n
    decoded z n a f = rw f refl

module _ (c d : Cpu) (m n : Memory) (p : Plan) (a : Decoded) (g : Does (normal_of p) (plan_length p) a) (x : Executed p c m d n) where
  instruction_done : InstructionDone g.instruction (plan_length p) c m d n
  unfolding execute
  instruction_done = record { executed = rw g.does x.executed; free = rw g.does x.free; held = x.held }

pub performed : (b e : Bank) (q s : Cache) (m n : Memory) (a k : ℕ) → a ≡ word b pc → EffectFree (regime b) Fetch a m k × (a % 2 ≡ 0) × (a % 0x1000 + 10 ≤ 0x1000) × (a < 2 ^ 32) × (k + 10 ≤ length m)
    → (f : ℕ) → f ≡ parcel_at m k → (f ≡ cpu_prefix → ⊥) → (p : Plan) → p ≡ plan_of (decode_of (text_at m k)) → Executed p (cpu b q) m (cpu e s) n → Performed (cpu b q) m (cpu e s) n
performed b e q s m n a k ea h f ef bare p ep x =
    record {
      instruction = does.instruction;
      parcels = plan_length p;
      fetched = instruction_fetched (cpu b q) m k does.instruction (plan_length p) (text_effect_free b q m a k ea h.0 h.1 h.2 h.3 h.4 (rw (← ef) (ne_eqb f cpu_prefix bare))) does.is;
      instruction_done = instruction_done (cpu b q) (cpu e s) m n p (decode_of (text_at m k)) does x;
    }
  where
    does : Does (normal_of p) (plan_length p) (decode_of (text_at m k))
    does = rw ep (answer_does (decode_of (text_at m k)) (ap is_plan (sym ep) ∙ x.planned))
