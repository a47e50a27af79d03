-- One part after another under the journal, and a part that is one access.
-- Assumes nothing.
use mathlib.Core.Path.{◌≡◌, refl, sym, ap}
use mathlib.Core.Bool.{Bool, true, false, cond, ◌||◌}
use Prim.Native.Nat.{ℕ, ◌%◌, ◌^◌, ◌<◌, ◌≤◌}
use lib.ListN.{set}
use lib.Dec.{eqb}
use Rattle.memory.specs.Answers.{Answer, answer_of}
use Rattle.memory.proofs.AnswerLaws.{answer_low, answer_high}
use Rattle.access_spec.specs.Access.{Access, fetch, read, write, Response, response}
use Rattle.access_spec.specs.Program.{Program, interpret}
use Rattle.access_spec.specs.Journal.{Journaled, logging}
use Rattle.access_spec.proofs.InterpretLaws.{interpret_after}
use Rattle.word.specs.declared.Width.TheVariants.{Word}
use Rattle.machine.specs.Registers.{Bank}
use Rattle.machine.specs.Cache.{Cache}
use Rattle.machine.specs.Status.{Cpu, cpu, regime, kernel_regime}
use Rattle.datapath.specs.Parts.{Out, stop, onward, ◌>>=◌, faulted, replied, request, parcel_replied, parcel_request, frame_replied, frame_request}
use Rattle.datapath.specs.Data.{read_frame, write_frame}
use Rattle.datapath.specs.Text.{fetch_parcel}

pub bind : {A B : Type 0} (p : Program (Out A)) (f : A → Program (Out B)) (t : Journaled)
    → interpret logging (p >>= f) t ≡ interpret logging (onward f (interpret logging p t).out) (interpret logging p t).world
unfolding ◌>>=◌
bind p f t = interpret_after logging p (onward f) t

-- a part that is one access, by what the code's access gave
module _ (c : Cpu) (x : Answer) (t u : Journaled) where
  pub requested : (q : Access) (a : ℕ) → response x u ≡ logging q t → interpret logging (request c q a) t ≡ response (replied c a x) u
  unfolding request interpret
  requested q a e = ap (λ (g : Response Journaled Answer). response (replied c a g.out) g.world) (sym e)

  pub parcel_fetched : (a : ℕ) → response x u ≡ logging (fetch (regime c.bank) a) t → interpret logging (fetch_parcel c a) t ≡ response (parcel_replied c x) u
  unfolding fetch_parcel parcel_request interpret
  parcel_fetched a e = ap (λ (g : Response Journaled Answer). response (parcel_replied c g.out) g.world) (sym e)

  pub frame_loaded : (a : ℕ) → response x u ≡ logging (read (kernel_regime c.bank) Word a) t → interpret logging (read_frame c a) t ≡ response (frame_replied c x) u
  unfolding read_frame frame_request interpret
  frame_loaded a e = ap (λ (g : Response Journaled Answer). response (frame_replied c g.out) g.world) (sym e)

  pub frame_stored : (a v : ℕ) → response x u ≡ logging (write (kernel_regime c.bank) Word a v) t → interpret logging (write_frame c a v) t ≡ response (frame_replied c x) u
  unfolding write_frame frame_request interpret
  frame_stored a v e = ap (λ (g : Response Journaled Answer). response (frame_replied c g.out) g.world) (sym e)

-- a fault's machine, by its bank
pub faulted_bank : (b : Bank) (q : Cache) (e a : ℕ) → faulted (cpu b q) e a ≡ cpu (cond (eqb e 8 || eqb e 9) (set b 1 a) b) q
faulted_bank b q e a = go (eqb e 8 || eqb e 9)
  where
    go : (t : Bool) → cond t (cpu (set b 1 a) q) (cpu b q) ≡ cpu (cond t (set b 1 a) b) q
    go true = refl
    go false = refl

-- a first part by the number of its answer: the rest goes on with the value, or the exception stops it
module _ {B : Type 0} (c : Cpu) (a x : ℕ) (p : Program (Out ℕ)) (f : ℕ → Program (Out B)) (t u : Journaled) (e : response (replied c a (answer_of x)) u ≡ interpret logging p t) where
  pub bind_low : x < 2 ^ 32 → interpret logging (p >>= f) t ≡ interpret logging (f (x % 2 ^ 32)) u
  unfolding onward
  bind_low h = rw (bind p f t, ← e, answer_low x h) refl

  pub bind_high : 2 ^ 32 ≤ x → interpret logging (p >>= f) t ≡ response (stop (x % 2 ^ 32) (faulted c (x % 2 ^ 32) a)) u
  unfolding onward interpret
  bind_high h = rw (bind p f t, ← e, answer_high x h) refl
