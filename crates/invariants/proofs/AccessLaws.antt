-- Single accesses keep to the rules: data in the cache or memory, frames, checks.
-- Assumes nothing.
use Prim.Native.Nat.{ℕ, ◌+◌, ◌-◌, ◌%◌, ◌^◌, ◌<◌}
use mathlib.Core.Path.{refl}
use mathlib.Core.Bool.{Bool, true, false, cond, ◌||◌}
use native.Mathlib.Nat.{mod-lt}
use native.Mathlib.Omega.{arith}
use lib.Dec.{eqb}
use lib.Pow.{pow_pos}
use Rattle.word.specs.declared.Width.{Width}
use Rattle.word.specs.declared.Width.TheVariants.{Byte, Half, Word}
use Rattle.word.specs.Widths.{bytes_of}
use Rattle.word.specs.Sums.{plus_of, minus_of}
use Rattle.memory.specs.Answers.{Answer, good, raised}
use Rattle.memory.specs.Exceptions.{alignment_fault}
use Rattle.access_spec.specs.Access.{Access, read, write, probe}
use Rattle.machine.specs.Registers.{fault}
use Rattle.machine.specs.Cache.{Cache, cache_read}
use Rattle.machine.proofs.CacheLaws.{read_lt}
use Rattle.machine.specs.Status.{Cpu, with, cached, regime, kernel_regime}
use Rattle.datapath.specs.Parts.{faulted, replied, request, resets, frame_request, frame_replied}
use Rattle.datapath.specs.Data.{place, is_aligned, read_cached, read_memory, read_data, write_cached, write_memory, write_data, read_frame, write_frame, check_store}
use Rattle.access_spec.proofs.BoundedLaws.{Any}
use Rattle.invariants.proofs.RuleLaws.{Rules, AnswersAllowed, Value, ResultsAllowed, Part, bind, gives, stops, either, some}

-- ---- words

pub wrapped : (a : ℕ) → a % 2 ^ 32 < 2 ^ 32
wrapped a = mod-lt a (pow_pos 32)

module _ (k : Rules) where
  pub plus_value : (a b : ℕ) → Value k (plus_of a b)
  plus_value a b w = wrapped (a + b)

  pub minus_value : (a b : ℕ) → Value k (minus_of a b)
  minus_value a b w = wrapped (a + (2 ^ 32 - b))

  -- ---- one access

  fault_holds : (c : Cpu) (e a : ℕ) → k.Holds c → Value k a → k.Holds (faulted c e a)
  fault_holds c e a h v = go (eqb e 0x8 || eqb e 0x9)
    where
      go : (b : Bool) → k.Holds (cond b (with c fault a) c)
      go true = k.plain c fault a tt h v
      go false = h

  pub request_part : (c : Cpu) (q : Access) (a : ℕ) → k.Holds c → k.Asks q → Value k a → Part k (λ v. AnswersAllowed k q (good v)) 1 (request c q a)
  unfolding request
  request_part c q a h g v = record { within = (g, go) }
    where
      go : (r : Answer) → AnswersAllowed k q r → ResultsAllowed k (λ v. AnswersAllowed k q (good v)) (replied c a r)
      go (good x) d = d
      go (raised e) d = (d, fault_holds c e a h v)

  frame_part : (c : Cpu) (q : Access) → k.Free → k.Holds c → Part k (λ v. AnswersAllowed k q (good v)) 1 (frame_request c q)
  unfolding frame_request
  frame_part c q f h = record { within = (k.anything f q, go) }
    where
      go : (r : Answer) → AnswersAllowed k q r → ResultsAllowed k (λ v. AnswersAllowed k q (good v)) (frame_replied c r)
      go (good x) d = d
      go (raised e) d = (k.raises_all f resets, h)

  pub read_frame_law : (c : Cpu) (a : ℕ) → k.Free → k.Holds c → Part k (Value k) 1 (read_frame c a)
  unfolding read_frame
  read_frame_law c a f h = frame_part c (read (kernel_regime c.bank) Word a) f h

  pub write_frame_law : (c : Cpu) (a v : ℕ) → k.Free → k.Holds c → Part k Any 1 (write_frame c a v)
  unfolding write_frame
  write_frame_law c a v f h = some (frame_part c (write (kernel_regime c.bank) Word a v) f h)

  -- ---- data

  read_cached_law : (w : Width) (q : Cache) (a : ℕ) → Value k (cache_read (bytes_of w) q a)
  read_cached_law Byte q a t = omega (arith, read_lt 1 q a)
  read_cached_law Half q a t = omega (arith, read_lt 2 q a)
  read_cached_law Word q a t = read_lt 4 q a

  pub read_data_law : (c : Cpu) (w : Width) (a : ℕ) → k.Holds c → Value k a → Part k (Value k) 1 (read_data c w a)
  unfolding read_data read_cached read_memory
  read_data_law c w a h v =
      either (cached c.bank a)
      (λ _. either (is_aligned w a) (λ _. gives (read_cached_law w c.cache (place c w a))) (λ _. stops (k.raises alignment_fault refl) h))
      (λ _. request_part c (read (regime c.bank) w (place c w a)) a h (k.asks c _ h refl) v)

  pub write_data_law : (c : Cpu) (w : Width) (a v : ℕ) → k.Holds c → Value k a → Part k k.Holds 1 (write_data c w a v)
  unfolding write_data write_cached write_memory
  write_data_law c w a v h l =
      either (cached c.bank a)
      (λ _. either (is_aligned w a) (λ _. gives (k.stored c w (place c w a) v h)) (λ _. stops (k.raises alignment_fault refl) h))
      (λ _. bind (request_part c (write (regime c.bank) w (place c w a) v) a h (k.asks c _ h refl) l) λ _ _. gives {n = 0} h)

  pub check_store_law : (c : Cpu) (a : ℕ) → k.Holds c → Value k a → Part k Any 1 (check_store c a)
  unfolding check_store
  check_store_law c a h v = some (request_part c (probe (regime c.bank) a) a h (k.asks c _ h refl) v)
