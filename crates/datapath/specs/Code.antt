-- What the code's answers say, in the definitions' types.
-- Assumes nothing.
use Rattle.std.specs.Prelude.{ℕ, ◌/◌, ◌%◌, ◌^◌, cond, List, [], ◌∷◌, eqb, ltb}
use Rattle.word.specs.Sums.{plus_of}
use Rattle.isa.specs.declared.Text.{Text}
use Rattle.isa.specs.Decode.{joined}
use Rattle.memory.specs.Answers.{Answer, good, raised}
use Rattle.access_spec.specs.Program.{Program}
use Rattle.machine.specs.Registers.{Bank}
use Rattle.machine.specs.Cache.{Cache}
use Rattle.machine.specs.Status.{Cpu, cpu}
use Rattle.datapath.specs.declared.text.OperandParcels.{OperandParcels}
use Rattle.datapath.specs.declared.text.Fetched.{Fetched}
use Rattle.datapath.specs.Parts.{Out, ok, stop, done, faulted, ◌>>=◌}
use Rattle.datapath.specs.Text.{fetch_parcel}

-- a write's answer at an address, with the machine after it
abbrev pub write_out : Cpu → ℕ → Answer → Out Cpu
write_out c a (good v) = ok c
write_out c a (raised e) = stop e (faulted c e a)

-- how a part of an instruction ended, with the registers and the cache as they then are
abbrev pub cpu_out : Answer → Bank → Cache → Out Cpu
cpu_out (good v) b q = ok (cpu b q)
cpu_out (raised e) b q = stop e (cpu b q)

-- an answer whose value is made into another, or the exception with the machine as it then is
abbrev pub giving : {A : Type 0} → (ℕ → A) → Answer → Bank → Cache → Out A
giving f (good v) b q = ok (f v)
giving f (raised e) b q = stop e (cpu b q)

abbrev pub value_out : Answer → Bank → Cache → Out ℕ
value_out x b q = giving (λ v. v) x b q

-- two parcels as one word
unfoldable pub fetch_two : Cpu → ℕ → Program (Out ℕ)
fetch_two c a = do
  x ← fetch_parcel c a
  y ← fetch_parcel c (plus_of a 2)
  done (joined x y)

abbrev pub joined_out : Cpu → Answer → Out ℕ
joined_out c (good v) = ok v
joined_out c (raised e) = stop e c

-- the parcels after p, of two words
abbrev pub listed : ℕ → ℕ → ℕ → List ℕ
listed p x y =
    cond (ltb p 0x8000) []
    (cond (ltb p 0xC000) (x / 65536 ∷ x % 65536 ∷ []) (x / 65536 ∷ x % 65536 ∷ y / 65536 ∷ y % 65536 ∷ []))

abbrev pub words_fetched : ℕ → ℕ → OperandParcels
words_fetched x y = record { fault = 0; source = x; destination = y }

abbrev pub fetch_stopped : ℕ → OperandParcels
fetch_stopped e = record { fault = e; source = 0; destination = 0 }

abbrev pub operands_out : Cpu → ℕ → OperandParcels → Out (List ℕ)
operands_out c p o = cond (eqb o.fault 0) (ok (listed p o.source o.destination)) (stop (o.fault % 2 ^ 32) c)

abbrev pub text_out : Cpu → Fetched → Out Text
text_out c f = cond (eqb f.fault 0) (ok f.text) (stop (f.fault % 2 ^ 32) c)
