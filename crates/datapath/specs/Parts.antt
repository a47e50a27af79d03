-- Parts of an instruction: each gives a value, or stops the instruction by an exception with the machine as it then is.
-- Assumes nothing.
use Rattle.std.specs.Prelude.{ℕ, ◌%◌, ◌^◌, cond, ◌||◌, eqb}
use Rattle.memory.specs.Exceptions.{read_fault, write_fault}
use Rattle.memory.specs.Answers.{Answer, good, raised}
use Rattle.access_spec.specs.Access.{Access}
use Rattle.access_spec.specs.Program.{Program, ret, ask, after}
use Rattle.machine.specs.Registers.{fault}
use Rattle.machine.specs.Status.{Cpu, with}

pub data Out (A : Type 0) : Type 0 where
  ok : A → Out A
  stop : ℕ → Cpu → Out A

unfoldable pub onward : {A B : Type 0} → (A → Program (Out B)) → Out A → Program (Out B)
onward f (ok a) = f a
onward f (stop e c) = ret (stop e c)

infixl 20 ◌>>=◌
-- one part after another, unless the first stops
unfoldable pub ◌>>=◌ : {A B : Type 0} → Program (Out A) → (A → Program (Out B)) → Program (Out B)
◌>>=◌ p f = after p (onward f)

abbrev pub done : {A : Type 0} → A → Program (Out A)
done a = ret (ok a)

-- 1.11.3: "In exception IDs 0x8 and 0x9, the .. virtual address of faulted access is saved in the Fault Register"
abbrev pub faulted : Cpu → ℕ → ℕ → Cpu
faulted c e a = cond (eqb e read_fault || eqb e write_fault) (with c fault a) c

abbrev pub replied : Cpu → ℕ → Answer → Out ℕ
replied c a (good v) = ok v
replied c a (raised e) = stop e (faulted c e a)

-- an access at the address a, as the instruction computed it
unfoldable pub request : Cpu → Access → ℕ → Program (Out ℕ)
request c q a = ask q (λ r. ret (replied c a r))

-- a parcel is sixteen bits
abbrev pub parcel_replied : Cpu → Answer → Out ℕ
parcel_replied c (good v) = ok (v % 2 ^ 16)
parcel_replied c (raised e) = stop e c

-- an access whose fault is not saved: text
unfoldable pub parcel_request : Cpu → Access → Program (Out ℕ)
parcel_request c q = ask q (λ r. ret (parcel_replied c r))

-- 1.11.1: "A memory fault .. when attempting to read or write the interrupt stack .. from the vector table" resets: no
-- exception has the number 0
abbrev pub resets : ℕ
resets = 0

abbrev pub frame_replied : Cpu → Answer → Out ℕ
frame_replied c (good v) = ok v
frame_replied c (raised e) = stop resets c

unfoldable pub frame_request : Cpu → Access → Program (Out ℕ)
frame_request c q = ask q (λ r. ret (frame_replied c r))
