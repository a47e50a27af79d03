-- Double-words and quad-words as the code moves them: words in pairs.
-- Assumes nothing.
use Rattle.std.specs.Prelude.{ℕ, ◌*◌, ◌%◌, Bool, true, false, cond, List, [], ◌∷◌, eqb}
use Rattle.word.specs.declared.Width.TheVariants.{Word}
use Rattle.word.specs.Sums.{plus_of}
use Rattle.isa.specs.declared.Operand.{Operand}
use Rattle.isa.specs.declared.Operand.TheVariants.{General, Register}
use Rattle.isa.specs.declared.Wide.{Wide}
use Rattle.memory.specs.Answers.{Answer, good, raised}
use Rattle.access_spec.specs.Program.{Program, ret}
use Rattle.machine.specs.Registers.{Bank, word, register_of}
use Rattle.machine.specs.Cache.{Cache}
use Rattle.machine.specs.Status.{Cpu, cpu}
use Rattle.datapath.specs.Parts.{Out, stop, ◌>>=◌}
use Rattle.datapath.specs.Data.{read_data, write_data}
use Rattle.exec_spec.specs.Operands.{Place, mode_kind, locate}
use Rattle.exec_spec.specs.Dyadic.{read_many, write_many}
use Rattle.exec_operands.specs.Code.{is_constant}

-- what follows a write: the rest with the machine as it then is, or the exception
abbrev pub continued : (Cpu → Program (Out Cpu)) → Answer → Bank → Cache → Program (Out Cpu)
continued f (good v) b q = f (cpu b q)
continued f (raised e) b q = ret (stop e (cpu b q))

-- two words in a row, then the rest
abbrev pub loading : Cpu → ℕ → (ℕ → ℕ → Program (Out Cpu)) → Program (Out Cpu)
loading c a f = do
  x ← read_data c Word a
  y ← read_data c Word (plus_of a 4)
  f x y

-- four words in a row, then the rest
abbrev pub loading_four : Cpu → ℕ → (ℕ → ℕ → ℕ → ℕ → Program (Out Cpu)) → Program (Out Cpu)
loading_four c a f = loading c a (λ x y. loading c (plus_of (plus_of a 4) 4) (λ u v. f x y u v))

abbrev pub storing : Cpu → ℕ → ℕ → ℕ → (Cpu → Program (Out Cpu)) → Program (Out Cpu)
storing c a x y f = do
  c ← write_data c Word a x
  c ← write_data c Word (plus_of a 4) y
  f c

-- the words of a double-word or a quad-word; y is the last one
abbrev pub words_for : Bool → ℕ → ℕ → ℕ → ℕ → List ℕ
words_for true w0 w1 w2 y = w0 ∷ y ∷ []
words_for false w0 w1 w2 y = w0 ∷ w1 ∷ w2 ∷ y ∷ []

abbrev pub count_for : Bool → ℕ
count_for k = cond k 2 4

-- whether an address is divisible by the bytes of so many words
abbrev pub aligned_to : Bool → ℕ → Bool
aligned_to k a = eqb (a % (count_for k * 4)) 0

-- an operand that is not in memory, and its word
abbrev pub is_scalar : Operand → Bool
is_scalar (General m v) = is_constant (mode_kind m)
is_scalar (Register n) = true

abbrev pub scalar_of : Bank → Operand → ℕ
scalar_of b (General m v) = v
scalar_of b (Register n) = word b (register_of n)

-- the words of an operand, then the rest
abbrev pub many_then : Cpu → Bool → Place → (List ℕ → Program (Out Cpu)) → Program (Out Cpu)
many_then c k p f = do
  xs ← read_many c (count_for k) p
  f xs

-- what is left of DQM once its source is read, and once it is found
abbrev pub put_words : Cpu → Bool → Wide → Operand → List ℕ → Program (Out Cpu)
put_words c k w d xs = do
  p ← locate c w d
  write_many c (count_for k) p xs

abbrev pub copy_words : Cpu → Bool → Wide → Operand → Place → Program (Out Cpu)
copy_words c k w d p = do
  xs ← read_many c (count_for k) p
  put_words c k w d xs
