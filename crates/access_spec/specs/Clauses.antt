-- Words for contracts over lent parameters: what is lent has a value at entry and one at exit.
-- Assumes nothing.
use Rattle.std.specs.Prelude.{ℕ, ◌^◌, ◌<◌, ◌≡◌, Bool, true, false}
use Rattle.std.specs.Borrow.{Bor, MutBor}
use denote.Triple.Both.{Both}
use Rattle.memory.specs.Answers.{answer_of}
use Rattle.memory.specs.Bytes.{Memory}
use Rattle.access_spec.specs.Access.{Access, response}
use Rattle.access_spec.specs.Program.{Program, interpret}
use Rattle.access_spec.specs.Journal.{Journal, Journaled, journaled, logging}

-- what a contract knows by the name of a lent parameter
abbrev pub Lent : Type 0 → Type 0
Lent X = Both (MutBor X) (MutBor X)

-- a shared reference in the form of a mutable one; no contract says anything of the ghost name, which a shared one lacks
abbrev pub as_mutable : {X : Type 0} → Bor X → MutBor X
as_mutable b = record { ref_ptr = b.ref_ptr; ghost_name = 0; now = b.now }

-- what a contract knows by the name of a parameter that is only read
abbrev pub only_read : {X : Type 0} → Both (Bor X) (Bor X) → Lent X
only_read b = record { entry = as_mutable b.entry; exit = as_mutable b.exit }

-- it is left as it was
abbrev pub unchanged : {X : Type 0} → Lent X → Type 0
unchanged b = b.exit.now ≡ b.entry.now

-- what holds where the answer is a value: an exception is 2 ^ 32 and more
abbrev pub unless_faulted : ℕ → Type 0 → Type 0
unless_faulted x P = x < 2 ^ 32 → P

-- what holds by a bool that the code answers
abbrev pub IfElse : Bool → Type 0 → Type 0 → Type 0
IfElse z P Q = (z ≡ true → P) × (z ≡ false → Q)

-- memory and journal as they were lent, and as they are left
abbrev pub entry_world : Lent Memory → Lent Journal → Journaled
entry_world m j = journaled m.entry.now j.entry.now

abbrev pub exit_world : Lent Memory → Lent Journal → Journaled
exit_world m j = journaled m.exit.now j.exit.now

-- the number x is the answer to the access q, and memory and journal are left as q leaves them
abbrev pub Answers : ℕ → Lent Memory → Lent Journal → Access → Type 0
Answers x m j q = response (answer_of x) (exit_world m j) ≡ logging q (entry_world m j)

-- the same of an access that notes and changes nothing, under a journal j
abbrev pub AnswersReadOnly : ℕ → Memory → Journal → Access → Type 0
AnswersReadOnly x m j q = response (answer_of x) (journaled m j) ≡ logging q (journaled m j)

-- the program p ends with out, and memory and journal are left as p leaves them
abbrev pub Interprets : {A : Type 0} → A → Lent Memory → Lent Journal → Program A → Type 0
Interprets out m j p = response out (exit_world m j) ≡ interpret logging p (entry_world m j)

-- the same of a program that notes and changes nothing, under a journal j
abbrev pub InterpretsReadOnly : {A : Type 0} → A → Memory → Journal → Program A → Type 0
InterpretsReadOnly out m j p = response out (journaled m j) ≡ interpret logging p (journaled m j)

-- of the program p the code did a part: what is left of it, rest, ends on what the code left as p does on what was lent
abbrev pub Continues : {A : Type 0} → Program A → Lent Memory → Lent Journal → Program A → Type 0
Continues rest m j p = interpret logging rest (exit_world m j) ≡ interpret logging p (entry_world m j)
