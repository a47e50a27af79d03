-- Lists read off word by word, and the bank as registers and what is due.
-- Assumes nothing.
use mathlib.Core.Path.{◌≡◌, refl, sym, ap, ◌∙◌}
use mathlib.Core.List.{List, [], ◌∷◌, ◌++◌}
use Prim.Native.Nat.{ℕ, zero, suc, ◌≤◌}
use native.Mathlib.Omega.{arith}
use lib.ListN.{length, take, length-append}
use lib.Seq.{take-suc, take_all, take-append-le}
use Rattle.machine.specs.Registers.{Bank, word}
use Rattle.machine.specs.Record.{words_to}

pub words_take : (n : ℕ) (b : Bank) → n ≤ length b → words_to n b ≡ take n b
words_take zero b h = refl
words_take (suc n) b h = ap (λ (l : List ℕ). l ++ (word b n ∷ [])) (words_take n b (omega arith)) ∙ sym (take-suc b n 0 (omega arith))

-- a list of n words, read off
pub words_all : (n : ℕ) (b : Bank) → length b ≡ n → words_to n b ≡ b
words_all n b h = words_take n b (omega arith) ∙ take_all n b (omega arith)

-- the first words of a bank whose registers stand before what is due
pub words_front : (n : ℕ) (r d : List ℕ) → length r ≡ n → words_to n (r ++ d) ≡ r
words_front n r d h =
    words_take n (r ++ d) (simp length-append (omega arith)) ∙ take-append-le n r d (omega arith) ∙ take_all n r (omega arith)
