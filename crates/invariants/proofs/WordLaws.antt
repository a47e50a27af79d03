-- A step keeps every word of the bank and of the cache below 2 ^ 32, as long as reads are answered by words.
-- Assumes nothing.
use Prim.Native.Nat.{ℕ, zero, suc, ◌/◌, ◌%◌, ◌^◌, ◌<◌, ◌≤◌}
use mathlib.Core.List.{List, [], ◌∷◌}
use native.Mathlib.Omega.{arith}
use lib.Dec.{lit<}
use lib.ListN.{get_or, set}
use Rattle.word.specs.declared.Width.{Width}
use Rattle.word.specs.declared.Width.TheVariants.{Byte, Half, Word}
use Rattle.word.specs.Widths.{bytes_of}
use Rattle.access_spec.specs.Access.{Access}
use Rattle.access_spec.specs.Program.{Handler, interpret}
use Rattle.access_spec.proofs.ByteLaws.{set_all}
use Rattle.machine.specs.Registers.{word, psw}
use Rattle.machine.specs.Cache.{Cache, cache_word, cache_write}
use Rattle.machine.specs.Status.{Cpu}
use Rattle.machine.proofs.DigitLaws.{inserted_lt}
use Rattle.step_spec.specs.Step.{step}
use Rattle.run_spec.specs.Run.{confined_attempt}
use Rattle.access_spec.proofs.BoundedLaws.{Any, within_result}
use Rattle.invariants.proofs.RuleLaws.{Rules, AnswerIn, AnswersAllowed}
use Rattle.invariants.proofs.StepLaws.{SteppedHolds, Leaves, step_part, confined_part}

-- every word is one
pub record Worded (c : Cpu) : Type 0 where
  pub bank : (k : ℕ) → word c.bank k < 2 ^ 32
  pub cache : (i j : ℕ) → get_or (get_or c.cache i []) j 0 < 2 ^ 32

set_bank : (l : List ℕ) (k v : ℕ) → ((j : ℕ) → get_or l j 0 < 2 ^ 32) → v < 2 ^ 32 → (j : ℕ) → get_or (set l k v) j 0 < 2 ^ 32
set_bank l k v h g = set_all (λ (x : ℕ). x < 2 ^ 32) l k v 0 h g

set_quad : (q : Cache) (i : ℕ) (w : List ℕ) → ((i j : ℕ) → get_or (get_or q i []) j 0 < 2 ^ 32) → ((j : ℕ) → get_or w j 0 < 2 ^ 32)
    → (i' j : ℕ) → get_or (get_or (set q i w) i' []) j 0 < 2 ^ 32
set_quad q i w h g = set_all (λ (x : List ℕ). (j : ℕ) → get_or x j 0 < 2 ^ 32) q i w [] h g

few : (w : Width) → bytes_of w ≤ 4
few Byte = omega arith
few Half = omega arith
few Word = omega arith

write_words_law : (w : Width) (q : Cache) (a v : ℕ) → ((i j : ℕ) → get_or (get_or q i []) j 0 < 2 ^ 32)
    → (i j : ℕ) → get_or (get_or (cache_write (bytes_of w) q a v) i []) j 0 < 2 ^ 32
unfolding cache_write
write_words_law w q a v h =
    set_quad q (a / 16 % 16) _ h
    (set_bank (get_or q (a / 16 % 16) []) (a / 4 % 4) _ (h (a / 16 % 16)) (inserted_lt (bytes_of w) a v (cache_word q a) (few w) (h (a / 16 % 16) (a / 4 % 4))))

four_words : (w x y z : ℕ) → (w < 2 ^ 32) × (x < 2 ^ 32) × (y < 2 ^ 32) × (z < 2 ^ 32) → (j : ℕ) → get_or (w ∷ x ∷ y ∷ z ∷ []) j 0 < 2 ^ 32
four_words w x y z h zero = h.0
four_words w x y z h (suc zero) = h.1
four_words w x y z h (suc (suc zero)) = h.2
four_words w x y z h (suc (suc (suc zero))) = h.3
four_words w x y z h (suc (suc (suc (suc j)))) = lit< tt

abbrev worded : Rules
worded =
    record {
      Asks = λ q. Unit;
      Holds = λ c. Worded c;
      Raises = λ e. Unit;
      Free = Unit;
      Words = Unit;
      asks = λ c q h e. tt;
      anything = λ f q. tt;
      kernel = λ c h e. tt;
      raises = λ e l. tt;
      raises_all = λ f e. tt;
      plain = λ c k v t h w. record { bank = set_bank c.bank k v h.bank (w tt); cache = h.cache };
      register = λ c k v t f h w. record { bank = set_bank c.bank k v h.bank (w tt); cache = h.cache };
      status = λ c v h a. record { bank = set_bank c.bank psw v h.bank (a.word (h.bank psw)); cache = h.cache };
      stored = λ c w a v h. record { bank = h.bank; cache = write_words_law w c.cache a v h.cache };
      filled = λ c a w x y z h f. record { bank = h.bank; cache = set_quad c.cache _ _ h.cache (four_words w x y z (f tt)) };
      words = λ c k h w. h.bank k;
    }

-- a world that answers reads by words, as long as I holds of it
abbrev pub Answering : {W : Type 0} → Handler W → (W → Type 0) → Type 0
Answering {W = W} h I = (q : Access) (w : W) → I w → AnswerIn Unit Any q (h q w).out × I (h q w).world

module _ {W : Type 0} (h : Handler W) (I : W → Type 0) (a : Answering h I) (w : W) (i : I w) where
  pub step_worded : (level : ℕ) (c : Cpu) → Worded c → Worded (interpret h (step level c) w).out.cpu
  step_worded level c g =
      within_result Any (AnswersAllowed worded) h I (SteppedHolds worded) 79 (step level c) w a i (step_part worded tt level c g)

  pub confined_worded : (c : Cpu) → Worded c → Leaves Worded (interpret h (confined_attempt c) w).out
  confined_worded c g =
      within_result Any (AnswersAllowed worded) h I (Leaves Worded) 75 (confined_attempt c) w a i (confined_part worded c g)
