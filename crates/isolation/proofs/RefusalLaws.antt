-- Refusals of confined runs: what decides them, and what a run that is not refused knows of its machine.
-- Assumes nothing.
use Prim.Native.Nat.{ℕ}
use mathlib.Core.Path.{◌≡◌, refl}
use mathlib.Core.Bool.{Bool, true, false, cond, not, ◌&&◌}
use native.Mathlib.Omega.{arith}
use lib.ListN.{length}
use lib.Dec.{leb}
use Rattle.word.proofs.CaseLaws.{and_left, and_right}
use Rattle.memory.specs.Bytes.{Memory, whole_pages, memory_size}
use Rattle.machine.specs.Registers.{good_bank, register_refused}
use Rattle.machine.specs.Status.{Cpu, is_user, is_virtual}
use Rattle.run_spec.specs.Run.{Board, board, refusal, level_refused, level_not_user}

-- they are judged by the machine and the length of its memory
pub refusal_same : (level : ℕ) (c : Cpu) (a b : Memory) → length a ≡ length b → refusal true level (board c a) ≡ refusal true level (board c b)
unfolding refusal
refusal_same level c a b l = rw l refl

-- a confined run that is not refused is at user level with virtual addressing
confined_both : (level : ℕ) (s : Board) → refusal true level s ≡ 0 → (is_user s.cpu.bank && is_virtual s.cpu.bank) ≡ true
unfolding refusal
confined_both level s e =
    go (whole_pages (length s.memory)) (good_bank s.cpu.bank) (leb level 7) (is_user s.cpu.bank && is_virtual s.cpu.bank) e
  where
    go : (w g l u : Bool) → cond (not w) memory_size (cond (not g) register_refused (cond (not l) level_refused (cond (true && not u) level_not_user 0))) ≡ 0 → u ≡ true
    go true true true true z = refl
    go true true true false z = absurd (omega arith)
    go true true false u z = absurd (omega arith)
    go true false l u z = absurd (omega arith)
    go false g l u z = absurd (omega arith)

pub confined_user : (level : ℕ) (s : Board) → refusal true level s ≡ 0 → is_user s.cpu.bank ≡ true
confined_user level s e = and_left (is_user s.cpu.bank) (is_virtual s.cpu.bank) (confined_both level s e)

pub confined_virtual : (level : ℕ) (s : Board) → refusal true level s ≡ 0 → is_virtual s.cpu.bank ≡ true
confined_virtual level s e = and_right (is_user s.cpu.bank) (is_virtual s.cpu.bank) (confined_both level s e)
