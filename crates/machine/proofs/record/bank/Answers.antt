use Prim.Native.Nat.{ℕ}
use mathlib.Core.List.{List, ◌++◌}
use mathlib.Core.Path.{◌≡◌, refl, ap}
use lib.ListN.{length}
use Rattle.machine.specs.Record.{dues}
use Rattle.machine.proofs.SizeLaws.{registers_13}
use Rattle.machine.proofs.WordLaws.{words_all}
use Rattle.machine.proofs.record.bank.Goals as goal

pub returns : goal.returns
returns c = let m = c.args.m in
    let h : length m.registers ≡ 13 = registers_13 m _ c.well_formed.0 in (
      rw (c.due_word-4.ensures, c.due_word-3.ensures, c.due_word-2.ensures, c.due_word.ensures)
          (ap (λ (l : List ℕ). l ++ dues m) (words_all 13 m.registers h)),
      refl,
    )
