-- A quad-word that was read word by word, as the code answers it.
-- Assumes nothing.
use Rattle.std.specs.Prelude.{ℕ, ◌%◌, ◌^◌, cond, ltb}
use Rattle.machine.specs.Status.{Cpu}
use Rattle.datapath.specs.Parts.{Out, ok, stop, faulted}
use Rattle.datapath.specs.Moves.{filled}
use Rattle.datapath_moves.specs.declared.filling.QuadWords.{QuadWords}

abbrev pub reading_stopped : ℕ → ℕ → QuadWords
reading_stopped n e = record { answer = n; at = e; w0 = 0; w1 = 0; w2 = 0 }

-- filled into the cache, or the fault of the word at which the reading stopped
abbrev pub quad_out : Cpu → ℕ → QuadWords → Out Cpu
quad_out c a x =
    cond (ltb x.answer (2 ^ 32))
    (ok (filled c a x.w0 x.w1 x.w2 (x.answer % 2 ^ 32)))
    (stop (x.answer % 2 ^ 32) (faulted c (x.answer % 2 ^ 32) x.at))
