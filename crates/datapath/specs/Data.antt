-- Data accesses: the stack cache or memory, in the byte order and the regime of the moment.
-- Assumes nothing.
use Rattle.std.specs.Prelude.{ℕ, ◌%◌, Bool, cond, eqb}
use Rattle.word.specs.declared.Width.{Width}
use Rattle.word.specs.declared.Width.TheVariants.{Word}
use Rattle.word.specs.Widths.{bytes_of}
use Rattle.memory.specs.Bytes.{place_of}
use Rattle.memory.specs.Exceptions.{alignment_fault}
use Rattle.access_spec.specs.Access.{read, write, probe}
use Rattle.access_spec.specs.Program.{Program, ret}
use Rattle.machine.specs.Cache.{cache_read, cache_write}
use Rattle.machine.specs.Status.{Cpu, cpu, cached, is_little, regime, kernel_regime}
use Rattle.datapath.specs.Parts.{Out, stop, done, request, frame_request, ◌>>=◌}

-- where an operand of width w at address a stands
abbrev pub place : Cpu → Width → ℕ → ℕ
place c w a = place_of (is_little c.bank) w a

abbrev pub is_aligned : Width → ℕ → Bool
is_aligned w a = eqb (a % bytes_of w) 0

-- in the cache: no translation, and the alignment of memory
unfoldable pub read_cached : Cpu → Width → ℕ → Program (Out ℕ)
read_cached c w a =
    cond (is_aligned w a) (done (cache_read (bytes_of w) c.cache (place c w a))) (ret (stop alignment_fault c))

unfoldable pub read_memory : Cpu → Width → ℕ → Program (Out ℕ)
read_memory c w a = request c (read (regime c.bank) w (place c w a)) a

-- an operand read: w bytes as an unsigned number
unfoldable pub read_data : Cpu → Width → ℕ → Program (Out ℕ)
read_data c w a = cond (cached c.bank a) (read_cached c w a) (read_memory c w a)

unfoldable pub write_cached : Cpu → Width → ℕ → ℕ → Program (Out Cpu)
write_cached c w a v =
    cond (is_aligned w a) (done (cpu c.bank (cache_write (bytes_of w) c.cache (place c w a) v))) (ret (stop alignment_fault c))

unfoldable pub write_memory : Cpu → Width → ℕ → ℕ → Program (Out Cpu)
write_memory c w a v = do
  _ ← request c (write (regime c.bank) w (place c w a) v) a
  done c

-- an operand write: the low bytes of v
unfoldable pub write_data : Cpu → Width → ℕ → ℕ → Program (Out Cpu)
write_data c w a v = cond (cached c.bank a) (write_cached c w a v) (write_memory c w a v)

-- frames and vectors: words in memory, at kernel level, never in the cache and never renumbered
unfoldable pub read_frame : Cpu → ℕ → Program (Out ℕ)
read_frame c a = frame_request c (read (kernel_regime c.bank) Word a)

unfoldable pub write_frame : Cpu → ℕ → ℕ → Program (Out ℕ)
write_frame c a v = frame_request c (write (kernel_regime c.bank) Word a v)

-- ENTER, CATCH, CRET: "checked to verify that stores are valid at the current execution level"
unfoldable pub check_store : Cpu → ℕ → Program (Out ℕ)
check_store c a = request c (probe (regime c.bank) a) a
