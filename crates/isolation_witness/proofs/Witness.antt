-- The premises of isolation are met, and what confined runs do on these machines.
-- Assumes nothing.
use Prim.Native.Nat.{ℕ}
use mathlib.Core.Path.{refl}
use lib.Dec.{lit<}
use Rattle.memory.specs.Bytes.{load, store_answer, store_memory}
use Rattle.isa.specs.Decode.{decode_short, decode_bare, decode_of}
use Rattle.mmu.specs.Walk.{segment_of, segment, nonpaged_of, page_of, walk_from, walk, route, marked, fresh, recorded}
use Rattle.access_spec.specs.Access.{touch, follow, access}
use Rattle.access_spec.specs.Program.{interpret, after}
use Rattle.machine.specs.Registers.{good_bank, stb}
use Rattle.machine.specs.Cache.{cache_read}
use Rattle.machine.specs.Status.{Cpu, reg}
use Rattle.datapath.specs.Data.{read_cached, read_memory, read_data, write_memory, write_data, check_store}
use Rattle.datapath.specs.Moves.{flush_word, flush_quad, flush}
use Rattle.datapath.specs.Parts.{onward, ◌>>=◌, request, parcel_request}
use Rattle.datapath.specs.Text.{fetch_parcel, fetch_parcels, fetch_after, fetch_text}
use Rattle.exec_spec.specs.Operands.{located, locate, read_place, read_operand, write_place, check_registers}
use Rattle.exec_spec.specs.Dyadic.{move, perform, dyadic}
use Rattle.exec_spec.specs.Stack.{stack_target, check_msp, enter_offset, enter_at, enter, enter_clipped}
use Rattle.exec_spec.specs.Execute.{execute_monadic, execute_normal, execute}
use Rattle.step_spec.specs.Step.{fetch_instruction}
use Rattle.step_spec.specs.Timers.{counted}
use Rattle.run_spec.specs.Run.{board, act_confined, confined_attempt, confined_turn, advance, refusal, run}
use Rattle.isolation.specs.Sealed.{Sealed}
use Rattle.isolation.specs.Execution.{execution, passed}
use Rattle.isolation.specs.Isolation.{Apart}
use Rattle.isolation.proofs.Isolation.{isolation}
use Rattle.isolation_witness.specs.Memories.{Words, word_at, byte_of, bytes_from, memory_of, only, user_cpu}
use Rattle.isolation_witness.specs.Witness.{hiding, nonpaged_words, paged_words, trials, stack_cpu, stack_words, stack_board, two_runs, flushes, PremisesMet, Trials, Flushes, SameFlushes}
use Rattle.isolation_witness.proofs.MemoryLaws.{laid_agree}
use Rattle.isolation_witness.proofs.TestLaws.{all_met}

apart_by : (c : Cpu) (h i : ℕ) (ws : Words) → Sealed (only 3) (reg c stb) (memory_of (hiding h ws))
    → Apart (only 3) (board c (memory_of (hiding h ws))) (board c (memory_of (hiding i ws)))
apart_by c h i ws s = record { registers = refl; others = laid_agree ws 0x3000 h i 3 refl; sealed = s }

pub premises_met : PremisesMet
premises_met h i = (
  apart_by user_cpu h i nonpaged_words (all_met 1 (lit< tt) (hiding h nonpaged_words) 3 refl),
  apart_by user_cpu h i paged_words (all_met 1 (lit< tt) (hiding h paged_words) 3 refl),
  apart_by stack_cpu h i stack_words (all_met 1 (lit< tt) (hiding h stack_words) 3 refl),
)

pub trials_checked : Trials
unfolding trials execution passed run refusal good_bank advance confined_turn confined_attempt act_confined fetch_instruction counted execute_normal execute move perform dyadic located locate read_place read_operand write_place check_registers fetch_parcel fetch_parcels fetch_after fetch_text onward ◌>>=◌ request parcel_request read_memory read_data write_memory write_data interpret after touch follow access segment_of segment nonpaged_of page_of walk_from walk route marked fresh recorded decode_short decode_bare decode_of load store_answer store_memory word_at byte_of bytes_from
trials_checked = tt

pub flushes_checked : Flushes
unfolding flushes run refusal good_bank advance confined_turn confined_attempt act_confined fetch_instruction counted execute_monadic execute_normal execute move perform dyadic located locate read_place read_operand check_registers stack_target check_msp enter_offset enter_at enter flush_word flush_quad flush check_store fetch_parcel fetch_parcels fetch_after fetch_text onward ◌>>=◌ request parcel_request read_cached read_memory read_data cache_read interpret after touch follow access segment_of segment nonpaged_of page_of walk_from walk route marked fresh recorded decode_short decode_bare decode_of load store_answer store_memory word_at byte_of bytes_from enter_clipped
flushes_checked = tt

pub same_flushes : SameFlushes
same_flushes h i = isolation (only 3) (stack_board h) (stack_board i) (premises_met h i).2 two_runs
