-- The witness conversation, computed.
-- Assumes nothing.
use mathlib.Core.Path.{◌≡◌, refl, sym, ap, subst, ◌∙◌}
use mathlib.Core.Bool.{true}
use mathlib.Core.List.{List, ◌++◌}
use Prim.Native.Nat.{ℕ}
use Rattle.memory.specs.Bytes.{load, store_answer, store_memory}
use Rattle.isa.specs.Decode.{decode_short, decode_bare, decode_of}
use Rattle.mmu.specs.Walk.{segment_of, segment, nonpaged_of, page_of, walk_from, walk, route, marked, fresh, recorded}
use Rattle.access_spec.specs.Access.{touch, follow, access}
use Rattle.access_spec.specs.Program.{interpret, after}
use Rattle.machine.specs.Registers.{good_bank, set_register}
use Rattle.datapath.specs.Data.{read_memory, read_data, write_memory, write_data}
use Rattle.datapath.specs.Parts.{onward, ◌>>=◌, request, parcel_request}
use Rattle.datapath.specs.Text.{fetch_parcel, fetch_parcels, fetch_after, fetch_prefixed, fetch_text}
use Rattle.exec_spec.specs.Operands.{located, locate, read_place, read_operand, write_place, check_registers}
use Rattle.exec_spec.specs.Dyadic.{move, perform, dyadic}
use Rattle.exec_spec.specs.Execute.{execute_normal, execute}
use Rattle.step_spec.specs.Step.{fetch_instruction}
use Rattle.step_spec.specs.Timers.{counted}
use Rattle.run_spec.specs.Run.{act_confined, confined_attempt, confined_turn, advance, refusal, run}
use Rattle.hex_digits.specs.Digits.{digit_of, digit_byte}
use Rattle.board_lines.specs.Lines.{frame_of}
use Rattle.board_lines.specs.Stores.{frame_store}
use Rattle.lines.specs.Texts.{lines_of}
use Rattle.board_lines.specs.Totals.{totals_of, totals_line}
use Rattle.board_conversation.specs.Conversation.{frame_answer, conversation, with_totals}
use Rattle.isolation_witness.specs.Memories.{word_at, byte_of, bytes_from, only}
use Rattle.isolation_witness.specs.Witness.{nonpaged_board}
use Rattle.isolation_witness.proofs.Witness.{premises_met}
use Rattle.isolation_board.specs.Lines.{admits_lines}
use Rattle.isolation_board.specs.Witness.{witness_lines, WitnessAdmitted, WitnessBarred, WitnessPrinted, WitnessSame, as_input, WitnessTotals, WitnessProgram}
use Rattle.isolation_board.proofs.Lines.{confined_conversation, confined_program}

pub witness_lines_law : WitnessAdmitted × (WitnessPrinted × WitnessBarred)
unfolding conversation run refusal good_bank advance confined_turn confined_attempt act_confined fetch_instruction counted execute_normal execute move perform dyadic located locate read_place read_operand write_place check_registers fetch_parcel fetch_parcels fetch_after fetch_prefixed fetch_text onward ◌>>=◌ request parcel_request read_memory read_data write_memory write_data interpret after touch follow access segment_of segment nonpaged_of page_of walk_from walk route marked fresh recorded decode_short decode_bare decode_of load store_answer store_memory word_at byte_of bytes_from frame_of digit_of digit_byte set_register frame_store frame_answer witness_lines
witness_lines_law = (refl, (refl, refl))

pub witness_same : WitnessSame
witness_same h =
    let apart = (premises_met 1 h).0 in
    (confined_conversation (only 3) (nonpaged_board 1) (nonpaged_board h) apart 1 witness_lines witness_lines_law.0).0

input_lines : lines_of (as_input witness_lines) ≡ witness_lines
unfolding lines_of digit_byte witness_lines
input_lines = refl

pub witness_totals : WitnessTotals
unfolding lines_of digit_of digit_byte
witness_totals =
    ap (λ (l : List (List ℕ)). with_totals (conversation 1 l (nonpaged_board 1)).printed) input_lines
    ∙ ap (λ (t : List ℕ). (conversation 1 witness_lines (nonpaged_board 1)).printed ++ totals_line (totals_of (lines_of t))) witness_lines_law.1.0

pub witness_program : WitnessProgram
witness_program h =
    confined_program (only 3) (nonpaged_board 1) (nonpaged_board h) (premises_met 1 h).0 (as_input witness_lines)
    (subst (λ (l : List (List ℕ)). admits_lines 1 l (nonpaged_board 1) ≡ true) (sym input_lines) witness_lines_law.0)
