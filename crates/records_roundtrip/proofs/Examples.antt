-- The example's records are accepted and give its frames, and these its other records, and a record is put on a board: by computation.
-- Assumes nothing.
use mathlib.Core.Path.{refl}
use Rattle.word.proofs.ListLaws.{no_others, ◌also◌}
use Rattle.hex_digits.specs.Digits.{digit_of, digit_byte}
use Rattle.board_lines.specs.Lines.{frame_of}
use Rattle.board_lines.specs.Stores.{frame_store}
use Rattle.records_lines.specs.Records.{address_bytes, is_count, is_record, digit_bytes, byte_sum, record_refusal}
use Rattle.records_lines.specs.Conversions.{frames_from, store_converted}
use Rattle.board_conversation.specs.Conversation.{frame_answer, conversation}
use Rattle.records_roundtrip.specs.Examples.{ExampleConverted, ShortLoaded}

pub example_converted : ExampleConverted
unfolding digit_of digit_byte frame_of address_bytes is_count is_record digit_bytes byte_sum record_refusal frames_from store_converted
example_converted =
    record {
      records_taken = refl also refl also refl also no_others;
      frames_given = refl;
      frames_taken = refl also refl also refl also refl also no_others;
      records_given = refl;
    }

pub short_loaded : ShortLoaded
unfolding digit_of digit_byte frame_of address_bytes is_count is_record digit_bytes byte_sum record_refusal frames_from frame_store frame_answer conversation
short_loaded c = refl
