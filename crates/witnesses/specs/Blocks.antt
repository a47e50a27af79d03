-- Wrong answers of the C calls on blocks of words and on bytes, each at an input at which the definition answers otherwise.
-- Assumes nothing.
use Rattle.std.specs.Prelude.{ℕ, Bool, List, [], ◌∷◌, replicate, get_or, T}
use Rattle.isa.specs.Decode.{decode_short, decode_dyadic, decode_monadic, decode_three, decode_wide, decode_prefixed, decode_bare, decode_of}
use Rattle.isa.specs.Encode.{encode_short, encode_dyadic, encode_monadic, encode_of}
use Rattle.hobbit_blocks.specs.Numbering.{short_in, dyadic_in, monadic_in, kind_in, instruction_in}
use Rattle.hobbit_blocks.specs.Calls.{CallAnswer, decoded_into, encoded_from}
use Rattle.hobbit.specs.Bytes.{stored_at, loaded_from}
use Rattle.witnesses.specs.Boards.{is, all}

-- what is lent: a block and parcels of sevens
abbrev pub block : List ℕ
block = replicate 8 7

abbrev pub parcels : List ℕ
parcels = replicate 6 7

abbrev pub word_at : CallAnswer → ℕ → ℕ
word_at t i = get_or t.words i 0

-- four bytes of memory
abbrev pub memory : List ℕ
memory = 1 ∷ 2 ∷ 3 ∷ 4 ∷ []

-- "ADD 5, R0" with a length in word 2 and a destination mode; "MOV 5, R4" and "CALL 0x200", after a prefix, with a length
abbrev pub adding : ℕ → ℕ → List ℕ
adding n d = 1 ∷ 0x5000 ∷ n ∷ 0 ∷ 0 ∷ 5 ∷ d ∷ 0 ∷ []

abbrev pub moving : ℕ → List ℕ
moving n = 2 ∷ 6 ∷ n ∷ 1 ∷ 15 ∷ 5 ∷ 13 ∷ 4 ∷ []

abbrev pub calling : ℕ → List ℕ
calling n = 3 ∷ 1 ∷ n ∷ 1 ∷ 7 ∷ 0x200 ∷ 0 ∷ 0 ∷ []

unfoldable pub blocks : List Bool
blocks =
    -- KRET and NOP with one number
    is (word_at (decoded_into (0x2C02 ∷ []) block) 1) 0x2C02 0x2C01
    -- a cut text that clears the block, or is answered as illegal
    ∷ is (decoded_into (0xE3FD ∷ []) block).number 6 0x103
    ∷ is (word_at (decoded_into (0xE3FD ∷ []) block) 0) 7 0
    -- word 2 without the prefix
    ∷ is (word_at (decoded_into (0x2C00 ∷ 0x86FD ∷ 5 ∷ 4 ∷ []) block) 2) 4 3
    ∷ is (word_at (decoded_into (0x2C00 ∷ 0xC6FD ∷ 0 ∷ 5 ∷ 0 ∷ 4 ∷ []) block) 2) 6 5
    ∷ is (word_at (decoded_into (0x2C00 ∷ 0x80F1 ∷ 0 ∷ 0x200 ∷ []) block) 2) 4 3
    -- word 2 left 0 for one parcel and for one operand
    ∷ is (word_at (decoded_into (0x2C02 ∷ []) block) 2) 1 0
    ∷ is (word_at (decoded_into (0x80F1 ∷ 0 ∷ 0x200 ∷ []) block) 2) 3 0
    -- the row 4, which is MOVA's opcode, read as UREM's
    ∷ is (word_at (encoded_from (2 ∷ 4 ∷ 3 ∷ 0 ∷ 13 ∷ 0 ∷ 13 ∷ 4 ∷ []) 3 parcels) 0) 0x84DD 0x85DD
    -- one parcel with a destination mode, or with operand bits in its row
    ∷ is (encoded_from (adding 1 0) 1 parcels).number 0 5
    ∷ is (encoded_from (adding 1 1) 1 parcels).number 5 0
    ∷ is (encoded_from (1 ∷ 0x50A0 ∷ 1 ∷ 0 ∷ 0 ∷ 5 ∷ 0 ∷ 0 ∷ []) 1 parcels).number 5 0
    -- any length taken, and parcels changed by a refusal
    ∷ is (encoded_from (adding 1 0) 3 parcels).number 5 0
    ∷ is (word_at (encoded_from (adding 1 0) 3 parcels) 0) 7 0
    -- a block of one parcel with another length, encoded at either
    ∷ is (encoded_from (adding 3 0) 1 parcels).number 5 0
    ∷ is (encoded_from (adding 3 0) 3 parcels).number 5 0
    -- a dyadic's block with the form's length in word 2 and a prefix, encoded at either; a monadic's
    ∷ is (encoded_from (moving 4) 4 parcels).number 0 5
    ∷ is (encoded_from (moving 3) 4 parcels).number 5 0
    ∷ is (encoded_from (moving 3) 3 parcels).number 5 0
    ∷ is (encoded_from (calling 4) 4 parcels).number 0 5
    ∷ is (encoded_from (calling 3) 4 parcels).number 5 0
    ∷ is (encoded_from (calling 3) 3 parcels).number 5 0
    -- bytes stored at the start whatever the address, or past the end; loaded from another place, or past the end
    ∷ is (get_or (stored_at memory 2 (9 ∷ [])).memory 2 0) 9 3
    ∷ is (get_or (stored_at memory 2 (9 ∷ [])).memory 0 0) 1 9
    ∷ is (stored_at memory 3 (9 ∷ 9 ∷ [])).refusal 8 0
    ∷ is (get_or (loaded_from memory 2 (0 ∷ [])).memory 0 0) 3 1
    ∷ is (loaded_from memory 3 (0 ∷ 0 ∷ [])).refusal 8 0
    ∷ []

pub blocks_checked : T (all blocks)
unfolding blocks decode_short decode_dyadic decode_monadic decode_three decode_wide decode_prefixed decode_bare decode_of encode_short encode_dyadic encode_monadic encode_of short_in dyadic_in monadic_in kind_in instruction_in stored_at loaded_from
blocks_checked = tt
