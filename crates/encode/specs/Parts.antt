-- Parts of the definitions in the crate isa that have no name there.
use Rattle.std.specs.Prelude.{◌+◌, ◌*◌, ◌/◌, ◌%◌, Bool}
use Rattle.isa.specs.declared.DyadicInstruction.{DyadicInstruction}
use Rattle.isa.specs.declared.MonadicInstruction.{MonadicInstruction}
use Rattle.isa.specs.declared.Text.{Text}
use Rattle.isa.specs.Encodings.{dyadic_listed, monadic_listed}
use Rattle.isa.specs.Encode.{operand_code, operand_raw, dyadic_text, monadic_code, takes, text3, with_prefix}

-- of encode_dyadic: the parcels
unfoldable pub dyadic_parcels : DyadicInstruction → Text
dyadic_parcels i =
    with_prefix i.prefix
    (dyadic_text i.wide (dyadic_listed i.row).opcode
    (operand_code i.source) (operand_code i.destination)
    (operand_raw i.source) (operand_raw i.destination))

-- of encode_monadic: whether there is a code, and the parcels
abbrev pub monadic_has_code : MonadicInstruction → Bool
monadic_has_code i = takes (monadic_listed i.row).operand i.mode i.value

unfoldable pub monadic_parcels : MonadicInstruction → Text
monadic_parcels i =
    with_prefix i.prefix
    (text3 (0x8000 + monadic_code i.mode * 16 + (monadic_listed i.row).subcode) (i.value / 65536) (i.value % 65536))
