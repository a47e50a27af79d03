use mathlib.Core.Path.{sym, ap, ◌∙◌}
use native.Mathlib.Omega.{arith}
use Rattle.std.specs.Prelude.{Err}
use Rattle.isa.specs.declared.Undecoded.{Undecoded}
use Rattle.isa.specs.Answers.{Decoded}
use Rattle.isa.specs.Decode.{text_of}
use Rattle.isa.proofs.AnswerLaws.{same_decoded}
use Rattle.isa.proofs.Carried.{vector_fits}
use Rattle.hobbit_blocks.proofs.decode_into.Goals as goal

pub overflow_add-result-in-Err-Unimplemented : goal.overflow_add-result-in-Err-Unimplemented
overflow_add-result-in-Err-Unimplemented c =
    let a = c.in-Err-Unimplemented in
    let f : (e : Undecoded) → Decoded = λ e. Err e in
    omega (arith, vector_fits (text_of c.args.parcels.now) a.v (sym (same_decoded _ _ c.decode.ensures) ∙ a.is ∙ ap f a.field-0-is))
