-- Refusals with one number are the same.
-- Assumes nothing.
use Rattle.std.proofs.Common.{◌≡◌, refl, sym, ap, ◌∙◌, ℕ, cond, eqb}
use Rattle.refusals.specs.declared.Refusal.{Refusal}
use Rattle.refusals.specs.declared.Refusal.TheVariants.{MemorySize, Register, InterruptLevel, LostStack, NoEncoding, CutText, MalformedLine, OutsideMemory, LevelNotUser, MalformedRecord, WrongChecksum, OtherKind}
use Rattle.refusals.specs.Numbers.{number_of}

refusal_by : ℕ → Refusal
refusal_by n =
    cond (eqb n 1) MemorySize
    (cond (eqb n 2) Register
    (cond (eqb n 3) InterruptLevel
    (cond (eqb n 4) LostStack
    (cond (eqb n 5) NoEncoding
    (cond (eqb n 6) CutText
    (cond (eqb n 7) MalformedLine
    (cond (eqb n 8) OutsideMemory
    (cond (eqb n 9) LevelNotUser (cond (eqb n 13) MalformedRecord (cond (eqb n 14) WrongChecksum OtherKind))))))))))

back : (r : Refusal) → refusal_by (number_of r) ≡ r
unfolding refusal_by
back MemorySize = refl
back Register = refl
back InterruptLevel = refl
back LostStack = refl
back NoEncoding = refl
back CutText = refl
back MalformedLine = refl
back OutsideMemory = refl
back LevelNotUser = refl
back MalformedRecord = refl
back WrongChecksum = refl
back OtherKind = refl

pub same_refusal : (r s : Refusal) → number_of r ≡ number_of s → r ≡ s
same_refusal r s e = sym (back r) ∙ ap refusal_by e ∙ back s
