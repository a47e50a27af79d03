-- The text that a step fetched has exactly as many parcels as the decoder's answer carries.
-- Assumes nothing.
use Prim.Native.Nat.{ℕ}
use mathlib.Core.Path.{◌≡◌, subst, sym, ◌∙◌}
use native.Mathlib.Omega.{arith}
use Rattle.isa.specs.declared.Text.{Text}
use Rattle.isa.specs.declared.Undecoded.TheVariants.{Illegal, Unimplemented, Truncated}
use Rattle.isa.specs.Decode.{decode_of}
use Rattle.isa.specs.Carried.{Carried}
use Rattle.isa.proofs.Carried.{carried_length}
use Rattle.access_spec.proofs.BoundedLaws.{Any, within_bounded, bounded_result}
use Rattle.datapath.specs.Text.{fetch_text}
use Rattle.invariants.specs.FetchedText.{AsCarried, FetchedText}
use Rattle.invariants.proofs.RuleLaws.{AnswersAllowed, any_answer, ResultsAllowed}
use Rattle.invariants.proofs.TextLaws.{TextFits, fetch_text_law}
use Rattle.invariants.proofs.CountLaws.{anything_goes}
use Rattle.std.specs.Prelude.{Ok, Err}
use Rattle.isa.specs.Answers.{Decoded}

as_carried : (t : Text) (k : ℕ) (a : Decoded) → t.count ≡ k → Carried k t.count a → AsCarried t a
as_carried t k (Ok (i, n)) e h = e ∙ sym h.1
as_carried t k (Err Illegal) e h = tt
as_carried t k (Err (Unimplemented v)) e h = tt
as_carried t k (Err Truncated) e h = absurd (omega (arith, e, h))

pub fetched_text : FetchedText
fetched_text W h c w t e =
    let f = subst (ResultsAllowed anything_goes TextFits) e
    (bounded_result h Any (ResultsAllowed anything_goes TextFits) 6 (fetch_text c) w
    (within_bounded Any (AnswersAllowed anything_goes) (ResultsAllowed anything_goes TextFits) 6 (fetch_text c) (any_answer anything_goes (λ w. w) (λ e. tt))
    (fetch_text_law anything_goes c tt).within)) in
    as_carried t _ (decode_of t) f.called (carried_length t)
