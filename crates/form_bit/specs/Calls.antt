-- What the decoder's code answered, as far as the contract tells that each of its two calls exports to its callers.
use Rattle.std.specs.Prelude.{ℕ, ◌≡◌, List}
use contract.Lifetimes.{Lfts}
use Rattle.std.specs.Borrow.{Bor}
use denote.Triple.Clauses.{at_exit}
use Rattle.isa.specs.declared.Text.{Text}
use Rattle.isa.specs.Decode.{decode_of, text_of}
use Rattle.decode.specs.contracts.decode_text as decode_text
use Rattle.decode.proofs.decode_text.Reads as decode_text_contract
use Rattle.decode.specs.contracts.decode as decode
use Rattle.decode.proofs.decode.Reads as decode_contract
use Rattle.isa.specs.Answers.{Decoded}

-- the definition's answer
abbrev pub Defined : Text → Decoded → Type 0
Defined t r = r ≡ decode_of t

-- `decode::decode_text` answered r to the text t
pub record AnsweredText (t : Text) (r : Decoded) : Type 0 where
  pub lifetimes : Lfts 0
  pub answered :
      decode_text_contract.Asked lifetimes (t, tt)
      → decode_text_contract.Learnt lifetimes (t, tt) r (at_exit decode_text.ended lifetimes (t, tt) (tt, tt))

-- `decode::decode` answered r to lent parcels that make the text t; of their reference the contract says nothing
pub record AnsweredLent (t : Text) (r : Decoded) : Type 0 where
  pub lifetimes : Lfts 1
  pub reference : Bor (List ℕ)
  pub text : text_of reference.now ≡ t
  pub answered :
      decode_contract.Asked lifetimes (reference, tt)
      → decode_contract.Learnt lifetimes (reference, tt) r (at_exit decode.ended lifetimes (reference, tt) (tt, tt))
