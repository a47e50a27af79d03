-- A text with or without its prefix: the code's order of tests agrees with isa's definitions.
-- Assumes nothing.
use Prim.Native.Nat.{◌-◌, ◌≤◌}
use mathlib.Core.Path.{◌≡◌, sym, ◌∙◌}
use mathlib.Core.Bool.{true, false}
use native.Mathlib.Omega.{arith}
use lib.Dec.{ltb, eqb}
use borrow.Author.Tests.{lt-ltb, le-ltb, ltb-true, ltb-false}
use Rattle.word.proofs.CaseLaws.{by_test}
use Rattle.isa.specs.declared.Text.{Text}
use Rattle.isa.specs.Decode.{cpu_prefix, decode_prefixed, decode_bare, decode_of}
use Rattle.decode.specs.Forms.{rest_of, decode_rest}

module _ (t : Text) where
  -- one parcel is taken off, so each count is one less
  fewer : ltb (t.count - 1) 1 ≡ ltb t.count 2
  fewer =
      by_test (ltb t.count 2)
      (λ e. lt-ltb (t.count - 1) 1 (omega (arith, ltb-true t.count 2 e)) ∙ sym e)
      (λ e. le-ltb (t.count - 1) 1 (omega (arith, ltb-false t.count 2 e)) ∙ sym e)

  rest_prefixed : decode_rest true (rest_of true t) ≡ decode_prefixed t
  unfolding decode_rest decode_prefixed
  rest_prefixed = let e : t.count - 1 - 1 ≡ t.count - 2 = omega arith in simp (fewer, e)

  rest_bare : 1 ≤ t.count → decode_rest false t ≡ decode_bare t
  unfolding decode_rest decode_bare
  rest_bare h = simp (le-ltb _ _ h)

  pub by_rest : 1 ≤ t.count → decode_of t ≡ decode_rest (eqb t.p0 cpu_prefix) (rest_of (eqb t.p0 cpu_prefix) t)
  unfolding decode_of
  by_rest h =
      by_test (eqb t.p0 cpu_prefix)
      (λ e. simp (le-ltb _ _ h, e) (sym rest_prefixed))
      (λ e. simp (le-ltb _ _ h, e) (sym (rest_bare h)))
