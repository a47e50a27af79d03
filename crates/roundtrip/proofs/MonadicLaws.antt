-- Monadics of three parcels: what the encoder gives decodes to the same instruction, and back.
-- Assumes nothing.
use Prim.Native.Nat.{ℕ, zero-le, ◌+◌, ◌*◌, ◌/◌, ◌%◌, ◌<◌, ◌≤◌}
use mathlib.Core.Path.{◌≡◌, refl, sym, ap, subst, ◌∙◌}
use mathlib.Core.Bool.{Bool, true, false, not}
use native.Mathlib.Nat.{div-div-eq-div-mul}
use native.Mathlib.Omega.{arith}
use borrow.Author.Tests.{ltb-true, ltb-false, le-leb, lt-leb}
use lib.Dec.{ltb, leb}
use Rattle.word.proofs.MatchLaws.{within}
use Rattle.word.proofs.CaseLaws.{by_test, not_both}
use Rattle.isa.specs.declared.MonadicRow.{MonadicRow}
use Rattle.isa.specs.declared.MonadicRow.TheVariants as row
use Rattle.isa.specs.declared.MonadicRule.{MonadicRule}
use Rattle.isa.specs.declared.MonadicRule.TheVariants as rule
use Rattle.isa.specs.declared.MonadicMode.{MonadicMode}
use Rattle.isa.specs.declared.MonadicMode.TheVariants.{WordAbsolute, WordStack, WordIndirect, WordImmediate, FlowAbsoluteIndirect, FlowStackIndirect, FlowRelative, FlowAbsolute}
use Rattle.isa.specs.declared.Entry.TheVariants as entry
use Rattle.isa.specs.declared.Single.{Single}
use Rattle.isa.specs.declared.Single.TheVariants.{Word32, Flow32, Abs32, Stk32, EnterWord32}
use Rattle.isa.specs.declared.MonadicInstruction.{MonadicInstruction}
use Rattle.isa.specs.declared.Instruction.{Instruction}
use Rattle.isa.specs.declared.Instruction.TheVariants as instruction
use Rattle.isa.specs.declared.Undecoded.TheVariants.{Illegal, Unimplemented}
use Rattle.isa.specs.Lengths.{prefix_length, length_of}
use Rattle.isa.specs.Answers.{unimplemented_vector, with_length}
use Rattle.isa.proofs.AnswerLaws.{same_instruction}
use Rattle.isa.specs.Tables.{monadic_of, monadic_mode_of, MonadicEntry}
use Rattle.isa.proofs.BoundLaws.{subcode_lt, single_lt}
use Rattle.isa.specs.Legal.{monadic_legal_of}
use Rattle.isa.specs.Decode.{monadic_found, monadic_answer, decode_monadic}
use Rattle.isa.specs.Encodings.{monadic_listed}
use Rattle.isa.specs.Encode.{with_prefix, text3, monadic_code, takes, encode_monadic, encode_any}
use Rattle.std.specs.Prelude.{Option, Some, None, Err}

-- ---- the tables against the lists

abbrev pub rule_of : Single → MonadicRule
rule_of Word32 = rule.Word
rule_of Flow32 = rule.Flow
rule_of Abs32 = rule.Jump
rule_of Stk32 = rule.Stack
rule_of EnterWord32 = rule.Enter

pub row_back : (r : MonadicRow) → monadic_of (monadic_listed r).subcode ≡ entry.Row r (rule_of (monadic_listed r).operand)
row_back row.Call = refl
row_back row.Catch = refl
row_back row.Enter = refl
row_back row.Flushpbe = refl
row_back row.Flushpte = refl
row_back row.Jmp = refl
row_back row.Jmpfn = refl
row_back row.Jmpfy = refl
row_back row.Jmptn = refl
row_back row.Jmpty = refl
row_back row.Kcall = refl
row_back row.Ldraa = refl
row_back row.Popn = refl
row_back row.Return = refl

positive : (v : ℕ) → ltb v 0x8000_0000 ≡ not (leb 0x8000_0000 v)
positive v =
    by_test (ltb v 0x8000_0000)
    (λ e. e ∙ sym (ap not (lt-leb 0x8000_0000 v (ltb-true v 0x8000_0000 e))))
    (λ e. e ∙ sym (ap not (le-leb 0x8000_0000 v (ltb-false v 0x8000_0000 e))))

negative : (v : ℕ) → not (ltb v 0x8000_0000) ≡ leb 0x8000_0000 v
negative v = ap not (positive v) ∙ twice (leb 0x8000_0000 v)
  where
    twice : (b : Bool) → not (not b) ≡ b
    twice true = refl
    twice false = refl

-- a mode that a row takes stands at its number, and is judged as the decoder judges it
record Taken (c : Single) (m : MonadicMode) (v : ℕ) : Type 0 where
  place : monadic_mode_of (rule_of c) (monadic_code m) ≡ Some m
  legal : monadic_legal_of (rule_of c) m v ≡ true

taken : (c : Single) (m : MonadicMode) (v : ℕ) → takes c m v ≡ true → Taken c m v
taken Word32 WordAbsolute v h = record { place = refl; legal = refl }
taken Word32 WordStack v h = record { place = refl; legal = refl }
taken Word32 WordIndirect v h = record { place = refl; legal = refl }
taken Word32 WordImmediate v h = record { place = refl; legal = refl }
taken Word32 FlowAbsoluteIndirect v h = not_both h
taken Word32 FlowStackIndirect v h = not_both h
taken Word32 FlowRelative v h = not_both h
taken Word32 FlowAbsolute v h = not_both h
taken Flow32 WordAbsolute v h = not_both h
taken Flow32 WordStack v h = not_both h
taken Flow32 WordIndirect v h = not_both h
taken Flow32 WordImmediate v h = not_both h
taken Flow32 FlowAbsoluteIndirect v h = record { place = refl; legal = refl }
taken Flow32 FlowStackIndirect v h = record { place = refl; legal = refl }
taken Flow32 FlowRelative v h = record { place = refl; legal = refl }
taken Flow32 FlowAbsolute v h = record { place = refl; legal = refl }
taken Abs32 WordAbsolute v h = not_both h
taken Abs32 WordStack v h = not_both h
taken Abs32 WordIndirect v h = not_both h
taken Abs32 WordImmediate v h = not_both h
taken Abs32 FlowAbsoluteIndirect v h = not_both h
taken Abs32 FlowStackIndirect v h = not_both h
taken Abs32 FlowRelative v h = record { place = refl; legal = refl }
taken Abs32 FlowAbsolute v h = record { place = refl; legal = refl }
taken Stk32 WordAbsolute v h = not_both h
taken Stk32 WordStack v h = record { place = refl; legal = sym (positive v) ∙ h }
taken Stk32 WordIndirect v h = not_both h
taken Stk32 WordImmediate v h = not_both h
taken Stk32 FlowAbsoluteIndirect v h = not_both h
taken Stk32 FlowStackIndirect v h = not_both h
taken Stk32 FlowRelative v h = not_both h
taken Stk32 FlowAbsolute v h = not_both h
taken EnterWord32 WordAbsolute v h = record { place = refl; legal = refl }
taken EnterWord32 WordStack v h = record { place = refl; legal = sym (negative v) ∙ h }
taken EnterWord32 WordIndirect v h = record { place = refl; legal = refl }
taken EnterWord32 WordImmediate v h = record { place = refl; legal = refl }
taken EnterWord32 FlowAbsoluteIndirect v h = not_both h
taken EnterWord32 FlowStackIndirect v h = not_both h
taken EnterWord32 FlowRelative v h = not_both h
taken EnterWord32 FlowAbsolute v h = not_both h

abbrev pub RowThere : MonadicEntry → ℕ → Type 0
RowThere (entry.Row r u) k = ((monadic_listed r).subcode ≡ k) × (rule_of (monadic_listed r).operand ≡ u)
RowThere entry.Unimplemented k = Unit {0}
RowThere entry.Unlisted k = Unit {0}

pub row_there : (k : ℕ) → k < 16 → RowThere (monadic_of k) k
row_there k h = within (λ n. RowThere (monadic_of n) n) 0 16 ((((((((((((((((tt, (refl, refl)), (refl, refl)), (refl, refl)), (refl, refl)), (refl, refl)), (refl, refl)), (refl, refl)), (refl, refl)), (refl, refl)), (refl, refl)), (refl, refl)), (refl, refl)), (refl, refl)), tt), tt), (refl, refl)) k zero-le h

abbrev ModeThere : Single → Option MonadicMode → ℕ → Type 0
ModeThere c (Some m) k = (monadic_code m ≡ k) × ((v : ℕ) → takes c m v ≡ monadic_legal_of (rule_of c) m v)
ModeThere c None k = Unit {0}

mode_there : (c : Single) (k : ℕ) → k < 16 → ModeThere c (monadic_mode_of (rule_of c) k) k
mode_there Word32 k h = within (λ n. ModeThere Word32 (monadic_mode_of (rule_of Word32) n) n) 0 16 ((((((((((((((((tt, tt), tt), tt), tt), tt), tt), tt), tt), tt), tt), tt), tt), (refl, λ v. refl)), (refl, λ v. refl)), (refl, λ v. refl)), (refl, λ v. refl)) k zero-le h
mode_there Flow32 k h = within (λ n. ModeThere Flow32 (monadic_mode_of (rule_of Flow32) n) n) 0 16 ((((((((((((((((tt, tt), tt), tt), tt), tt), tt), tt), tt), tt), tt), tt), tt), (refl, λ v. refl)), (refl, λ v. refl)), (refl, λ v. refl)), (refl, λ v. refl)) k zero-le h
mode_there Abs32 k h = within (λ n. ModeThere Abs32 (monadic_mode_of (rule_of Abs32) n) n) 0 16 ((((((((((((((((tt, tt), tt), tt), tt), tt), tt), tt), tt), tt), tt), tt), tt), tt), tt), (refl, λ v. refl)), (refl, λ v. refl)) k zero-le h
mode_there Stk32 k h = within (λ n. ModeThere Stk32 (monadic_mode_of (rule_of Stk32) n) n) 0 16 ((((((((((((((((tt, tt), tt), tt), tt), tt), tt), tt), tt), tt), tt), tt), tt), tt), (refl, positive)), tt), tt) k zero-le h
mode_there EnterWord32 k h = within (λ n. ModeThere EnterWord32 (monadic_mode_of (rule_of EnterWord32) n) n) 0 16 ((((((((((((((((tt, tt), tt), tt), tt), tt), tt), tt), tt), tt), tt), tt), tt), (refl, λ v. refl)), (refl, negative)), (refl, λ v. refl)), (refl, λ v. refl)) k zero-le h

-- ---- the first parcel

abbrev pub first_of : ℕ → ℕ → ℕ
first_of k j = 0x8000 + k * 16 + j

pub whole : (p : ℕ) → 0x8000 ≤ p → p < 0xC000 → p / 256 % 64 ≡ 0 → first_of (p / 16 % 16) (p % 16) ≡ p
whole p h k e =
    let a : p / 256 ≡ 0x80 = omega arith in
    let b : p / 16 ≡ p / 256 * 16 + p / 16 % 16 = omega (arith, div-div-eq-div-mul p 16 16) in
    omega arith

-- ---- encode, then decode

pub monadic_back : (i : MonadicInstruction) → takes (monadic_listed i.row).operand i.mode i.value ≡ true
    → decode_monadic i.prefix (first_of (monadic_code i.mode) (monadic_listed i.row).subcode) i.value ≡ with_length (instruction.Monadic i)
unfolding decode_monadic
monadic_back i h =
    let c = (monadic_listed i.row).operand in
    let k = monadic_code i.mode in
    let j = (monadic_listed i.row).subcode in
    let lk : k < 16 = single_lt i.mode in
    let lj : j < 16 = subcode_lt i.row in
    let ek : first_of k j / 16 % 16 ≡ k = omega arith in
    let ej : first_of k j % 16 ≡ j = omega arith in
    let t = taken c i.mode i.value h in
    rw (ej, ek, row_back i.row, t.place, t.legal) refl

-- ---- decode, then encode

pub record Encodes (pre : Bool) (k j v : ℕ) (i : Instruction) : Type 0 where
  pub parcels : encode_any i ≡ Some (with_prefix pre (text3 (first_of k j) (v / 65536) (v % 65536)))
  pub length : length_of i ≡ 3 + prefix_length pre

module _ (pre : Bool) (k j v : ℕ) where
  row_encodes : (r : MonadicRow) (m : MonadicMode) → (monadic_listed r).subcode ≡ j → monadic_code m ≡ k → takes (monadic_listed r).operand m v ≡ true
      → Encodes pre k j v (instruction.Monadic (record { row = r; prefix = pre; mode = m; value = v }))
  unfolding encode_monadic
  row_encodes r m ej ek h = record { parcels = rw (h, ej, ek) refl; length = refl }

  mode_encodes : (r : MonadicRow) (u : MonadicRule) (e : Option MonadicMode) (i : Instruction) → (monadic_listed r).subcode ≡ j
      → rule_of (monadic_listed r).operand ≡ u → ModeThere (monadic_listed r).operand e k → monadic_found r u pre e v ≡ with_length i → Encodes pre k j v i
  mode_encodes r u (Some m) i ej eu t e =
      by_test (monadic_legal_of u m v)
      (λ l.
      let q : with_length (instruction.Monadic (record { row = r; prefix = pre; mode = m; value = v })) ≡ with_length i = simp l at e in
      let s : instruction.Monadic (record { row = r; prefix = pre; mode = m; value = v }) ≡ i = same_instruction _ i q in
      subst (Encodes pre k j v) s (row_encodes r m ej t.0 (t.1 v ∙ ap (λ (w : MonadicRule). monadic_legal_of w m v) eu ∙ l)))
      (λ l. let q : Err Illegal ≡ with_length i = simp l at e in let z : ◌≡◌ {A = ℕ} 0 1 = cc in absurd (omega arith))
  mode_encodes r u None i ej eu t e = let z : ◌≡◌ {A = ℕ} 0 1 = cc in absurd (omega arith)

  entry_encodes : (e : MonadicEntry) (i : Instruction) → k < 16 → RowThere e j → monadic_answer e pre k v ≡ with_length i → Encodes pre k j v i
  entry_encodes (entry.Row r u) i h t e =
      mode_encodes r u (monadic_mode_of u k) i t.0 t.1
      (subst (λ (w : MonadicRule). ModeThere (monadic_listed r).operand (monadic_mode_of w k) k) t.1 (mode_there (monadic_listed r).operand k h)) e
  entry_encodes entry.Unimplemented i h t e =
      by_test (ltb k 0xC)
      (λ l. let q : Err Illegal ≡ with_length i = simp l at e in let z : ◌≡◌ {A = ℕ} 0 1 = cc in absurd (omega arith))
      (λ l. let q : Err (Unimplemented unimplemented_vector) ≡ with_length i = simp l at e in let z : ◌≡◌ {A = ℕ} 0 1 = cc in absurd (omega arith))
  entry_encodes entry.Unlisted i h t e = let z : ◌≡◌ {A = ℕ} 0 1 = cc in absurd (omega arith)

pub monadic_encodes : (pre : Bool) (p v : ℕ) (i : Instruction) → decode_monadic pre p v ≡ with_length i → Encodes pre (p / 16 % 16) (p % 16) v i
unfolding decode_monadic
monadic_encodes pre p v i e = entry_encodes pre (p / 16 % 16) (p % 16) v (monadic_of (p % 16)) i (omega arith) (row_there (p % 16) (omega arith)) e
