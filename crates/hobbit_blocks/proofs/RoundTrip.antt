-- The block of an instruction names it, and a block that names an instruction is that instruction's block. That the tables
-- have a row where the lists have it, and the other way round, is from the round trip of decoder and encoder.
-- Assumes nothing.
use Prim.Native.Nat.{ℕ, zero, suc, zero-le, ◌+◌, ◌/◌, ◌%◌, ◌<◌, ◌≤◌}
use mathlib.Core.Path.{◌≡◌, refl, sym, ap, subst, ◌∙◌}
use mathlib.Core.Bool.{Bool, true, false, ◌&&◌}
use mathlib.Core.List.{List, [], ◌∷◌}
use native.Mathlib.Omega.{arith}
use borrow.Author.Tests.{ltb-true, ltb-false, lt-ltb, le-ltb, leb-true, le-leb, eqb-true, eq-eqb, ne_eqb}
use lib.ListN.{length, get_or, get_or-eq_default}
use lib.Seq.{ext_get_or}
use lib.Dec.{ltb, leb, eqb}
use Rattle.word.proofs.MatchLaws.{within}
use Rattle.word.proofs.CaseLaws.{by_test, and_left, and_right}
use Rattle.isa.specs.declared.ShortRow.{ShortRow}
use Rattle.isa.specs.declared.FieldMode.{FieldMode}
use Rattle.isa.specs.declared.FieldMode.TheVariants.{Absent, Imm5, Uimm5, Wai5, Stk5, Istk5, Imm10, Pcrel10, Stk8, Fill8}
use Rattle.isa.specs.declared.ShortEntry.{ShortEntry}
use Rattle.isa.specs.declared.ShortEntry.TheVariants as short
use Rattle.isa.specs.declared.ShortListed.{ShortListed}
use Rattle.isa.specs.declared.ShortInstruction.{ShortInstruction}
use Rattle.isa.specs.declared.DyadicRow.{DyadicRow}
use Rattle.isa.specs.declared.Entry.TheVariants as place
use Rattle.isa.specs.declared.MonadicRow.{MonadicRow}
use Rattle.isa.specs.declared.MonadicMode.{MonadicMode}
use Rattle.isa.specs.declared.MonadicMode.TheVariants.{WordAbsolute, WordStack, WordIndirect, WordImmediate, FlowAbsoluteIndirect, FlowStackIndirect, FlowRelative, FlowAbsolute}
use Rattle.isa.specs.declared.Operand.{Operand}
use Rattle.isa.specs.declared.Operand.TheVariants.{General, Register}
use Rattle.isa.specs.declared.Wide.{Wide}
use Rattle.isa.specs.declared.Wide.TheVariants.{Three, Five}
use Rattle.isa.specs.declared.Instruction.{Instruction}
use Rattle.isa.specs.declared.Instruction.TheVariants as instruction
use Rattle.isa.specs.Lengths.{short_length, wide_length, prefix_length, length_of}
use Rattle.isa.specs.Answers.{with_length}
use Rattle.isa.specs.Tables.{short_of, dyadic_table, dyadic_of, monadic_table, monadic_of, DyadicEntry, MonadicEntry}
use Rattle.isa.specs.Decode.{short_entry, short_answer, short_instruction, decode_short}
use Rattle.isa.specs.Encodings.{short_listed, dyadic_listed}
use Rattle.isa.specs.Encode.{raw_field, source_place, short_parcel, operand_raw, mode_code}
use Rattle.isa.proofs.BoundLaws.{operand_lt}
use Rattle.isa.proofs.AnswerLaws.{same_instruction}
use Rattle.roundtrip.proofs.RowLaws as short_rows
use Rattle.roundtrip.proofs.DyadicTableLaws as dyadics
use Rattle.roundtrip.proofs.MonadicLaws as monadics
use Rattle.hobbit_blocks.specs.Numbering.{operand_mode, monadic_mode_place, block_of, short_named, is_short, short_in, length_agrees, operand_in, is_dyadic, dyadic_named, dyadic_in, monadic_mode_in, monadic_named, is_monadic, monadic_in, kind_in, instruction_in}
use Rattle.std.specs.Prelude.{Option, Some, None}

-- ---- the parts of an instruction

-- one parcel: a row's parcel without operand bits is the one that its values 0 have
no_bits : (m : FieldMode) → (source_place m (raw_field m 0) ≡ 0) × (raw_field m 0 ≡ 0)
no_bits Absent = (refl, refl)
no_bits Imm5 = (refl, refl)
no_bits Uimm5 = (refl, refl)
no_bits Wai5 = (refl, refl)
no_bits Stk5 = (refl, refl)
no_bits Istk5 = (refl, refl)
no_bits Imm10 = (refl, refl)
no_bits Pcrel10 = (refl, refl)
no_bits Stk8 = (refl, refl)
no_bits Fill8 = (refl, refl)

bare : (l : ShortListed) → short_parcel l 0 0 ≡ l.base
bare l = omega (arith, (no_bits l.source).0, (no_bits l.destination).1)

-- what decodes to an instruction is named by its row
decoded_named : (e : ShortEntry) (p : ℕ) (i : ShortInstruction) (x y : ℕ) → (short_listed i.row).base ≡ p → short_answer e p ≡ with_length (instruction.Short i)
    → short_named e p x y ≡ Some (instruction.Short (record { row = i.row; source = x; destination = y }))
decoded_named (short.Row q s d) p i x y h e =
    let k : instruction.Short (short_instruction q s d p) ≡ instruction.Short i = same_instruction _ _ e in
    let j : short_instruction q s d p ≡ i = cc in
    let f : q ≡ i.row = ap (λ (k : ShortInstruction). k.row) j in
    rw (f, eq-eqb (short_listed i.row).base p h) refl
decoded_named f p i x y h e = let z : ◌≡◌ {A = ℕ} 0 1 = cc in absurd (omega arith)

-- what a row's parcel without operand bits decodes to
abbrev bare_instruction : ShortRow → ShortListed → ShortInstruction
bare_instruction q l = short_rows.fielded q l.source l.destination (raw_field l.source 0) (raw_field l.destination 0)

module _ (q : ShortRow) where
  decoded : short_rows.From (short_listed q).base (bare_instruction q (short_listed q))
  decoded = subst (λ (p : ℕ). short_rows.From p (bare_instruction q (short_listed q))) (bare (short_listed q)) (short_rows.row q 0 0)

  short_back : (x y : ℕ) → short_named (short_entry (short_of ((short_listed q).base / 1024 % 32)) (short_listed q).base) (short_listed q).base x y
      ≡ Some (instruction.Short (record { row = q; source = x; destination = y }))
  unfolding decode_short
  short_back x y =
      decoded_named (short_entry (short_of ((short_listed q).base / 1024 % 32)) (short_listed q).base) (short_listed q).base (bare_instruction q (short_listed q)) x y refl
      decoded.decoded

-- two operands
operand_back : (o : Operand) → (leb (operand_mode o) 16 ≡ true) × (operand_in (operand_mode o) (operand_raw o) ≡ o)
operand_back (General m v) =
    let h : mode_code m < 16 = operand_lt (General m v) in
    (le-leb (mode_code m) 16 (omega arith), simp (ne_eqb (mode_code m) 16 (λ e. omega arith), dyadics.mode_back false m v refl))
operand_back (Register n) = (refl, refl)

single_back : (m : MonadicMode) → monadic_mode_in (monadic_mode_place m) ≡ Some m
single_back WordAbsolute = refl
single_back WordStack = refl
single_back WordIndirect = refl
single_back WordImmediate = refl
single_back FlowAbsoluteIndirect = refl
single_back FlowStackIndirect = refl
single_back FlowRelative = refl
single_back FlowAbsolute = refl

prefix_back : (p : Bool) → (ltb (prefix_length p) 2 ≡ true) × (eqb (prefix_length p) 1 ≡ p)
prefix_back true = (refl, refl)
prefix_back false = (refl, refl)

dyadic_back : (q : DyadicRow) (w : Wide) (p : Bool) (a b : Operand)
    → dyadic_in w (dyadic_listed q).opcode (prefix_length p) (operand_mode a) (operand_raw a) (operand_mode b) (operand_raw b)
    ≡ Some (instruction.Dyadic (record { row = q; wide = w; prefix = p; source = a; destination = b }))
unfolding dyadic_in
dyadic_back q w p a b =
    simp ((prefix_back p).0, (prefix_back p).1, (operand_back a).0, (operand_back a).1, (operand_back b).0, (operand_back b).1, dyadics.row_back q)

dyadic_block : (q : DyadicRow) (w : Wide) (p : Bool) (a b : Operand)
    → instruction_in (block_of (instruction.Dyadic (record { row = q; wide = w; prefix = p; source = a; destination = b })) (wide_length w + prefix_length p))
    ≡ Some (instruction.Dyadic (record { row = q; wide = w; prefix = p; source = a; destination = b }))
unfolding instruction_in kind_in
dyadic_block q Three true a b = dyadic_back q Three true a b
dyadic_block q Three false a b = dyadic_back q Three false a b
dyadic_block q Five true a b = dyadic_back q Five true a b
dyadic_block q Five false a b = dyadic_back q Five false a b

monadic_block : (q : MonadicRow) (p : Bool) (m : MonadicMode) (v : ℕ)
    → instruction_in (block_of (instruction.Monadic (record { row = q; prefix = p; mode = m; value = v })) (wide_length Three + prefix_length p))
    ≡ Some (instruction.Monadic (record { row = q; prefix = p; mode = m; value = v }))
unfolding instruction_in kind_in monadic_in
monadic_block q true m v = simp (single_back m, monadics.row_back q)
monadic_block q false m v = simp (single_back m, monadics.row_back q)

pub named_block : (i : Instruction) → instruction_in (block_of i (length_of i)) ≡ Some i
unfolding instruction_in kind_in short_in
named_block (instruction.Short i) = simp (lt-ltb _ 0x8000 (decoded i.row).below, short_back i.row i.source i.destination)
named_block (instruction.Dyadic i) = dyadic_block i.row i.wide i.prefix i.source i.destination
named_block (instruction.Monadic i) = monadic_block i.row i.prefix i.mode i.value

-- ---- the words of a block

no : {P : Type 0} (i : Instruction) → None ≡ Some i → P
no i e = let z : ◌≡◌ {A = ℕ} 0 1 = cc in absurd (omega arith)

one : (i j : Instruction) → Some j ≡ Some i → i ≡ j
one i j e = cc

prefix_word : (p : ℕ) → p < 2 → prefix_length (eqb p 1) ≡ p
prefix_word zero h = refl
prefix_word (suc zero) h = refl
prefix_word (suc (suc p)) h = absurd (omega arith)

-- past a table's end there is nothing
dyadic_there : (k : ℕ) → dyadics.RowThere (dyadic_of k) k
dyadic_there k =
    by_test (ltb k 64)
    (λ t. dyadics.row_there k (ltb-true k 64 t))
    (λ t. subst (λ (e : DyadicEntry). dyadics.RowThere e k) (sym (get_or-eq_default dyadic_table place.Unlisted (ltb-false k 64 t))) tt)

monadic_there : (k : ℕ) → monadics.RowThere (monadic_of k) k
monadic_there k =
    by_test (ltb k 16)
    (λ t. monadics.row_there k (ltb-true k 16 t))
    (λ t. subst (λ (e : MonadicEntry). monadics.RowThere e k) (sym (get_or-eq_default monadic_table place.Unlisted (ltb-false k 16 t))) tt)

-- the words of an operand
mode_word : (k v : ℕ) → k ≤ 16 → operand_mode (operand_in k v) ≡ k
mode_word k v h =
    within (λ n. operand_mode (operand_in n v) ≡ n) 0 17
    (((((((((((((((((tt, refl), refl), refl), refl), refl), refl), refl), refl), refl), refl), refl), refl), refl), refl), refl), refl), refl)
    k zero-le (omega arith)

raw_word : (k v : ℕ) → operand_raw (operand_in k v) ≡ v
raw_word k v = by_test (eqb k 16) (λ t. simp t) (λ t. simp t)

-- the word of a monadic's mode
abbrev Word : Option MonadicMode → ℕ → Type 0
Word (Some m) k = monadic_mode_place m ≡ k
Word None k = Unit {0}

single_word : (k : ℕ) → Word (monadic_mode_in k) k
single_word k =
    by_test (ltb k 8)
    (λ t. within (λ n. Word (monadic_mode_in n) n) 0 8 ((((((((tt, refl), refl), refl), refl), refl), refl), refl), refl) k zero-le (ltb-true k 8 t))
    (λ t. rw (le-ltb k 4 (omega (arith, ltb-false k 8 t)), t) tt)

-- ---- an instruction in a block

all_four : (a b c d : Bool) → (a && b && c && d) ≡ true → (a ≡ true) × (b ≡ true) × (c ≡ true) × (d ≡ true)
all_four a b c d h =
    let k = and_left (a && b && c) d h in
    let l = and_left (a && b) c k in
    (and_left a b l, and_right a b l, and_right (a && b) c k, and_right (a && b && c) d h)

abbrev block : ℕ → ℕ → ℕ → ℕ → ℕ → ℕ → ℕ → ℕ → List ℕ
block k r w p s x d y = k ∷ r ∷ w ∷ p ∷ s ∷ x ∷ d ∷ y ∷ []

module _ (r w p s x d y : ℕ) (i : Instruction) where
  row_words : (e : ShortEntry) → short_named e r x y ≡ Some i → block_of i (length_of i) ≡ block 1 r short_length 0 0 x 0 y
  row_words (short.Row q a b) e =
      by_test (eqb (short_listed q).base r)
      (λ t. rw (one i (instruction.Short (record { row = q; source = x; destination = y })) (simp t at e), eqb-true (short_listed q).base r t) refl)
      (λ t. no i (simp t at e))
  row_words f e = no i e

  short_words : short_in r w p s x d y ≡ Some i → block_of i (length_of i) ≡ block 1 r w p s x d y
  unfolding short_in
  short_words e = by_test (is_short r w p s d) held (λ t. no i (simp t at e))
    where
      held : is_short r w p s d ≡ true → block_of i (length_of i) ≡ block 1 r w p s x d y
      held t =
          let four = ltb r 0x8000 && eqb w short_length && eqb p 0 && eqb s 0 in
          let h = all_four (ltb r 0x8000) (eqb w short_length) (eqb p 0) (eqb s 0) (and_left four (eqb d 0) t) in
          rw (eqb-true w short_length h.1, eqb-true p 0 h.2, eqb-true s 0 h.3, eqb-true d 0 (and_right four (eqb d 0) t))
          (row_words (short_entry (short_of (r / 1024 % 32)) r) (simp t at e))

  both_words : (u : Wide) (e : DyadicEntry) → dyadics.RowThere e r → is_dyadic p s d ≡ true
      → dyadic_named e u p (operand_in s x) (operand_in d y) ≡ Some i → block_of i (length_of i) ≡ block 2 r (wide_length u + prefix_length (eqb p 1)) p s x d y
  both_words u (place.Row q v) t z e =
      let a = ltb p 2 && leb s 16 in
      let h = and_left a (leb d 16) z in
      let sm : s ≤ 16 = leb-true s 16 (and_right (ltb p 2) (leb s 16) h) in
      let dm : d ≤ 16 = leb-true d 16 (and_right a (leb d 16) z) in
      rw (
        one i (instruction.Dyadic (record { row = q; wide = u; prefix = eqb p 1; source = operand_in s x; destination = operand_in d y })) e,
        t.0,
        prefix_word p (ltb-true p 2 (and_left (ltb p 2) (leb s 16) h)),
        mode_word s x sm,
        raw_word s x,
        mode_word d y dm,
        raw_word d y,
      )
      refl
  both_words u f t z e = no i e

  dyadic_words : (u : Wide) → dyadic_in u r p s x d y ≡ Some i → block_of i (length_of i) ≡ block 2 r (wide_length u + prefix_length (eqb p 1)) p s x d y
  unfolding dyadic_in
  dyadic_words u e = by_test (is_dyadic p s d) (λ t. both_words u (dyadic_of r) (dyadic_there r) t (simp t at e)) (λ t. no i (simp t at e))

  single_words : (e : MonadicEntry) (f : Option MonadicMode) → monadics.RowThere e r → Word f s → is_monadic w p d y ≡ true
      → monadic_named e p f x ≡ Some i → block_of i (length_of i) ≡ block 3 r w p s x d y
  single_words (place.Row q u) (Some m) t k z e =
      let h = all_four (length_agrees Three w p) (ltb p 2) (eqb d 0) (eqb y 0) z in
      rw (
        one i (instruction.Monadic (record { row = q; prefix = eqb p 1; mode = m; value = x })) e,
        t.0,
        eqb-true w (wide_length Three + prefix_length (eqb p 1)) h.0,
        prefix_word p (ltb-true p 2 h.1),
        k,
        eqb-true d 0 h.2,
        eqb-true y 0 h.3,
      )
      refl
  single_words g f t k z e = no i e

  monadic_words : monadic_in r w p s x d y ≡ Some i → block_of i (length_of i) ≡ block 3 r w p s x d y
  unfolding monadic_in
  monadic_words e =
      by_test (is_monadic w p d y)
      (λ t. single_words (monadic_of r) (monadic_mode_in s) (monadic_there r) (single_word s) t (simp t at e))
      (λ t. no i (simp t at e))

  -- a dyadic of so many parcels
  of_length : (k : ℕ) (u : Wide) → (eqb k 2 && length_agrees u w p) ≡ true → dyadic_in u r p s x d y ≡ Some i → block_of i (length_of i) ≡ block k r w p s x d y
  of_length k u t e =
      let l : w ≡ wide_length u + prefix_length (eqb p 1) = eqb-true w _ (and_right (eqb k 2) (length_agrees u w p) t) in
      rw (eqb-true k 2 (and_left (eqb k 2) (length_agrees u w p) t), l) (dyadic_words u e)

  kind_words : (k : ℕ) → kind_in k r w p s x d y ≡ Some i → block_of i (length_of i) ≡ block k r w p s x d y
  unfolding kind_in
  kind_words k e =
      by_test (eqb k 1)
      (λ t. rw (eqb-true k 1 t) (short_words (simp t at e)))
      (λ t. by_test (eqb k 2 && length_agrees Three w p)
      (λ u. of_length k Three u (simp (t, u) at e))
      (λ u. by_test (eqb k 2 && length_agrees Five w p)
      (λ v. of_length k Five v (simp (t, u, v) at e))
      (λ v. by_test (eqb k 3)
      (λ z. rw (eqb-true k 3 z) (monadic_words (simp (t, u, v, z) at e)))
      (λ z. no i (simp (t, u, v, z) at e)))))

-- the eight words of a list, as a block
abbrev block_in : List ℕ → List ℕ
block_in b = block (get_or b 0 0) (get_or b 1 0) (get_or b 2 0) (get_or b 3 0) (get_or b 4 0) (get_or b 5 0) (get_or b 6 0) (get_or b 7 0)

eight : (b : List ℕ) → length b ≡ 8 → block_in b ≡ b
eight b h =
    ext_get_or 0 (block_in b) b (sym h)
    (λ k l. within (λ n. get_or (block_in b) n 0 ≡ get_or b n 0) 0 8 ((((((((tt, refl), refl), refl), refl), refl), refl), refl), refl) k zero-le l)

pub block_named : (b : List ℕ) (i : Instruction) → instruction_in b ≡ Some i → b ≡ block_of i (length_of i)
unfolding instruction_in
block_named b i e =
    by_test (eqb (length b) 8)
    (λ t. sym (kind_words _ _ _ _ _ _ _ i _ (simp t at e) ∙ eight b (eqb-true (length b) 8 t)))
    (λ t. no i (simp t at e))
