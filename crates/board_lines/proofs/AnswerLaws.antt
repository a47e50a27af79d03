-- The lines that are printed, part after part.
-- Assumes nothing.
use Rattle.std.proofs.Common.{◌≡◌, ℕ, zero, suc, ◌+◌, ◌-◌, ◌≤◌, Bool, true, false, leb, List, [], ◌∷◌, ◌++◌, length, sym, refl, ap, ◌∙◌, arith, leb-true, le-leb}
use borrow.Rule.Slice.PartMut.{put_mid}
use Rattle.hex_digits.specs.Digits.{digits}
use Rattle.hex_digits.specs.Output.{Output, output, written, printed}
use Rattle.hex_digits.proofs.OutputLaws.{copied, on_printed, room_printed, left_out, buffer_filled}
use Rattle.board_lines.specs.Answers.{refused_line, unless_done, ran_line}
use Rattle.board_lines.specs.Totals.{totals_line}
use Rattle.board_lines.specs.Printouts.{Tally, totals_at, Printout, printout, totalled, refusal_added, run_added, tallied}
use Rattle.board_lines.proofs.TotalsLaws.{refused_added, ran_added, tallied_whole, tallied_left, tallied_none}

module _ (o : Output) (t : Bool) where
  -- 82
  module _ (r l : ℕ) (g : t ≡ leb (o.place + 13) (length o.bytes)) where
    -- part after part
    pub refusal_put : (a b c d : Output) → t ≡ true → a ≡ printed (digits 2 0x82) o → b ≡ printed (digits 2 r) a
        → c ≡ printed (digits 8 l) b → d ≡ printed (10 ∷ []) c → d ≡ printed (refused_line r l) o
    refusal_put a b c d h e f i j =
        let k = leb-true _ _ (sym g ∙ h) in
        let q = on_printed (digits 2 0x82) (digits 2 r) o a b 2 2 refl refl (omega (arith, k)) e f in
        let q = on_printed (digits 2 0x82 ++ digits 2 r) (digits 8 l) o b c 4 8 refl refl (omega (arith, k)) q i in
        on_printed (digits 2 0x82 ++ digits 2 r ++ digits 8 l) (10 ∷ []) o c d 12 1 refl refl (omega (arith, k)) q j

    -- from a buffer of its size
    pub refusal_copied : (y x : List ℕ) → t ≡ true → y ≡ refused_line r l → x ≡ put_mid o.place (o.place + 13 - o.place) o.bytes y
        → output x (o.place + 13) ≡ printed (refused_line r l) o
    refusal_copied y x h e f = copied (refused_line r l) o.bytes y x o.place t g h e f

    pub refusal_left : t ≡ false → o ≡ printed (refused_line r l) o
    refusal_left h = left_out (refused_line r l) o.bytes o.place 13 t refl g h

    module _ (k : Tally) where
      pub refused_put : (x : Output) (c : Tally) → t ≡ true → x ≡ printed (refused_line r l) o → c ≡ refusal_added k
          → printout x c ≡ tallied (refused_line r l) (printout o k)
      refused_put x c h e f = tallied_whole (refused_line r l) (printout o k) 13 t refl g x c h e (f ∙ sym (refused_added r l k))

      pub refused_left : t ≡ false → printout o k ≡ tallied (refused_line r l) (printout o k)
      refused_left h = tallied_left (refused_line r l) (printout o k) 13 t refl g h

  -- 83
  module _ (k : Tally) (n a b c d : ℕ) (g : t ≡ leb (o.place + 31) (length o.bytes)) where
    pub ran_put : (y x : List ℕ) (m : Tally) → t ≡ true → y ≡ ran_line n a b c d → x ≡ put_mid o.place (o.place + 31 - o.place) o.bytes y
        → m ≡ run_added n a k → printout (output x (o.place + 31)) m ≡ tallied (ran_line n a b c d) (printout o k)
    ran_put y x m h e f l =
        let s = ran_line n a b c d in
        tallied_whole s (printout o k) 31 t refl g _ m h (copied s o.bytes y x o.place t g h e f) (l ∙ sym (ran_added n a b c d k))

    pub ran_left : t ≡ false → printout o k ≡ tallied (ran_line n a b c d) (printout o k)
    ran_left h = tallied_left (ran_line n a b c d) (printout o k) 31 t refl g h

  -- 8F
  module _ (k : Tally) (g : t ≡ leb (o.place + 27) (length o.bytes)) where
    pub totals_put : (v w x y z : Output) → t ≡ true → v ≡ printed (digits 2 0x8F) o → w ≡ printed (digits 8 k.runs) v
        → x ≡ printed (digits 8 k.steps) w → y ≡ printed (digits 8 k.refused) x → z ≡ printed (10 ∷ []) y
        → printout z k ≡ totalled (printout o k)
    totals_put v w x y z h f₁ f₂ f₃ f₄ f₅ =
        let i = leb-true _ _ (sym g ∙ h) in
        let q = on_printed (digits 2 0x8F) (digits 8 k.runs) o v w 2 8 refl refl (omega (arith, i)) f₁ f₂ in
        let q = on_printed (digits 2 0x8F ++ digits 8 k.runs) (digits 8 k.steps) o w x 10 8 refl refl (omega (arith, i)) q f₃ in
        let q = on_printed (digits 2 0x8F ++ digits 8 k.runs ++ digits 8 k.steps) (digits 8 k.refused) o x y 18 8 refl refl (omega (arith, i)) q f₄ in
        ap (λ (s : Output). printout s k)
        (on_printed (digits 2 0x8F ++ digits 8 k.runs ++ digits 8 k.steps ++ digits 8 k.refused) (10 ∷ []) o y z 26 1 refl refl (omega (arith, i)) q f₅)

    pub totals_left : t ≡ false → printout o k ≡ totalled (printout o k)
    totals_left h = ap (λ (s : Output). printout s k) (left_out (totals_line (totals_at k)) o.bytes o.place 27 t refl g h)

-- ---- what a number refuses

module _ (o : List ℕ) (p : ℕ) (k : Tally) where
  pub refused_in_law : (w : List ℕ) (t : Tally) (r l : ℕ) → p + 13 ≤ length o → w ≡ written o p (refused_line r l) → t ≡ refusal_added k
      → printout (output w (p + 13)) t ≡ tallied (refused_line r l) (printout (output o p) k)
  refused_in_law w t r l h e d =
      let fits : output w (p + 13) ≡ printed (refused_line r l) (output o p) =
      ap (λ (x : List ℕ). output x (p + 13)) e ∙ sym (room_printed (refused_line r l) o p h) in
      tallied_whole (refused_line r l) (printout (output o p) k) 13 true refl (sym (le-leb (p + 13) (length o) h)) (output w (p + 13)) t refl fits
      (d ∙ sym (refused_added r l k))

  pub unless_done_law : (n r : ℕ) → r ≡ 0 → printout (output o p) k ≡ tallied (unless_done n r) (printout (output o p) k)
  unless_done_law n r e = rw e (sym (tallied_none (printout (output o p) k)))

pub unless_refused_law : (n r : ℕ) (q x : Printout) → (r ≡ 0 → ⊥) → x ≡ tallied (refused_line r n) q → x ≡ tallied (unless_done n r) q
unless_refused_law n zero q x h e = absurd (h refl)
unless_refused_law n (suc r) q x h e = e

-- ---- a line by itself

pub refused_filled : (r l : ℕ) (o : List ℕ) (u v w e : Output) → length o ≡ 13 → u ≡ printed (digits 2 0x82) (output o 0)
    → v ≡ printed (digits 2 r) u → w ≡ printed (digits 8 l) v → e ≡ printed (10 ∷ []) w → e.bytes ≡ refused_line r l
refused_filled r l o u v w e i f₁ f₂ f₃ f₄ =
    let room : true ≡ leb 13 (length o) = sym (le-leb 13 (length o) (omega (arith, i))) in
    buffer_filled (refused_line r l) o e (sym i) (refusal_put (output o 0) true r l room u v w e refl f₁ f₂ f₃ f₄)

pub ran_filled : (n a b c d : ℕ) (o : List ℕ) (u v w x y z e : Output) → length o ≡ 31 → u ≡ printed (digits 2 0x83) (output o 0)
    → v ≡ printed (digits 8 n) u → w ≡ printed (digits 2 a) v → x ≡ printed (digits 2 b) w → y ≡ printed (digits 8 c) x
    → z ≡ printed (digits 8 d) y → e ≡ printed (10 ∷ []) z → e.bytes ≡ ran_line n a b c d
ran_filled n a b c d o u v w x y z e i f₁ f₂ f₃ f₄ f₅ f₆ f₇ =
    let s : Output = output o 0 in
    let q = on_printed (digits 2 0x83) (digits 8 n) s u v 2 8 refl refl (omega (arith, i)) f₁ f₂ in
    let q = on_printed (digits 2 0x83 ++ digits 8 n) (digits 2 a) s v w 10 2 refl refl (omega (arith, i)) q f₃ in
    let q = on_printed (digits 2 0x83 ++ digits 8 n ++ digits 2 a) (digits 2 b) s w x 12 2 refl refl (omega (arith, i)) q f₄ in
    let q = on_printed (digits 2 0x83 ++ digits 8 n ++ digits 2 a ++ digits 2 b) (digits 8 c) s x y 14 8 refl refl (omega (arith, i)) q f₅ in
    let q = on_printed (digits 2 0x83 ++ digits 8 n ++ digits 2 a ++ digits 2 b ++ digits 8 c) (digits 8 d) s y z 22 8 refl refl (omega (arith, i)) q f₆ in
    let q = on_printed (digits 2 0x83 ++ digits 8 n ++ digits 2 a ++ digits 2 b ++ digits 8 c ++ digits 8 d) (10 ∷ []) s z e 30 1 refl refl (omega (arith, i)) q f₇ in
    buffer_filled (ran_line n a b c d) o e (sym i) q
