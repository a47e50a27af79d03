-- The record of a frame: its checksum, its bytes printed, and its length.
-- Assumes nothing.
use Rattle.std.proofs.Common.{◌≡◌, ℕ, ◌+◌, ◌-◌, ◌/◌, ◌%◌, ◌<◌, ◌≤◌, Bool, true, false, leb, List, [], ◌∷◌, ◌++◌, length, drop, sym, refl, ap, ◌∙◌, mod-eq_of_lt, arith, length-append, length-drop, leb-true}
use Rattle.hex_digits.specs.Digits.{digits}
use Rattle.hex_digits.specs.Output.{Output, newline, printed}
use Rattle.hex_digits.proofs.DigitLaws.{number_digits}
use Rattle.hex_digits.proofs.OutputLaws.{on_printed, left_out}
use Rattle.board_lines.specs.Lines.{is_length}
use Rattle.board_lines.specs.Stores.{byte_count}
use Rattle.board_lines.proofs.DigitLaws.{number_2}
use Rattle.board_lines.proofs.FrameLaws.{FrameLength, frame_length}
use Rattle.records_lines.specs.Records.{digit_bytes, byte_sum, checksum_of}
use Rattle.records_lines.specs.Conversions.{frame_body, store_record}
use Rattle.records_lines.proofs.RecordLaws.{rest, rest_is}

-- address, data and checksum have as many bytes as the frame
count_is : (s : List ℕ) → FrameLength (length s) → length s / 2 ≡ byte_count s + 5
count_is s z = omega (arith, z.least)

-- ---- the checksum

module _ (c : ℕ) (d : List ℕ) (h : c < 256) where
  count_byte : digit_bytes (digits 2 c ++ d) ≡ c ∷ digit_bytes d
  unfolding digit_bytes
  count_byte =
      ap (λ (x : ℕ). x ∷ digit_bytes d) (sym (number_2 (digits 2 c ++ d) 0) ∙ number_digits 2 c [] d ∙ mod-eq_of_lt h)

  count_sum : byte_sum (digit_bytes (digits 2 c ++ d)) ≡ c + byte_sum (digit_bytes d)
  unfolding byte_sum
  count_sum = ap byte_sum count_byte

sum_is : (s : List ℕ) (k : ℕ) → FrameLength (length s) → k ≡ 255 - (length s / 2 + byte_sum (digit_bytes (rest s))) % 256
    → k ≡ checksum_of (frame_body s)
sum_is s k z e =
    let c = length s / 2 in
    e
    ∙ ap (λ (d : List ℕ). 255 - (c + byte_sum (digit_bytes d)) % 256) (rest_is s)
    ∙ ap (λ (n : ℕ). 255 - n % 256) (sym (count_sum c (drop 2 s) (omega (arith, z.most))))
    ∙ ap (λ (n : ℕ). checksum_of (digits 2 n ++ drop 2 s)) (count_is s z)

-- ---- the record, with its newline

abbrev record_text : List ℕ → List ℕ
record_text s = store_record s ++ newline ∷ []

pub length_record : (s : List ℕ) → 2 ≤ length s → length (store_record s) ≡ length s + 4
length_record s h =
    omega (
      arith,
      length-append (frame_body s) (digits 2 (checksum_of (frame_body s))),
      length-append (digits 2 (byte_count s + 5)) (drop 2 s),
      length-drop 2 s,
    )

module _ (o : Output) (s : List ℕ) (i : is_length (length s) ≡ true) (t : Bool) (g : t ≡ leb (o.place + (length s + 5)) (length o.bytes)) where
  pub record_put : (u v w x y : Output) (c k : ℕ) → t ≡ true → u ≡ printed (83 ∷ 51 ∷ []) o → c ≡ length s / 2 → v ≡ printed (digits 2 c) u
      → w ≡ printed (rest s) v → k ≡ 255 - (length s / 2 + byte_sum (digit_bytes (rest s))) % 256 → x ≡ printed (digits 2 k) w
      → y ≡ printed (newline ∷ []) x → y ≡ printed (record_text s) o
  record_put u v w x y c k h e₁ ec e₂ e₃ ek e₄ e₅ =
      let q = frame_length (length s) i in
      let n : ℕ = length s in
      let m : ℕ = n / 2 in
      let d : List ℕ = drop 2 s in
      let r = leb-true _ _ (sym g ∙ h) in
      let body : List ℕ = digits 2 m ++ d in
      let ld : n - 2 ≡ length d = sym (length-drop 2 s) in
      let long : n ≡ length body = omega (arith, length-append (digits 2 m) d, length-drop 2 s, q.least) in
      let z = on_printed (83 ∷ 51 ∷ []) (digits 2 m) o u v 2 2 refl refl (omega (arith, r, q.least)) e₁ (e₂ ∙ ap (λ (j : ℕ). printed (digits 2 j) u) ec) in
      let z = on_printed (83 ∷ 51 ∷ digits 2 m) d o v w 4 (n - 2) refl ld (omega (arith, r, q.least)) z (e₃ ∙ ap (λ (l : List ℕ). printed l v) (rest_is s)) in
      let z = on_printed (83 ∷ 51 ∷ body) (digits 2 k) o w x (2 + n) 2 (omega (arith, long)) refl (omega (arith, r, q.least)) z e₄ in
      let l : 4 + n ≡ length (83 ∷ 51 ∷ (body ++ digits 2 k)) = omega (arith, long, length-append body (digits 2 k)) in
      on_printed (83 ∷ 51 ∷ (body ++ digits 2 k)) (newline ∷ []) o x y (4 + n) 1 l refl (omega (arith, r)) z e₅
      ∙ (λ j. printed ((83 ∷ 51 ∷ ((digits 2 (count_is s q j) ++ d) ++ digits 2 (sum_is s k q ek j))) ++ newline ∷ []) o)

  pub record_left : t ≡ false → o ≡ printed (record_text s) o
  record_left h =
      let l = (frame_length (length s) i).least in
      left_out (record_text s) o.bytes o.place (length s + 5) t
      (omega (arith, length-append (store_record s) (newline ∷ []), length_record s (omega arith))) g h
