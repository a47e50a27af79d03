-- The frames of a record's data: one printed, and one after another.
-- Assumes nothing.
use Rattle.std.proofs.Common.{◌≡◌, ℕ, zero, suc, ◌+◌, ◌-◌, ◌*◌, ◌/◌, ◌%◌, ◌^◌, ◌<◌, ◌≤◌, min, Bool, true, leb, List, [], ◌∷◌, ◌++◌, length, take, drop, sym, refl, ap, ◌∙◌, arith, length-append, length-drop, take-append-drop, leb-true, le-leb}
use borrow.Rule.Slice.PartMut.{put_mid}
use Rattle.std.proofs.Math.Seq.{take-append_seam, drop-append_seam}
use Rattle.hex_digits.specs.Digits.{digits}
use Rattle.hex_digits.specs.Output.{Output, newline, output, printed}
use Rattle.hex_digits.proofs.OutputLaws.{length_written, room_printed, on_printed, printed_none, copied, buffer_filled}
use Rattle.lines.specs.Texts.{lines_text}
use Rattle.lines.proofs.CarryLaws.{least_is, least_take, least_drop}
use Rattle.records_lines.specs.Conversions.{store_frame, frames_from, frames_of}

-- ---- one frame

pub frame_put : (o w x y z : Output) (d : List ℕ) (v : ℕ) → o.place + length d + 11 ≤ length o.bytes → w ≡ printed (digits 2 2) o
    → x ≡ printed (digits 8 v) w → y ≡ printed d x → z ≡ printed (newline ∷ []) y → z ≡ printed (store_frame v d ++ newline ∷ []) o
frame_put o w x y z d v h e f g i =
    let q = on_printed (digits 2 2) (digits 8 v) o w x 2 8 refl refl (omega (arith, h)) e f in
    let q = on_printed (digits 2 2 ++ digits 8 v) d o x y 10 (length d) refl refl (omega (arith, h)) q g in
    let l : 10 + length d ≡ length (store_frame v d) = omega (arith, length-append (digits 2 2 ++ digits 8 v) d) in
    on_printed (store_frame v d) (newline ∷ []) o y z (10 + length d) 1 l refl (omega (arith, h)) q i

length_frame : (a : ℕ) (d : List ℕ) → length (store_frame a d ++ newline ∷ []) ≡ length d + 11
length_frame a d =
    omega (arith, length-append (digits 2 2 ++ digits 8 a ++ d) (newline ∷ []), length-append (digits 2 2 ++ digits 8 a) d)

pub frame_filled : (d : List ℕ) (v : ℕ) (o : List ℕ) (w x y z : Output) → length o ≡ length d + 11 → w ≡ printed (digits 2 2) (output o 0)
    → x ≡ printed (digits 8 v) w → y ≡ printed d x → z ≡ printed (newline ∷ []) y → z.bytes ≡ store_frame v d ++ newline ∷ []
frame_filled d v o w x y z h e f g i =
    buffer_filled (store_frame v d ++ newline ∷ []) o z (length_frame v d ∙ sym h) (frame_put (output o 0) w x y z d v (omega (arith, h)) e f g i)

pub frame_placed : (o : Output) (d : List ℕ) (v : ℕ) (y x : List ℕ) → o.place + length d + 11 ≤ length o.bytes → y ≡ store_frame v d ++ newline ∷ []
    → x ≡ put_mid o.place (o.place + length d + 11 - o.place) o.bytes y
    → output x (o.place + length d + 11) ≡ printed (store_frame v d ++ newline ∷ []) o
frame_placed o d v y x h e f =
    let t = store_frame v d ++ newline ∷ [] in
    let n : o.place + length t ≡ o.place + length d + 11 = omega (arith, length_frame v d) in
    let k : o.place + length t ≤ length o.bytes = omega (arith, n, h) in
    sym (ap (output x) n)
    ∙ copied t o.bytes y x o.place true (sym (le-leb (o.place + length t) (length o.bytes) k)) refl e
    (f ∙ ap (λ (j : ℕ). put_mid o.place (j - o.place) o.bytes y) (sym n))

-- ---- the frames of digits

abbrev pub frames_text : ℕ → List ℕ → List ℕ
frames_text a d = lines_text (frames_of a d)

no_frames : (a : ℕ) (d : List ℕ) → length d ≡ 0 → frames_text a d ≡ []
unfolding frames_from lines_text
no_frames a d h = let e : (length d + 63) / 64 ≡ 0 = omega arith in rw e refl

first_frame : (a : ℕ) (d : List ℕ) → 0 < length d
    → frames_text a d ≡ (store_frame a (take 64 d) ++ newline ∷ []) ++ frames_text ((a + 32) % 2 ^ 32) (drop 64 d)
unfolding frames_from lines_text
first_frame a d h =
    let e : (length d + 63) / 64 ≡ suc ((length (drop 64 d) + 63) / 64) = omega (arith, length-drop 64 d) in
    rw e refl

length_from : (n a : ℕ) (d : List ℕ) → length d ≤ n * 64 → length (lines_text (frames_from n a d)) ≡ length d + n * 11
unfolding frames_from lines_text
length_from zero a d h = omega arith
length_from (suc n) a d h =
    let b = (a + 32) % 2 ^ 32 in
    let l : length (drop 64 d) ≤ n * 64 = omega (arith, length-drop 64 d) in
    omega (
      arith,
      length-append (store_frame a (take 64 d) ++ newline ∷ []) (lines_text (frames_from n b (drop 64 d))),
      length_frame a (take 64 d),
      length_from n b (drop 64 d) l,
      sym (length-append (take 64 d) (drop 64 d)) ∙ ap length (take-append-drop 64 d),
    )

pub length_frames : (a : ℕ) (d : List ℕ) → length d + (length d + 63) / 64 * 11 ≡ length (frames_text a d)
length_frames a d = sym (length_from ((length d + 63) / 64) a d (omega arith))

-- ---- one after another

-- what is left to print makes the whole
pub record Framing (o : Output) (v : ℕ) (s : List ℕ) (x : Output) (a : ℕ) (rest : List ℕ) : Type 0 where
  pub room : x.place + length (frames_text a rest) ≤ length x.bytes
  pub prints : printed (frames_text a rest) x ≡ printed (frames_text v s) o

module _ (o : Output) (v : ℕ) (s : List ℕ) where
  pub framing_none : (rest : List ℕ) → rest ≡ s → o.place + length (frames_text v s) ≤ length o.bytes → Framing o v s o v rest
  framing_none rest e h = rw e (record { room = h; prints = refl })

  module _ (x : Output) (a : ℕ) (rest : List ℕ) (r : Framing o v s x a rest) where
    pub framing_all : length rest ≡ 0 → x ≡ printed (frames_text v s) o
    framing_all h = sym (printed_none x) ∙ ap (λ (t : List ℕ). printed t x) (sym (no_frames a rest h)) ∙ r.prints

    module _ (part more : List ℕ) (e : rest ≡ part ++ more) (l : length part ≡ min 64 (length rest)) (h : 0 < length rest) where
      abbrev frame : List ℕ
      frame = store_frame a part ++ newline ∷ []

      left_is : frames_text a rest ≡ frame ++ frames_text ((a + 32) % 2 ^ 32) more
      left_is =
          let k = least_is 64 (length rest) (length part) l in
          let t : take 64 rest ≡ part = sym (least_take 64 rest (length part) k) ∙ ap (take (length part)) e ∙ take-append_seam part more in
          let d : drop 64 rest ≡ more = sym (least_drop 64 rest (length part) k) ∙ ap (drop (length part)) e ∙ drop-append_seam part more in
          first_frame a rest h ∙ (λ j. (store_frame a (t j) ++ newline ∷ []) ++ frames_text ((a + 32) % 2 ^ 32) (d j))

      left_long : length (frames_text a rest) ≡ length part + 11 + length (frames_text ((a + 32) % 2 ^ 32) more)
      left_long = omega (arith, ap length left_is, length-append frame (frames_text ((a + 32) % 2 ^ 32) more), length_frame a part)

      pub framing_room : x.place + length part + 11 ≤ length x.bytes
      framing_room = omega (arith, left_long, r.room)

      pub framing_more : (y : Output) (b : ℕ) → y ≡ printed frame x → b ≡ (a + 32) % 2 ^ 32 → Framing o v s y b more
      framing_more y b f g =
          let t = frames_text ((a + 32) % 2 ^ 32) more in
          let i : x.place + length frame ≤ length x.bytes = omega (arith, length_frame a part, framing_room) in
          let q = room_printed frame x.bytes x.place i in
          let z = f ∙ q in
          rw g
          (record {
            room = omega (arith, ap (λ (u : Output). u.place) z, ap (λ (u : Output). length u.bytes) z, length_written frame x.bytes x.place, left_long, r.room, length_frame a part);
            prints =
                on_printed frame t x y (printed t y) (length frame) (length t) refl refl (omega (arith, left_long, r.room, length_frame a part)) f refl
                ∙ ap (λ (u : List ℕ). printed u x) (sym left_is)
                ∙ r.prints;
          })

-- ---- all of them, or none

module _ (o : Output) (a : ℕ) (d : List ℕ) (n : ℕ) (e : n ≡ length d + (length d + 63) / 64 * 11) (t : Bool) (g : t ≡ leb (o.place + n) (length o.bytes)) where
  pub frames_room : t ≡ true → o.place + length (frames_text a d) ≤ length o.bytes
  frames_room h = omega (arith, length_frames a d, e, leb-true _ _ (sym g ∙ h))
