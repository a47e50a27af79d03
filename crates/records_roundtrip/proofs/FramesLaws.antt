-- The frames of a record's data: each is of kind 02, and together they load the data.
-- Assumes nothing.
use mathlib.Core.Path.{◌≡◌, refl, sym, ap, ◌∙◌}
use mathlib.Core.Bool.{true}
use mathlib.Core.List.{List, [], ◌∷◌, ◌++◌}
use Prim.Native.Nat.{ℕ, zero, suc, min, ◌+◌, ◌-◌, ◌*◌, ◌%◌, ◌^◌, ◌≤◌, ◌<◌}
use native.Mathlib.Nat.{mod-lt}
use native.Mathlib.Omega.{arith}
use lib.ListN.{length, take, drop, take-append-drop, length-take, length-drop, drop_of_length-le}
use lib.Seq.{length-take-le}
use lib.Dec.{leb}
use borrow.Author.Tests.{leb-true, leb-false}
use Rattle.word.proofs.CaseLaws.{by_test}
use Rattle.word.proofs.ListLaws.{Each, no_others, ◌also◌}
use Rattle.hex_digits.specs.Digits.{all_digits}
use Rattle.hex_digits.proofs.NumberLaws.{all_take, all_drop}
use Rattle.board_lines.proofs.FrameLaws.{StoreForm}
use Rattle.records_lines.specs.Records.{digit_bytes}
use Rattle.records_lines.specs.Conversions.{frames_from, frame_count, frames_of}
use Rattle.records_roundtrip.specs.Loads.{LoadedByte, loads_from, frame_loads, loads_over}
use Rattle.records_roundtrip.proofs.ByteLaws.{length_bytes, bytes_append}
use Rattle.records_roundtrip.proofs.LoadLaws.{loads_append}
use Rattle.records_roundtrip.proofs.StoreFrameLaws.{frame_address, frame_storing}

-- ---- as many as are needed and no more: none is empty

frames_storing : (n a : ℕ) (d : List ℕ) → n * 64 < length d + 64 → length d % 2 ≡ 0 → all_digits d ≡ true → Each StoreForm (frames_from n a d)
unfolding frames_from
frames_storing zero a d h e f = no_others
frames_storing (suc n) a d h e f =
    let front : length (take 64 d) ≡ min 64 (length d) = length-take 64 d in
    let rest : length (drop 64 d) ≡ length d - 64 = length-drop 64 d in
    frame_storing a (take 64 d) (omega arith) (omega arith) (omega arith) (all_take 64 d f)
    also frames_storing n ((a + 32) % 2 ^ 32) (drop 64 d) (omega arith) (omega arith) (all_drop 64 d f)

-- ---- what they load

-- of the first 64 digits and of the others: the address of these matters only where there are any
next_address : (a : ℕ) (d : List ℕ) → length d % 2 ≡ 0
    → loads_from ((a + length (digit_bytes (take 64 d))) % 2 ^ 32) (digit_bytes (drop 64 d))
    ≡ loads_from ((a + 32) % 2 ^ 32) (digit_bytes (drop 64 d))
unfolding loads_from digit_bytes
next_address a d e =
    by_test (leb 64 (length d))
    (λ l. let front : length (take 64 d) ≡ 64 = length-take-le 64 d (leb-true 64 (length d) l) in
    let size : length (digit_bytes (take 64 d)) ≡ 32 = omega (arith, length_bytes (take 64 d) (omega arith)) in
    ap (λ (k : ℕ). loads_from ((a + k) % 2 ^ 32) (digit_bytes (drop 64 d))) size)
    (λ l. let none : drop 64 d ≡ [] = drop_of_length-le d {i = 64} (omega (arith, leb-false 64 (length d) l)) in rw none refl)

parts_load : (a : ℕ) (d : List ℕ) → a < 2 ^ 32 → length d % 2 ≡ 0
    → loads_from a (digit_bytes (take 64 d)) ++ loads_from ((a + 32) % 2 ^ 32) (digit_bytes (drop 64 d)) ≡ loads_from a (digit_bytes d)
parts_load a d h e =
    let front : length (take 64 d) % 2 ≡ 0 = omega (arith, length-take 64 d) in
    ap (λ (l : List LoadedByte). loads_from a (digit_bytes (take 64 d)) ++ l) (sym (next_address a d e))
    ∙ sym (loads_append a (digit_bytes (take 64 d)) (digit_bytes (drop 64 d)) h)
    ∙ ap (loads_from a) (sym (bytes_append (take 64 d) (drop 64 d) front) ∙ ap digit_bytes (take-append-drop 64 d))

frames_load : (n a : ℕ) (d : List ℕ) → length d ≤ n * 64 → a < 2 ^ 32 → length d % 2 ≡ 0
    → loads_over frame_loads (frames_from n a d) ≡ loads_from a (digit_bytes d)
unfolding frames_from loads_from digit_bytes
frames_load zero a [] g h e = refl
frames_load zero a (x ∷ d) g h e = absurd (omega arith)
frames_load (suc n) a d g h e =
    let rest : length (drop 64 d) ≡ length d - 64 = length-drop 64 d in
    (λ i. loads_from (frame_address a (take 64 d) h i) (digit_bytes (take 64 d))
    ++ frames_load n ((a + 32) % 2 ^ 32) (drop 64 d) (omega arith) (mod-lt (a + 32) (omega arith)) (omega arith) i)
    ∙ parts_load a d h e

-- ---- all of a record's

module _ (a : ℕ) (d : List ℕ) (e : length d % 2 ≡ 0) where
  pub all_storing : all_digits d ≡ true → Each StoreForm (frames_of a d)
  all_storing f = frames_storing (frame_count d) a d (omega arith) e f

  pub all_load : a < 2 ^ 32 → loads_over frame_loads (frames_of a d) ≡ loads_from a (digit_bytes d)
  all_load h = frames_load (frame_count d) a d (omega arith) h e
