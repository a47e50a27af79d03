-- Memory with loaded bytes: what a frame of kind 02 stores is what it loads.
-- Assumes nothing.
use mathlib.Core.Path.{◌≡◌, refl, sym, ap, ◌∙◌}
use mathlib.Core.List.{List, [], ◌∷◌, ◌++◌}
use Prim.Native.Nat.{ℕ, zero, suc, ◌+◌, ◌-◌, ◌*◌, ◌%◌, ◌^◌, ◌≤◌, ◌<◌}
use native.Mathlib.Nat.{mod-eq_of_lt}
use native.Mathlib.Omega.{arith}
use lib.ListN.{length, get_or, set, take, drop, length-set, length-drop}
use lib.Seq.{take-suc, take_all, length-take-le}
use Rattle.hex_digits.specs.Digits.{number_at}
use Rattle.hex_digits.proofs.NumberLaws.{number_drop}
use Rattle.board_lines.specs.Stores.{byte_count, bytes_stored}
use Rattle.records_lines.specs.Records.{digit_bytes}
use Rattle.records_roundtrip.specs.Loads.{LoadedByte, loads_from}
use Rattle.records_roundtrip.specs.BoardMemory.{loaded}
use Rattle.records_roundtrip.proofs.ByteLaws.{length_bytes, byte_at_law}
use Rattle.records_roundtrip.proofs.LoadLaws.{loads_append}

pub length_loaded : (l : List LoadedByte) (m : List ℕ) → length (loaded l m) ≡ length m
length_loaded [] m = refl
length_loaded (x ∷ l) m = length_loaded l (set m x.address x.byte) ∙ length-set m x.address x.byte

pub loaded_append : (k l : List LoadedByte) (m : List ℕ) → loaded (k ++ l) m ≡ loaded l (loaded k m)
loaded_append [] l m = refl
loaded_append (x ∷ k) l m = loaded_append k l (set m x.address x.byte)

-- one byte more: below 2^32 its address is the sum
next_loaded : (a : ℕ) (x m : List ℕ) (b : ℕ) → a + length x < 2 ^ 32
    → loaded (loads_from a (x ++ b ∷ [])) m ≡ set (loaded (loads_from a x) m) (a + length x) b
unfolding loads_from
next_loaded a x m b h =
    ap (λ (l : List LoadedByte). loaded l m) (loads_append a x (b ∷ []) (omega arith))
    ∙ loaded_append (loads_from a x) (loads_from ((a + length x) % 2 ^ 32) (b ∷ [])) m
    ∙ ap (λ (k : ℕ). set (loaded (loads_from a x) m) k b) (mod-eq_of_lt h)

module _ (s m : List ℕ) (a : ℕ) (e : length s % 2 ≡ 0) (g : 10 ≤ length s) (h : a + byte_count s ≤ 2 ^ 32) where
  abbrev bytes : List ℕ
  bytes = digit_bytes (drop 10 s)

  length_is : length bytes ≡ byte_count s
  length_is =
      let n : length (drop 10 s) ≡ length s - 10 = length-drop 10 s in
      omega (arith, length_bytes (drop 10 s) (omega arith))

  -- the first k
  some_stored : (k : ℕ) → k ≤ byte_count s → bytes_stored k s m a ≡ loaded (loads_from a (take k bytes)) m
  unfolding loads_from
  some_stored zero u = refl
  some_stored (suc k) u =
      let n : length (drop 10 s) ≡ length s - 10 = length-drop 10 s in
      let l : length (take k bytes) ≡ k = length-take-le k bytes (omega (arith, length_is)) in
      let b : ℕ = get_or bytes k 0 in
      let f : number_at 2 s (10 + k * 2) ≡ b = sym (byte_at_law (drop 10 s) k (omega arith) ∙ number_drop 2 10 s (k * 2)) in
      sym (
      ap (λ (x : List ℕ). loaded (loads_from a x) m) (take-suc bytes k 0 (omega (arith, length_is)))
      ∙ next_loaded a (take k bytes) m b (omega arith)
      ∙ (λ i. set (sym (some_stored k (omega arith)) i) (a + l i) (sym f i))
      )

  pub frame_stored : bytes_stored (byte_count s) s m a ≡ loaded (loads_from a bytes) m
  frame_stored =
      some_stored (byte_count s) (omega arith)
      ∙ ap (λ (x : List ℕ). loaded (loads_from a x) m) (take_all (byte_count s) bytes (omega (arith, length_is)))
