-- Bytes that are loaded: those of bytes in two parts, and of lines in two parts.
-- Assumes nothing.
use mathlib.Core.Path.{◌≡◌, refl, sym, ap, ◌∙◌}
use mathlib.Core.List.{List, [], ◌∷◌, ◌++◌, append_assoc}
use Prim.Native.Nat.{ℕ, suc, ◌+◌, ◌%◌, ◌^◌, ◌<◌}
use native.Mathlib.Nat.{mod-lt}
use native.Mathlib.Omega.{arith}
use lib.ListN.{length}
use Rattle.records_roundtrip.specs.Loads.{LoadedByte, loaded_byte, loads_from, loads_over}

-- an address that is below 2^32 is taken as it is
pub loads_append : (a : ℕ) (x y : List ℕ) → a < 2 ^ 32 → loads_from a (x ++ y) ≡ loads_from a x ++ loads_from ((a + length x) % 2 ^ 32) y
unfolding loads_from
loads_append a [] y h = let e : a ≡ (a + 0) % 2 ^ 32 = omega arith in ap (λ (k : ℕ). loads_from k y) e
loads_append a (b ∷ x) y h =
    let k : ℕ = (a + 1) % 2 ^ 32 in
    let e : (k + length x) % 2 ^ 32 ≡ (a + suc (length x)) % 2 ^ 32 = omega arith in
    ap (λ (l : List LoadedByte). loaded_byte a b ∷ l)
    (loads_append k x y (mod-lt (a + 1) (omega arith)) ∙ ap (λ (j : ℕ). loads_from k x ++ loads_from j y) e)

pub over_append : (f : List ℕ → List LoadedByte) (l m : List (List ℕ)) → loads_over f (l ++ m) ≡ loads_over f l ++ loads_over f m
over_append f [] m = refl
over_append f (s ∷ l) m =
    ap (λ (x : List LoadedByte). f s ++ x) (over_append f l m) ∙ sym (append_assoc (f s) (loads_over f l) (loads_over f m))
