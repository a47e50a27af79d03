-- The parcels that are set apart are of opcode 0.
-- Assumes nothing.
use Prim.Native.Nat.{ℕ, ◌<◌}
use mathlib.Core.Path.{◌≡◌, refl}
use mathlib.Core.Bool.{Bool, true, false}
use Rattle.word.proofs.ListLaws.{all_below, contains_below}
use Rattle.form_bit.specs.SetApart.{set_apart, is_set_apart}

bytes_below : (pre : Bool) → all_below 0x100 (set_apart pre) ≡ true
bytes_below true = refl
bytes_below false = refl

pub set_apart_below : (pre : Bool) (q : ℕ) → is_set_apart pre q ≡ true → q < 0x100
set_apart_below pre q e = contains_below 0x100 q (set_apart pre) (bytes_below pre) e
