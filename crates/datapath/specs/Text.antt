-- The text of an instruction: one to six parcels from PC, each fetched and translated by itself.
-- Assumes nothing.
use Rattle.std.specs.Prelude.{ℕ, zero, suc, cond, List, [], ◌∷◌, eqb}
use Rattle.word.specs.Sums.{plus_of}
use Rattle.isa.specs.declared.Text.{Text}
use Rattle.isa.specs.Lengths.{following}
use Rattle.isa.specs.Decode.{cpu_prefix, text_of}
use Rattle.access_spec.specs.Access.{fetch}
use Rattle.access_spec.specs.Program.{Program}
use Rattle.machine.specs.Registers.{pc}
use Rattle.machine.specs.Status.{Cpu, reg, regime}
use Rattle.datapath.specs.Parts.{Out, done, parcel_request, ◌>>=◌}

unfoldable pub fetch_parcel : Cpu → ℕ → Program (Out ℕ)
fetch_parcel c a = parcel_request c (fetch (regime c.bank) a)

-- n parcels from a on; addresses wrap
unfoldable pub fetch_parcels : Cpu → ℕ → ℕ → Program (Out (List ℕ))
fetch_parcels c a zero = done []
fetch_parcels c a (suc n) = do
  p ← fetch_parcel c a
  ps ← fetch_parcels c (plus_of a 2) n
  done (p ∷ ps)

unfoldable pub fetch_after : Cpu → ℕ → Program (Out Text)
fetch_after c p = do
  ps ← fetch_parcels c (plus_of (reg c pc) 2) (following p)
  done (text_of (p ∷ ps))

unfoldable pub fetch_prefixed : Cpu → Program (Out Text)
fetch_prefixed c = do
  p ← fetch_parcel c (plus_of (reg c pc) 2)
  ps ← fetch_parcels c (plus_of (reg c pc) 4) (following p)
  done (text_of (cpu_prefix ∷ p ∷ ps))

-- all parcels that the first one, or the one after a prefix, calls for
unfoldable pub fetch_text : Cpu → Program (Out Text)
fetch_text c = do
  p ← fetch_parcel c (reg c pc)
  cond (eqb p cpu_prefix) (fetch_prefixed c) (fetch_after c p)
