-- The text that a step fetched has exactly as many parcels as the decoder's answer carries (request (g)), whatever a world answers
-- to the fetches: the next address in line is where it ends. It is never cut short.
-- Assumes nothing.
use Rattle.std.specs.Prelude.{◌≡◌, Ok, Err}
use Rattle.isa.specs.declared.Text.{Text}
use Rattle.isa.specs.declared.Undecoded.TheVariants.{Illegal, Unimplemented, Truncated}
use Rattle.isa.specs.Decode.{decode_of}
use Rattle.access_spec.specs.Program.{Handler, interpret}
use Rattle.machine.specs.Status.{Cpu}
use Rattle.datapath.specs.Parts.{ok}
use Rattle.datapath.specs.Text.{fetch_text}
use Rattle.isa.specs.Answers.{Decoded}

abbrev pub AsCarried : Text → Decoded → Type 0
AsCarried t (Ok (i, n)) = t.count ≡ n
AsCarried t (Err Illegal) = Unit
AsCarried t (Err (Unimplemented v)) = Unit
AsCarried t (Err Truncated) = ⊥

abbrev pub FetchedText : Type 1
FetchedText = (W : Type 0) (h : Handler W) (c : Cpu) (w : W) (t : Text) → (interpret h (fetch_text c) w).out ≡ ok t → AsCarried t (decode_of t)
