-- What the decoder's answer carries (request (g)): "The decoder's answer shall carry the total length in parcels: 1, 3 or 5, and 4
-- or 6 after a CPU prefix; 'illegal' and 'unimplemented' carry none".
use Rattle.std.specs.Prelude.{ℕ, ◌+◌, ◌<◌, ◌≤◌, ◌≡◌, true, cond, ◌⊎◌, eqb, Ok, Err}
use Rattle.isa.specs.declared.Text.{Text}
use Rattle.isa.specs.declared.Undecoded.TheVariants.{Illegal, Unimplemented, Truncated}
use Rattle.isa.specs.Lengths.{short_length, prefix_length, following, length_of}
use Rattle.isa.specs.Answers.{unimplemented_vector, niladic_trap_vector, Decoded}
use Rattle.isa.specs.Decode.{cpu_prefix, decode_of}

-- refusal 6: how many parcels "the first one, or the one after a prefix, calls for"
abbrev pub called_for : Text → ℕ
called_for t = cond (eqb t.p0 cpu_prefix) (prefix_length true + short_length + following t.p1) (short_length + following t.p0)

-- of k parcels called for and c there: the length is the form's and the prefix's, and the text's; else there are too few
abbrev pub Carried : ℕ → ℕ → Decoded → Type 0
Carried k c (Ok (i, n)) = (n ≡ length_of i) × (n ≡ k) × (k ≤ c)
Carried k c (Err Illegal) = k ≤ c
Carried k c (Err (Unimplemented v)) = ((v ≡ unimplemented_vector) ⊎ (v ≡ niladic_trap_vector)) × (k ≤ c)
Carried k c (Err Truncated) = c < k

abbrev pub CarriedLength : Type 0
CarriedLength = (t : Text) → Carried (called_for t) t.count (decode_of t)
