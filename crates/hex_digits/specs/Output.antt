-- Output: a lent buffer and the place of the next byte.
-- Assumes nothing.
use Rattle.std.specs.Prelude.{ℕ, suc, ◌+◌, Bool, cond, List, [], ◌∷◌, length, set, leb}
use Rattle.hex_digits.specs.declared.Writer.{Writer}

abbrev pub newline : ℕ
newline = 10

pub record Output : Type 0 where
  pub bytes : List ℕ
  pub place : ℕ

abbrev pub output : List ℕ → ℕ → Output
output o p = record { bytes = o; place = p }

-- a buffer with the bytes of a text from a place on
abbrev pub written : List ℕ → ℕ → List ℕ → List ℕ
written o p [] = o
written o p (b ∷ t) = written (set o p b) (suc p) t

-- a text printed whole; one for which there is no room is left out
abbrev pub has_room : List ℕ → Output → Bool
has_room t o = leb (o.place + length t) (length o.bytes)

unfoldable pub printed : List ℕ → Output → Output
printed t o = cond (has_room t o) (output (written o.bytes o.place t) (o.place + length t)) o

-- what is lent and printed to
abbrev pub contents : Writer → Output
contents o = output o.buffer.now o.place
