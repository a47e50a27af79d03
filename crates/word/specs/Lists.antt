-- Whether a number is one of a list.
-- Assumes nothing.
use Rattle.std.specs.Prelude.{ℕ, Bool, false, ◌||◌, List, [], ◌∷◌, ◌==◌}

abbrev pub contains : List ℕ → ℕ → Bool
contains [] x = false
contains (y ∷ l) x = x == y || contains l x
