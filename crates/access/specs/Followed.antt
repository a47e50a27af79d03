-- An access after its walk, on memory and journal together.
-- Assumes nothing.
use Rattle.std.specs.Prelude.{◌≡◌, Bool, true, [], ℕ, ◌%◌, eqb}
use Rattle.word.specs.declared.Width.{Width}
use Rattle.word.specs.declared.Width.TheVariants.{Byte, Half, Word}
use Rattle.memory.specs.Bytes.{Memory}
use Rattle.memory.specs.Answers.{Answer, answer_of}
use Rattle.mmu.specs.declared.Walk.{Walk}
use Rattle.mmu.specs.declared.Regime.{Regime}
use Rattle.access_spec.specs.Access.{Access, Response, response, follow}
use Rattle.access_spec.specs.Journal.{follow_note, Journal, Journaled, journaled}
use Rattle.access_spec.specs.Clauses.{Lent, entry_world, exit_world}

unfoldable pub followed : Access → Walk → Journaled → Response Journaled Answer
followed q w t =
    response (follow q t.memory w).out (record { memory = (follow q t.memory w).world; log = follow_note q t.memory w t.log })

-- a regime by its numbers
abbrev pub regime_for : ℕ → Bool → Bool → Regime
regime_for stb user translated = record { stb = stb; user = user; translated = translated }

-- an address is aligned to a width
abbrev pub fits_width : Width → ℕ → Bool
fits_width Byte a = true
fits_width Half a = eqb (a % 2) 0
fits_width Word a = eqb (a % 4) 0

abbrev pub only_memory : Memory → Journaled
only_memory m = journaled m []

-- the number x is the answer to the access q whose walk ended as w, and memory and journal are left as it leaves them
abbrev pub Follows : ℕ → Lent Memory → Lent Journal → Access → Walk → Type 0
Follows x m j q w = response (answer_of x) (exit_world m j) ≡ followed q w (entry_world m j)
