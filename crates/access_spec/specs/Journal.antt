-- The journal of a step: the place of each word that changes with the word of before, so that a refused step leaves nothing.
-- Assumes nothing.
use Rattle.std.specs.Prelude.{ℕ, zero, suc, ◌+◌, ◌*◌, ◌/◌, ◌%◌, ◌^◌, min, cond, ◌&&◌, List, get_or, set, ltb}
use Rattle.word.specs.Widths.{bytes_of}
use Rattle.memory.specs.Bytes.{Memory, number, stored, holds}
use Rattle.mmu.specs.declared.AccessKind.{AccessKind}
use Rattle.mmu.specs.declared.Walk.{Walk}
use Rattle.mmu.specs.declared.Walk.TheVariants.{Fault, Direct, Paged}
use Rattle.mmu.specs.Walk.{route, fresh}
use Rattle.access_spec.specs.Access.{Access, fetch, read, write, probe, regime_of, access_kind_of, address_of, aligned, response, noted, access}
use Rattle.access_spec.specs.Program.{Handler}

-- the number of entries, then each of them as one number: its address times 2 ^ 32, and the word that stood there
abbrev pub Journal : Type 0
Journal = List ℕ

abbrev pub room : ℕ
room = 200

abbrev pub journal_words : ℕ
journal_words = 201

abbrev pub count : Journal → ℕ
count j = get_or j 0 0

abbrev pub entry : ℕ → ℕ → ℕ
entry a w = a * 2 ^ 32 + w

-- the word at a, as it is; a full journal drops the entry, and a step never fills it
unfoldable pub note : ℕ → Memory → Journal → Journal
note a m j =
    cond (ltb (count j) room && holds m a 4) (set (set j (count j + 1) (entry a (number 4 m a))) 0 (count j + 1)) j

-- an entry's word put back, each byte where memory has it
unfoldable pub restored : Memory → ℕ → Memory
restored m e = stored 4 m (e / 2 ^ 32) (e % 2 ^ 32)

-- the first n entries put back, the last one first
unfoldable pub undone : ℕ → Journal → Memory → Memory
undone zero j m = m
undone (suc n) j m = undone n j (restored m (get_or j (suc n) 0))

-- all of them: no journal of a step counts more than there is room for
unfoldable pub undo : Journal → Memory → Memory
undo j m = undone (min (count j) room) j m

-- what an access notes: the word that it stores into, and before that the page entry whose bits change
unfoldable pub touch_note : Access → ℕ → Memory → Journal → Journal
touch_note (fetch r a) pa m j = j
touch_note (read r w a) pa m j = j
touch_note (write r w a v) pa m j = cond (holds m pa (bytes_of w)) (note (pa / 4 * 4) m j) j
touch_note (probe r a) pa m j = j

unfoldable pub entry_note : AccessKind → ℕ → Memory → Journal → Journal
entry_note k p m j = cond (fresh k p m) (note p m j) j

unfoldable pub walk_note : Access → ℕ → Memory → Journal → Journal
walk_note (fetch r a) p m j = entry_note (access_kind_of (fetch r a)) p m j
walk_note (read r w a) p m j = entry_note (access_kind_of (read r w a)) p m j
walk_note (write r w a v) p m j = entry_note (access_kind_of (write r w a v)) p m j
walk_note (probe r a) p m j = j

unfoldable pub follow_note : Access → Memory → Walk → Journal → Journal
follow_note q m (Fault c) j = j
follow_note q m (Direct pa) j = touch_note q pa m j
follow_note q m (Paged p pa) j = touch_note q pa (noted q p m) (walk_note q p m j)

unfoldable pub access_note : Access → Memory → Journal → Journal
access_note q m j = cond (aligned q) (follow_note q m (route (regime_of q) (access_kind_of q) (address_of q) m) j) j

-- memory and journal: the memory is what the plain handler leaves
pub record Journaled : Type 0 where
  pub memory : Memory
  pub log : Journal

abbrev pub journaled : Memory → Journal → Journaled
journaled m j = record { memory = m; log = j }

unfoldable pub logging : Handler Journaled
logging q t =
    response (access q t.memory).out
    (record { memory = (access q t.memory).world; log = access_note q t.memory t.log })
