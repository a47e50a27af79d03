-- Chapter 2: how a virtual address becomes a physical one. A walk only looks; recording is a definition of its own.
-- Assumes nothing.
use Rattle.std.specs.Prelude.{ℕ, ◌+◌, ◌*◌, ◌/◌, ◌%◌, Bool, true, false, cond, not, ◌&&◌, ◌||◌, set, leb, eqb}
use Rattle.word.specs.Fields.{bit_of, set_of}
use Rattle.memory.specs.Exceptions.{fetch_fault, read_fault, write_fault, walk_fault}
use Rattle.memory.specs.Bytes.{Memory, byte_at, number, holds}
use Rattle.mmu.specs.declared.AccessKind.{AccessKind}
use Rattle.mmu.specs.declared.AccessKind.TheVariants.{Fetch, Read, Write}
use Rattle.mmu.specs.declared.Segment.{Segment}
use Rattle.mmu.specs.declared.Segment.TheVariants.{Outside, Invalid, Nonpaged, Table}
use Rattle.mmu.specs.declared.Walk.{Walk}
use Rattle.mmu.specs.declared.Regime.{Regime}
use Rattle.mmu.specs.declared.Walk.TheVariants.{Fault, Direct, Paged}

-- Table 1-26: fetch fault, data read fault, data write fault
abbrev pub fault_of : AccessKind → ℕ
fault_of Fetch = fetch_fault
fault_of Read = read_fault
fault_of Write = write_fault

abbrev pub is_write : AccessKind → Bool
is_write Fetch = false
is_write Read = false
is_write Write = true

-- 2.3: "concatenating the upper 20 bits of the segment table base register with the upper 10 bits of the virtual address"
abbrev pub segment_place : ℕ → ℕ → ℕ
segment_place stb va = stb / 0x1000 * 0x1000 + va / 0x40_0000 % 0x400 * 4

-- 2.4: "concatenating the upper 20 bits of the segment table entry with bits 21:12 of the virtual address"
abbrev pub page_place : ℕ → ℕ → ℕ
page_place entry va = entry / 0x1000 * 0x1000 + va / 0x1000 % 0x400 * 4

-- Tables 2-1 to 2-3: valid, writable, user; segment is 1 for nonpaged translation
abbrev pub valid : ℕ → Bool
valid e = bit_of e 0

abbrev pub writable : ℕ → Bool
writable e = bit_of e 1

abbrev pub for_user : ℕ → Bool
for_user e = bit_of e 2

abbrev pub nonpaged : ℕ → Bool
nonpaged e = bit_of e 3

-- the first stage, by the word of the segment entry
unfoldable pub segment_of : Memory → ℕ → ℕ → Segment
segment_of m va e =
    cond (valid e)
    (cond (nonpaged e) (Nonpaged e) (cond (holds m (page_place e va) 4) (Table (page_place e va)) Outside))
    Invalid

unfoldable pub segment : ℕ → ℕ → Memory → Segment
segment stb va m = cond (holds m (segment_place stb va) 4) (segment_of m va (number 4 m (segment_place stb va))) Outside

-- 2.2: user level needs the user bit, a write the writable bit, at kernel level too
abbrev pub permits : Bool → AccessKind → ℕ → Bool
permits user k e = (for_user e || not user) && (writable e || not (is_write k))

-- the second stage: a nonpaged segment, whose bound is the last page of it
unfoldable pub nonpaged_of : Bool → AccessKind → ℕ → ℕ → Walk
nonpaged_of user k va e =
    cond (leb (va / 0x1000 % 0x400) (e / 0x1000 % 0x400) && permits user k e)
    (Direct (e / 0x40_0000 * 0x40_0000 + va % 0x40_0000))
    (Fault (fault_of k))

-- the second stage: a page entry e at the place p
unfoldable pub page_of : Bool → AccessKind → ℕ → ℕ → ℕ → Walk
page_of user k va p e =
    cond (valid e && permits user k e) (Paged p (e / 0x1000 * 0x1000 + va % 0x1000)) (Fault (fault_of k))

unfoldable pub walk_from : Bool → AccessKind → ℕ → Memory → Segment → Walk
walk_from user k va m Outside = Fault walk_fault
walk_from user k va m Invalid = Fault (fault_of k)
walk_from user k va m (Nonpaged e) = nonpaged_of user k va e
walk_from user k va m (Table p) = page_of user k va p (number 4 m p)

-- the walk of an address from STB, at user level or not
unfoldable pub walk : Bool → ℕ → AccessKind → ℕ → Memory → Walk
walk user stb k va m = walk_from user k va m (segment stb va m)

-- PSW bit 16: virtual addresses are translated, physical ones stand for themselves
unfoldable pub route : Regime → AccessKind → ℕ → Memory → Walk
route r k va m = cond r.translated (walk r.user r.stb k va m) (Direct va)

-- ---- recording: "The reference and modified bits are automatically set" (2.4), in the page entry alone

-- the low byte of a page entry: Referenced is bit 3, Modified bit 4
unfoldable pub marked : AccessKind → ℕ → ℕ
marked k b = cond (is_write k) (set_of (set_of b 3) 4) (set_of b 3)

-- a bit changes in the page entry at p
unfoldable pub fresh : AccessKind → ℕ → Memory → Bool
fresh k p m = not (eqb (marked k (byte_at m (p + 3))) (byte_at m (p + 3)))

unfoldable pub recorded : AccessKind → ℕ → Memory → Memory
recorded k p m = cond (fresh k p m) (set m (p + 3) (marked k (byte_at m (p + 3)))) m
