-- For each premise of isolation two machines that meet the others and are told apart by a confined run. They differ in one
-- word, in the hidden page: page 0, if nothing else is said. The segment table is in page 1, text and page table are in page
-- 2; a text is even, and so no valid entry.
-- Assumes nothing.
use Rattle.std.specs.Prelude.{ℕ, Bool, not, ◌&&◌, [], ◌∷◌, eqb}
use Rattle.machine.specs.Registers.{isp, pc}
use Rattle.machine.specs.Status.{Cpu, with}
use Rattle.run_spec.specs.Run.{Board, board}
use Rattle.isolation.specs.Execution.{Report, report, confined}
use Rattle.isolation_witness.specs.Memories.{Words, memory_of, user_cpu, stepping}

pub record Pair : Type 0 where
  pub cpu : Cpu
  pub words : Words
  -- the hidden word's place, and what it is on either side
  pub place : ℕ
  pub first : ℕ
  pub second : ℕ
  pub budget : ℕ

abbrev pub pair : Cpu → Words → ℕ → ℕ → ℕ → ℕ → Pair
pair c ws p v w n = record { cpu = c; words = ws; place = p; first = v; second = w; budget = n }

abbrev pub first_words : Pair → Words
first_words t = (t.place, t.first) ∷ t.words

abbrev pub second_words : Pair → Words
second_words t = (t.place, t.second) ∷ t.words

abbrev pub first_board : Pair → Board
first_board t = board t.cpu (memory_of (first_words t))

abbrev pub second_board : Pair → Board
second_board t = board t.cpu (memory_of (second_words t))

abbrev pub same_report : Report → Report → Bool
same_report x y =
    eqb x.steps y.steps
    && eqb x.stop y.stop
    && eqb x.code y.code
    && eqb x.counter y.counter
    && eqb x.status y.status

-- what a confined run of that budget answers on a board, and that it is not the same on the two
abbrev pub answer : Pair → Board → Report
answer t s = report (confined (stepping t.budget) s)

abbrev pub differ : Pair → Bool
differ t = not (same_report (answer t (first_board t)) (answer t (second_board t)))

-- ---- registers and texts

-- PC, and the current stack pointer
abbrev pub starting : ℕ → ℕ → Cpu
starting p s = with (with user_cpu pc p) isp s

-- "NOP" and a KCALL, a KCALL and "NOP"; a word 0 is two KCALLs, at which a confined run stops
abbrev pub nop_first : ℕ
nop_first = 0x2C02_0000

abbrev pub nop_second : ℕ
nop_second = 0x2C02

-- ---- without "unreached": a nonpaged segment of page 0, for users and not writable, from which the text is fetched

abbrev pub reached : Pair
reached = pair (starting 0x10 0) ((0x1000, 0x0D) ∷ []) 0x10 nop_first 0 1

-- ---- without "unhidden": a table in the hidden page, whose entry for the text is valid or not

-- the page table
abbrev pub hidden_table : Pair
hidden_table = pair (starting 0x10 0) ((0x2010, nop_first) ∷ (0x1000, 0x0001) ∷ []) 0 0x2005 0 1

-- the segment table: page 1 is hidden, and the text in page 0
abbrev pub hidden_segments : Pair
hidden_segments = pair (starting 0x10 0) ((0x10, nop_first) ∷ []) 0x1000 0x0D 0 1

-- ---- without "unwritten": "MOV 13, 0(CSP)", where CSP leads to the first entry of a table. 13 is an entry for users that
-- leads to page 0, from which the next text is fetched then

abbrev pub moving : Words → Pair
moving ws = pair (starting 0x10 0x1000) ((0x2010, 0x71A0_0000) ∷ (0x1000, 0x2001) ∷ (0x2000, 0x200D) ∷ ws) 0x10 nop_second 0 2

-- the entry of page 2 in the page table, to which the second entry leads
abbrev pub written_table : Pair
written_table = moving ((0x2004, 0x201F) ∷ [])

-- the entry of the segment, which becomes a nonpaged one
abbrev pub written_segments : Pair
written_segments = moving ((0x2004, 0x101F) ∷ [])

-- ---- without "apart": "CMPEQ 7, 0(CSP)", which leaves in F what it found in the first segment. The page table of the
-- second segment is at 0x1000, so the word there is the entry of the first segment and the entry of page 2, with the text.
-- Its fetch sets Referenced, which is in a segment entry the bit of nonpaged translation: the first segment then has the
-- pages 0 to 2

abbrev pub twofold : Pair
twofold = pair (starting 0x40_0010 0x10) ((0x2010, 0x40E0_0000) ∷ (0x1000, 0x2005) ∷ (0x1004, 0x1001) ∷ []) 0x10 7 0 1
