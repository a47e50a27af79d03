-- A block answered line by line: what is left of it gives what the whole gives.
-- Assumes nothing.
use Rattle.std.proofs.Common.{◌≡◌, ℕ, suc, ◌+◌, ◌-◌, ◌%◌, ◌^◌, ◌<◌, ◌≤◌, Bool, true, false, cond, ◌&&◌, List, [], ◌∷◌, length, take, drop, sym, refl, ap, ◌∙◌, true≢false, arith, ltb, le-ltb, lt-ltb}
use Rattle.board_lines.specs.Lines.{frame_of}
use Rattle.lines.specs.Texts.{newline_at, next, ends_line, ended_lines, size_of, last_of}
use Rattle.board_conversation.specs.Code.{BoardIo, line_on}
use Rattle.board_conversation.specs.Blocks.{is_long_run, LineAnswered, line_answered, answered_unless, together, lines_on, block_answered, block_on}
use Rattle.lines.proofs.SearchLaws.{ended_none, none_from, ends_from, first_from, width_from}

-- the lines before `from` have been answered on a board, the last of them line `last`; the next one ends at `to`
pub record Answering (t : List ℕ) (n : ℕ) (d₀ d : BoardIo) (last from : ℕ) (begun : Bool) (to : ℕ) : Type 0 where
  pub upto : from ≤ length t
  pub ends : to ≡ from + newline_at (drop from t)
  pub told : lines_on (next last) (together begun (ended_lines (drop from t))) d ≡ lines_on (next n) (together false (ended_lines t)) d₀
  pub counted : last_of last (together begun (ended_lines (drop from t))) ≡ last_of n (together false (ended_lines t))
  pub place : from + size_of (together begun (ended_lines (drop from t))) ≡ size_of (together false (ended_lines t))

pub answering_none : (t : List ℕ) (n : ℕ) (d : BoardIo) (to : ℕ) → to ≡ 0 + newline_at (drop 0 t) → Answering t n d d n 0 false to
answering_none t n d to e = record { upto = omega arith; ends = e; told = refl; counted = refl; place = omega arith }

module _ (t : List ℕ) (n : ℕ) (d₀ d : BoardIo) (last from : ℕ) (begun : Bool) (to : ℕ) (r : Answering t n d₀ d last from begun to) where
  -- nothing more is answered
  over : (more : Bool) → together begun (ended_lines (drop from t)) ≡ [] → more ≡ ends_line (drop from t)
      → block_answered d last from more ≡ block_on n t d₀
  unfolding lines_on last_of size_of
  over more e g =
      let a : d ≡ lines_on (next n) (together false (ended_lines t)) d₀ =
      sym (ap (λ (x : List (List ℕ)). lines_on (next last) x d) e) ∙ r.told in
      let b : last ≡ last_of n (together false (ended_lines t)) = sym (ap (last_of last) e) ∙ r.counted in
      let s : size_of (together begun (ended_lines (drop from t))) ≡ 0 = ap size_of e in
      let c : from ≡ size_of (together false (ended_lines t)) = omega (arith, r.place, s) in
      (λ i. block_answered (a i) (b i) (c i) ((g ∙ ap (λ (k : ℕ). ends_line (drop k t)) c) i))

  pub answering_over : length t ≤ to → block_answered d last from false ≡ block_on n t d₀
  unfolding together
  answering_over h =
      let none = none_from t from to r.ends h in
      over false (ap (together begun) (ended_none (drop from t) none)) (sym (le-ltb (newline_at (drop from t)) (length (drop from t)) none))

  module _ (h : to < length t) where
    abbrev line : List ℕ
    line = take (to - from) (drop from t)

    module _ (k : ℕ) (d' : BoardIo) (w : Bool) (a : line_answered d' w ≡ answered_unless begun k line d) where
      waiting : (b : Bool) → line_answered d' w ≡ cond b (line_answered d true) (line_answered (line_on k line d) false) → w ≡ true → (b ≡ true) × (d' ≡ d)
      waiting true e g = (refl, ap (λ (x : LineAnswered). x.board_io) e)
      waiting false e g = absurd (true≢false (sym g ∙ ap (λ (x : LineAnswered). x.waits) e))

      done : (b : Bool) → line_answered d' w ≡ cond b (line_answered d true) (line_answered (line_on k line d) false) → w ≡ false
          → (b ≡ false) × (d' ≡ line_on k line d)
      done true e g = absurd (true≢false (sym (ap (λ (x : LineAnswered). x.waits) e) ∙ g))
      done false e g = (refl, ap (λ (x : LineAnswered). x.board_io) e)

      -- the lines that are left, by the test of the first
      left : (b : Bool) → begun && is_long_run (frame_of line) ≡ b
          → together begun (ended_lines (drop from t)) ≡ cond b [] (line ∷ together true (ended_lines (drop (to + 1) t)))
      unfolding together
      left b e = ap (together begun) (first_from t from to r.ends h) ∙ ap (λ (x : Bool). cond x [] (line ∷ together true (ended_lines (drop (to + 1) t)))) e

      pub answering_long : w ≡ true → block_answered d' last from true ≡ block_on n t d₀
      answering_long g =
          let v = waiting (begun && is_long_run (frame_of line)) a g in
          ap (λ (x : BoardIo). block_answered x last from true) v.1
          ∙ over true (left true v.0) (sym (lt-ltb (newline_at (drop from t)) (length (drop from t)) (ends_from t from to r.ends h)))

      pub answering_more : (e : ℕ) → w ≡ false → k ≡ (last + 1) % 2 ^ 32 → e ≡ to + 1 + newline_at (drop (to + 1) t)
          → Answering t n d₀ d' k (to + 1) (ltb 0 (to + 1)) e
      unfolding lines_on last_of size_of
      answering_more e g i j =
          rw (lt-ltb 0 (to + 1) (omega arith))
          (record {
            upto = omega arith;
            ends = j;
            told =
                ap (lines_on (next k) more) so.1
                ∙ ap (λ (x : ℕ). lines_on (next x) more (line_on x line d)) i
                ∙ sym (ap (λ (x : List (List ℕ)). lines_on (next last) x d) rest)
                ∙ r.told;
            counted = ap (λ (x : ℕ). last_of x more) i ∙ sym (ap (last_of last) rest) ∙ r.counted;
            place =
                let s : size_of (together begun (ended_lines (drop from t))) ≡ suc (length line) + size_of more = ap size_of rest in
                omega (arith, r.place, s, width_from t from to r.ends h, r.ends);
          })
        where
          more : List (List ℕ)
          more = together true (ended_lines (drop (to + 1) t))

          so : (begun && is_long_run (frame_of line) ≡ false) × (d' ≡ line_on k line d)
          so = done (begun && is_long_run (frame_of line)) a g

          rest : together begun (ended_lines (drop from t)) ≡ line ∷ more
          rest = left false so.0
