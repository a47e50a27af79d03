-- Lines in parts: what the first of them print, whether one of them ends the work, and that a part that is kept says as much as all.
-- Assumes nothing.
use Rattle.std.proofs.Common.{◌≡◌, ℕ, suc, ◌+◌, ◌*◌, ◌≤◌, Bool, true, false, cond, eqb, List, [], ◌∷◌, ◌++◌, length, take, drop, sym, refl, ap, ◌∙◌, true≢false, append_assoc, append-nil, add-zero, arith, length-append}
use Rattle.word.proofs.CaseLaws.{by_test}
use Rattle.hex_digits.specs.Output.{Output, output, written}
use Rattle.hex_digits.proofs.OutputLaws.{length_written, on_output, room_printed}
use Rattle.lines.specs.Texts.{lines_of, lines_text, next, last_of, ended_lines, size_of, last_line}
use Rattle.lines.proofs.CutLaws.{lines_split, lines_within, rest_plain, plain_take, cut, last_line_law}
use Rattle.board_lines.specs.Answers.{refused_line}
use Rattle.records_lines.specs.Conversions.{LineConverted}
use Rattle.records_lines.proofs.SizeLaws.{sizes, long_record, long_frame}
use Rattle.records_conversion.specs.declared.Way.{Way}
use Rattle.records_conversion.specs.declared.Way.TheVariants.{In, Out}
use Rattle.records_conversion.specs.Conversion.{converted_by, printed_then, conversion}
use Rattle.records_conversion.specs.Loop.{progress, lines_done, most_kept, room_needed}
use Rattle.records_conversion.proofs.BlockLaws.{nothing_more}

module _ (w : Way) where
  accepts : List ℕ → Bool
  accepts s = eqb (converted_by w s).refusal 0

  -- whether one of lines is refused, and the number of the last that is converted, after line n
  pub stopped : List (List ℕ) → Bool
  stopped [] = false
  stopped (s ∷ l) = cond (accepts s) (stopped l) true

  pub last_done : ℕ → List (List ℕ) → ℕ
  last_done n [] = n
  last_done n (s ∷ l) = cond (accepts s) (last_done (next n) l) (next n)

  pub none_stopped : (n : ℕ) (l : List (List ℕ)) → stopped l ≡ false → last_done n l ≡ last_of n l
  unfolding accepts stopped last_done last_of
  none_stopped n [] h = refl
  none_stopped n (s ∷ l) h =
      by_test (eqb (converted_by w s).refusal 0) (λ e. rw e (none_stopped (next n) l (rw e at h))) (λ e. absurd (true≢false (rw e at h)))

  -- lines before others
  pub lines_before : (n : ℕ) (l k : List (List ℕ))
      → conversion w (next n) (l ++ k) ≡ conversion w (next n) l ++ cond (stopped l) [] (conversion w (next (last_of n l)) k)
  unfolding accepts stopped conversion last_of
  lines_before n [] k = refl
  lines_before n (s ∷ l) k =
      by_test (eqb (converted_by w s).refusal 0)
      (λ e. rw e
      (ap (λ (t : List ℕ). lines_text (converted_by w s).lines ++ t) (lines_before (next n) l k)
      ∙ sym (append_assoc (lines_text (converted_by w s).lines) (conversion w (next (next n)) l)
      (cond (stopped l) [] (conversion w (next (last_of (next n) l)) k)))))
      (λ e. rw e (sym (append-nil (refused_line (converted_by w s).refusal (next n)))))

-- ---- in a buffer that has room

line_size_law : (w : Way) (s : List ℕ) → length (lines_text (converted_by w s).lines) ≤ 2 * suc (length s)
line_size_law In s = (sizes s).0
line_size_law Out s = (sizes s).1

module _ (w : Way) where
  pub printed_room : (n : ℕ) (l : List (List ℕ)) → length (conversion w n l) ≤ room_needed (size_of l)
  unfolding conversion size_of
  printed_room n [] = omega arith
  printed_room n (s ∷ l) =
      by_test (eqb (converted_by w s).refusal 0)
      (λ e. rw e
      (omega (arith, length-append (lines_text (converted_by w s).lines) (conversion w (next n) l), line_size_law w s, printed_room (next n) l)))
      (λ e. rw e (omega arith))

  pub roomy : (n : ℕ) (l : List (List ℕ)) (o : List ℕ) (p : ℕ) → p + room_needed (size_of l) ≤ length o
      → lines_done w l (progress (output o p) n false)
      ≡ progress (output (written o p (conversion w (next n) l)) (p + length (conversion w (next n) l))) (last_done w n l) (stopped w l)
  unfolding accepts stopped last_done conversion lines_done size_of
  roomy n [] o p h = (λ i. progress (output o (sym (add-zero p) i)) n false)
  roomy n (s ∷ l) o p h =
      by_test (eqb (converted_by w s).refusal 0)
      (λ e. let t = lines_text (converted_by w s).lines in
      let c = conversion w (next (next n)) l in
      rw e
      (ap (λ (x : Output). lines_done w l (progress x (next n) false)) (room_printed t o p (omega (arith, line_size_law w s)))
      ∙ roomy (next n) l (written o p t) (p + length t) (rw (length_written t o p) (omega (arith, line_size_law w s)))
      ∙ ap (λ (x : Output). progress x (last_done w (next n) l) (stopped w l)) (on_output t c o p)))
      (λ e. let t = refused_line (converted_by w s).refusal (next n) in
      rw e
      (ap (λ (x : Output). lines_done w l (progress x (next n) true)) (room_printed t o p (omega arith))
      ∙ nothing_more w l (progress (output (written o p t) (p + length t)) (next n) true) refl))

-- ---- a long line cut

long_same : (w : Way) (s t : List ℕ) → most_kept ≤ length s → most_kept ≤ length t → converted_by w s ≡ converted_by w t
long_same In s t g h = long_record s g ∙ sym (long_record t h)
long_same Out s t g h = long_frame s g ∙ sym (long_frame t h)

first_line : (w : Way) (n : ℕ) (s t : List ℕ) (r : List (List ℕ)) → converted_by w s ≡ converted_by w t
    → conversion w n (s ∷ r) ≡ conversion w n (t ∷ r)
unfolding conversion
first_line w n s t r e = ap (λ (c : LineConverted). printed_then c n (conversion w (next n) r)) e

-- the bytes that an exchange leaves, and those of them that are kept
abbrev pub rest_of : List ℕ → List ℕ
rest_of t = drop (size_of (ended_lines t)) t

pub kept_lines : (w : Way) (n : ℕ) (t u : List ℕ) → conversion w n (lines_of (take most_kept (rest_of t) ++ u)) ≡ conversion w n (lines_of (rest_of t ++ u))
kept_lines w n t u =
    cut (conversion w n) most_kept (omega arith) (λ a b r g h. first_line w n a b r (long_same w a b g h)) (rest_of t) u
    (rest_plain (ended_lines t) t refl)

-- what is kept is a line or nothing
pub kept_last : (t : List ℕ) → lines_of (take most_kept (rest_of t)) ≡ last_line (take most_kept (rest_of t))
kept_last t = last_line_law (take most_kept (rest_of t)) (plain_take most_kept (rest_of t) (rest_plain (ended_lines t) t refl))

-- ---- an exchange, and the rest of the input

pub exchange_lines_law : (w : Way) (n : ℕ) (t u : List ℕ)
    → conversion w (next n) (lines_of (t ++ u))
    ≡ conversion w (next n) (ended_lines t)
    ++ cond (stopped w (ended_lines t)) [] (conversion w (next (last_of n (ended_lines t))) (lines_of (take most_kept (rest_of t) ++ u)))
exchange_lines_law w n t u =
    let l = ended_lines t in
    ap (conversion w (next n)) (lines_split l [] t u (sym (append-nil l)))
    ∙ lines_before w n l (lines_of (rest_of t ++ u))
    ∙ ap (λ (x : List ℕ). conversion w (next n) l ++ cond (stopped w l) [] x) (sym (kept_lines w (next (last_of n l)) t u))

pub size_ended : (t : List ℕ) → size_of (ended_lines t) ≤ length t
size_ended t = lines_within (ended_lines t) [] t (sym (append-nil (ended_lines t)))
