-- What the calls of the loop that converts hand to its writes, from what their contracts say.
-- Assumes nothing.
use Prim.Native.Nat.{ℕ, suc, ◌+◌, ◌≤◌}
use mathlib.Core.Path.{◌≡◌, refl, sym, ap, ◌∙◌}
use mathlib.Core.Bool.{Bool, true, false, cond}
use mathlib.Core.List.{List, [], ◌∷◌, ◌++◌, append_assoc, append-nil}
use native.Mathlib.Omega.{arith}
use lib.ListN.{length, take, drop, length-append, length-take}
use lib.Seq.{take-length, take-append-add}
use Rattle.std.specs.Prelude.{is_err}
use Rattle.std.specs.Borrow.{Bor, MutBor}
use Rattle.hex_digits.specs.declared.Writer.{Writer}
use Rattle.word.proofs.CaseLaws.{by_test}
use Rattle.hex_digits.specs.Output.{Output, output, contents, written}
use Rattle.hex_digits.proofs.OutputLaws.{length_written, printed_front}
use Rattle.lines.specs.Texts.{lines_of, next, last_of, ended_lines, size_of, last_line, whole}
use Rattle.records_conversion.specs.declared.Way.{Way}
use Rattle.records_conversion.specs.declared.ConversionState.{ConversionState}
use Rattle.records_conversion.specs.Conversion.{conversion}
use Rattle.records_conversion.specs.Loop.{Progress, progress, lines_done, refused_with, block_from, most_kept, ExchangeDone, exchange_done, exchange_from, conversion_start}
use Rattle.records_conversion.proofs.LoopLaws.{stopped, last_done, none_stopped, printed_room, roomy, rest_of, kept_last, exchange_lines_law, size_ended}
use Rattle.records_conversion.proofs.RefusalLaws.{Answer, lines_answer, over_law}
use Rattle.records_loop.specs.Serving.{ConvertCall, FinishCall, BetweenCalls, before_calls, after_call, ExchangeMade, EndMade, to_write, to_write_last}
use Rattle.records_loop.specs.Serving.{Writes, refusal_written, more_written, last_written, BeginsWriting, nothing_written, some_written, ConversionPrints, ConversionBegins, ConversionServes}

-- ---- an exchange

module _ (w : Way) (p : BetweenCalls) (r : List ℕ) (x : ConvertCall) (f : ExchangeMade w p r x) where
  abbrev bytes : List ℕ
  bytes = p.kept ++ r

  -- what the exported contract says: it asks for nothing
  said : exchange_done (progress (contents x.output_left) x.state_left.last (is_err x.answer)) (take x.state_left.end x.block_left)
      ≡ exchange_from w bytes (progress (output p.buffer 0) p.last false)
  said =
      (f.answers tt).1.0
      ∙ (λ i. exchange_from w (f.bytes i) (progress (output (f.buffer i) 0) (f.number i) false))

  done : progress (contents x.output_left) x.state_left.last (is_err x.answer)
      ≡ progress (output (written p.buffer 0 (conversion w (next p.last) (ended_lines bytes)))
      (0 + length (conversion w (next p.last) (ended_lines bytes))))
      (last_done w p.last (ended_lines bytes)) (stopped w (ended_lines bytes))
  done =
      ap (λ (z : ExchangeDone). z.progress) said
      ∙ roomy w p.last (ended_lines bytes) p.buffer 0 (omega (arith, f.room, size_ended bytes))

  handed_is : to_write x ≡ conversion w (next p.last) (ended_lines bytes)
  handed_is =
      ap (λ (z : Progress). take z.output.place z.output.bytes) done
      ∙ printed_front (conversion w (next p.last) (ended_lines bytes)) p.buffer
      (omega (arith, f.room, size_ended bytes, printed_room w (next p.last) (ended_lines bytes)))

  over_is : is_err x.answer ≡ stopped w (ended_lines bytes)
  over_is = ap (λ (z : Progress). z.over) done

  -- the work is over, whatever follows
  stopped_is : (u : List ℕ) → is_err x.answer ≡ true → to_write x ≡ conversion w (next p.last) (lines_of (bytes ++ u))
  stopped_is u h =
      handed_is
      ∙ sym (append-nil (conversion w (next p.last) (ended_lines bytes)))
      ∙ sym
      (exchange_lines_law w p.last bytes u
      ∙ ap (λ (b : Bool). conversion w (next p.last) (ended_lines bytes)
      ++ cond b [] (conversion w (next (last_of p.last (ended_lines bytes))) (lines_of (take most_kept (rest_of bytes) ++ u))))
      (sym over_is ∙ h))

  module _ (h : is_err x.answer ≡ false) where
    none : stopped w (ended_lines bytes) ≡ false
    none = sym over_is ∙ h

    last_is : x.state_left.last ≡ last_of p.last (ended_lines bytes)
    last_is = ap (λ (z : Progress). z.last) done ∙ none_stopped w p.last (ended_lines bytes) none

    kept_is : take x.state_left.end x.block_left ≡ take most_kept (rest_of bytes)
    kept_is =
        ap (λ (z : ExchangeDone). z.kept) said
        ∙ ap (λ (b : Bool). take most_kept (drop (cond b (length bytes) (size_of (ended_lines bytes))) bytes))
        (sym (ap (λ (z : ExchangeDone). z.progress.over) said) ∙ h)

    -- with what follows
    on_is : (u t : List ℕ) → t ≡ conversion w (next x.state_left.last) (lines_of (take x.state_left.end x.block_left ++ u))
        → to_write x ++ t ≡ conversion w (next p.last) (lines_of (bytes ++ u))
    on_is u t e =
        (λ i. handed_is i ++ (e ∙ (λ j. conversion w (next (last_is j)) (lines_of (kept_is j ++ u)))) i)
        ∙ sym
        (exchange_lines_law w p.last bytes u
        ∙ ap (λ (b : Bool). conversion w (next p.last) (ended_lines bytes)
        ++ cond b [] (conversion w (next (last_of p.last (ended_lines bytes))) (lines_of (take most_kept (rest_of bytes) ++ u))))
        none)

    -- what is kept is a line or nothing
    one_kept : lines_of (take x.state_left.end x.block_left) ≡ last_line (take x.state_left.end x.block_left)
    one_kept = rw kept_is (kept_last bytes)

-- ---- the end of input

size_last : (c : List ℕ) → size_of (last_line c) ≤ suc (length c)
unfolding size_of
size_last [] = omega arith
size_last (b ∷ c) = omega arith

end_is : (w : Way) (p : BetweenCalls) (x : FinishCall) → EndMade w p x → lines_of p.kept ≡ last_line p.kept
    → to_write_last x ≡ conversion w (next p.last) (lines_of p.kept)
end_is w p x f e =
    let l = last_line p.kept in
    let c = conversion w (next p.last) l in
    ap (λ (o : Output). take o.place o.bytes)
    ((f.answers tt).1
    ∙ (λ i. (lines_done w (last_line (f.bytes i)) (progress (output (f.buffer i) 0) (f.number i) false)).output)
    ∙ ap (λ (z : Progress). z.output) (roomy w p.last l p.buffer 0 (omega (arith, f.room, size_last p.kept))))
    ∙ printed_front c p.buffer (omega (arith, f.room, size_last p.kept, printed_room w (next p.last) l))
    ∙ ap (conversion w (next p.last)) (sym e)

-- ---- all calls

written_is : (w : Way) (p : BetweenCalls) (rs : List (List ℕ)) (t : List ℕ) → lines_of p.kept ≡ last_line p.kept → Writes w p rs t
    → t ≡ conversion w (next p.last) (lines_of (p.kept ++ whole rs))
written_is w _ _ _ e (refusal_written p r rs x f h) =
    stopped_is w p r x f (whole rs) h ∙ ap (λ (t : List ℕ). conversion w (next p.last) (lines_of t)) (append_assoc p.kept r (whole rs))
written_is w _ _ _ e (more_written p r rs x t f h s) =
    on_is w p r x f h (whole rs) t (written_is w (after_call x) rs t (one_kept w p r x f h) s)
    ∙ ap (λ (t : List ℕ). conversion w (next p.last) (lines_of t)) (append_assoc p.kept r (whole rs))
written_is w _ _ _ e (last_written p x f) =
    end_is w p x f e ∙ ap (λ (t : List ℕ). conversion w (next p.last) (lines_of t)) (sym (append-nil p.kept))

pub conversion_prints : ConversionPrints
unfolding lines_of
conversion_prints w o reads t s = written_is w (before_calls o) reads t refl s

-- ---- before the end

begins_is : (w : Way) (p : BetweenCalls) (rs : List (List ℕ)) (t u : List ℕ) → BeginsWriting w p rs t
    → take (length t) (conversion w (next p.last) (lines_of (p.kept ++ (whole rs ++ u)))) ≡ t
begins_is w _ _ _ u (nothing_written p) = refl
begins_is w _ _ _ u (some_written p r rs x t f h s) =
    let c = conversion w (next x.state_left.last) (lines_of (take x.state_left.end x.block_left ++ (whole rs ++ u))) in
    let all : conversion w (next p.last) (lines_of (p.kept ++ ((r ++ whole rs) ++ u))) ≡ to_write x ++ c =
    ap (λ (t : List ℕ). conversion w (next p.last) (lines_of t))
    (ap (λ (t : List ℕ). p.kept ++ t) (append_assoc r (whole rs) u) ∙ sym (append_assoc p.kept r (whole rs ++ u)))
    ∙ sym (on_is w p r x f h (whole rs ++ u) c refl) in
    ap (take (length (to_write x ++ t))) all
    ∙ ap (λ (k : ℕ). take k (to_write x ++ c)) (length-append (to_write x) t)
    ∙ take-append-add (to_write x) c (length t)
    ∙ ap (λ (u : List ℕ). to_write x ++ u) (begins_is w (after_call x) rs t u s)

pub conversion_begins : ConversionBegins
conversion_begins w o reads t s more = begins_is w (before_calls o) reads t more s

-- ---- calls that the contracts allow

pub conversion_serves : ConversionServes
conversion_serves ls ref w o input h g =
    by_test after.progress.over
    (λ e. record { text = to_write call; writes = refusal_written (before_calls o) input [] call exchanged (over_is ∙ e) })
    (λ e. record {
      text = to_write call ++ to_write_last last_call;
      writes = more_written (before_calls o) input [] call (to_write_last last_call) exchanged (over_is ∙ e) (last_written (after_call call) last_call ended);
    })
  where
    at : {A : Type 0} → A → MutBor A
    at x = record { ref_ptr = ref.ref_ptr; ghost_name = ref.ghost_name; now = x }

    shared_at : List ℕ → Bor (List ℕ)
    shared_at t = record { ref_ptr = ref.ref_ptr; now = t }

    lent : Output → Writer
    lent x = record { buffer = at x.bytes; place = x.place }

    after : ExchangeDone
    after = exchange_from w input (progress (output o 0) 0 false)

    state : ConversionState
    state = record { end = length after.kept; last = after.progress.last }

    -- the refusal that the contract asks for
    told : Answer (refused_with w (ended_lines input))
    told = lines_answer w (ended_lines input)

    over_is : is_err told.answer ≡ after.progress.over
    over_is = over_law w (ended_lines input) (output o 0) 0 told.answer told.number

    call : ConvertCall
    call =
        record {
          lifetimes = ls;
          state = at conversion_start;
          end = length input;
          block = at input;
          output = at (lent (output o 0));
          answer = told.answer;
          state_left = state;
          block_left = after.kept;
          output_left = lent after.progress.output;
        }

    exchanged : ExchangeMade w (before_calls o) input call
    exchanged =
        record {
          number = refl;
          bytes = take-length input;
          buffer = refl;
          room = h;
          answers = λ _. (
            refl,
            (
              ap (λ (b : Bool). exchange_done (progress after.progress.output after.progress.last b) (take (length after.kept) after.kept)) over_is
                  ∙ ap (λ (t : List ℕ). exchange_done after.progress t) (take-length after.kept)
                  ∙ ap (λ (t : List ℕ). exchange_from w t (progress (output o 0) 0 false)) (sym (take-length input)),
              told.number ∙ ap (λ (t : List ℕ). refused_with w (ended_lines t)) (sym (take-length input)),
            ),
          );
        }

    over : Progress
    over = lines_done w (last_line (take (length after.kept) after.kept)) (progress (output after.progress.output.bytes 0) after.progress.last false)

    last_call : FinishCall
    last_call =
        record {
          lifetimes = ls.1;
          state = state;
          block = shared_at after.kept;
          output = at (lent after.progress.output);
          output_left = lent over.output;
        }

    ended : EndMade w (after_call call) last_call
    ended =
        record {
          number = refl;
          bytes = refl;
          buffer = refl;
          room =
              let k : length after.kept ≤ most_kept = omega (arith, length-take most_kept (drop (block_from w input (progress (output o 0) 0 false)).rest input)) in
              let same : length after.progress.output.bytes ≡ length o =
              ap (λ (z : Progress). length z.output.bytes) (roomy w 0 (ended_lines input) o 0 (omega (arith, h, size_ended input)))
              ∙ length_written (conversion w 1 (ended_lines input)) o 0 in
              omega (arith, g, same, k, ap length (take-length after.kept));
          answers = λ _. (refl, refl);
        }
