-- Frames of kind 02: those that are accepted, the frame of an address and digits, and that it is what it was read from.
-- Assumes nothing.
use mathlib.Core.Path.{◌≡◌, refl, sym, ap, ◌∙◌}
use mathlib.Core.Bool.{true}
use mathlib.Core.List.{List, [], ◌∷◌, ◌++◌}
use Prim.Native.Nat.{ℕ, ◌+◌, ◌%◌, ◌^◌, ◌≤◌, ◌<◌}
use native.Mathlib.Nat.{mod-eq_of_lt}
use native.Mathlib.Omega.{arith}
use lib.ListN.{length, take, drop, take-append-drop}
use lib.Seq.{drop-drop}
use Rattle.std.specs.Prelude.{Option, Some, None}
use Rattle.hex_digits.specs.Digits.{all_digits, number_at, digits}
use Rattle.hex_digits.proofs.DigitLaws.{all_append, all_digits_law, number_digits}
use Rattle.hex_digits.proofs.NumberLaws.{digits_number}
use Rattle.board_lines.specs.declared.Frame.{Frame}
use Rattle.board_lines.specs.declared.Frame.TheVariants.{Set, Store, Run, Confined}
use Rattle.board_lines.specs.Lines.{numbers_of, frame_of}
use Rattle.board_lines.proofs.FrameLaws.{StoreForm, store_form, form_store}
use Rattle.records_lines.specs.Conversions.{line_gives, store_frame, store_record, store_converted, frame_converted}

-- ---- frames that are accepted

module _ (s : List ℕ) where
  accepted_kind : (f : Option Frame) → (store_converted s f).refusal ≡ 0 → (numbers_of f).kind ≡ 2
  unfolding store_converted
  accepted_kind (Some (Set a b)) h = absurd (omega arith)
  accepted_kind (Some (Store a)) h = refl
  accepted_kind (Some (Run a b)) h = absurd (omega arith)
  accepted_kind (Some (Confined a b)) h = absurd (omega arith)
  accepted_kind None h = absurd (omega arith)

  pub accepted_storing : (frame_converted s).refusal ≡ 0 → StoreForm s
  accepted_storing h = store_form s (accepted_kind (frame_of s) h)

  module _ (v : StoreForm s) where
    pub storing_converted : frame_converted s ≡ line_gives (store_record s ∷ [])
    unfolding store_converted
    storing_converted = ap (store_converted s) (form_store s v)

    -- written again from its address and its digits
    pub storing_again : store_frame (number_at 8 s 2) (drop 10 s) ≡ s
    storing_again =
        let d : List ℕ = drop 10 s in
        let h : 0 + 2 ≤ length s = omega (arith, v.long.least) in
        let g : 2 + 8 ≤ length s = omega (arith, v.long.least) in
        (λ i. digits 2 (sym v.kind i) ++ (digits 8 (number_at 8 s 2) ++ d))
        ∙ (λ i. digits_number 2 s 0 v.good h i ++ (digits_number 8 s 2 v.good g i ++ d))
        ∙ ap (λ (x : List ℕ). take 2 s ++ (take 8 (drop 2 s) ++ x)) (sym (drop-drop 8 2 s))
        ∙ ap (λ (x : List ℕ). take 2 s ++ x) (take-append-drop 8 (drop 2 s))
        ∙ take-append-drop 2 s

-- ---- the frame of an address and digits

module _ (a : ℕ) (d : List ℕ) where
  pub frame_address : a < 2 ^ 32 → number_at 8 (store_frame a d) 2 ≡ a
  frame_address h = number_digits 8 a (digits 2 2) d ∙ mod-eq_of_lt h

  pub frame_storing : 2 ≤ length d → length d ≤ 64 → length d % 2 ≡ 0 → all_digits d ≡ true → StoreForm (store_frame a d)
  frame_storing h g e f =
      let n : length (store_frame a d) ≡ 10 + length d = omega arith in
      record {
        long = record { least = omega arith; most = omega arith; even = omega arith };
        good = all_append (digits 2 2) (digits 8 a ++ d) ∙ rw (all_append (digits 8 a) d, all_digits_law 2 2, all_digits_law 8 a, f) refl;
        kind = number_digits 2 2 [] (digits 8 a ++ d);
      }
