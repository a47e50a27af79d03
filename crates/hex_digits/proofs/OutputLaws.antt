-- Texts put into a buffer one after the other.
-- Assumes nothing.
use mathlib.Core.Path.{◌≡◌, refl, sym, ap, ◌∙◌}
use mathlib.Core.Bool.{Bool, true, false}
use mathlib.Core.List.{List, [], ◌∷◌, ◌++◌, append_assoc, append-nil}
use Prim.Native.Nat.{ℕ, suc, ◌+◌, ◌-◌, ◌≤◌, ◌<◌}
use native.Mathlib.Nat.{add_assoc, add-zero}
use native.Mathlib.Omega.{arith}
use lib.ListN.{length, take, drop, set, length-append, length-set, take-append-drop}
use lib.Seq.{set_comm, take-suc-set, take_all, drop-set-lt, drop-drop}
use lib.Dec.{leb}
use borrow.Author.Tests.{le-leb, lt-leb, leb-true}
use borrow.Rule.Slice.PartMut.{put_mid}
use Rattle.word.proofs.CaseLaws.{by_test}
use Rattle.hex_digits.specs.Output.{Output, written, output, printed}

pub length_written : (t o : List ℕ) (p : ℕ) → length (written o p t) ≡ length o
length_written [] o p = refl
length_written (b ∷ t) o p = length_written t (set o p b) (suc p) ∙ length-set o p b

pub written_on : (a b o : List ℕ) (p : ℕ) → written (written o p a) (p + length a) b ≡ written o p (a ++ b)
written_on [] b o p = rw add-zero refl
written_on (x ∷ a) b o p =
    let e : p + suc (length a) ≡ suc p + length a = omega arith in
    rw e (written_on a b (set o p x) (suc p))

-- a text after another
pub on : (a b o x y : List ℕ) (p q : ℕ) → x ≡ written o p a → y ≡ written x q b → q ≡ p + length a → y ≡ written o p (a ++ b)
on a b o x y p q e g h = g ∙ (λ i. written (e i) (h i) b) ∙ written_on a b o p

-- with the place after it
pub on_output : (t w o : List ℕ) (p : ℕ)
    → output (written (written o p t) (p + length t) w) (p + length t + length w) ≡ output (written o p (t ++ w)) (p + length (t ++ w))
on_output t w o p i =
    output (written_on t w o p i) ((add_assoc p (length t) (length w) ∙ ap (λ (x : ℕ). p + x) (sym (length-append t w))) i)

-- a byte before a text
pub set_before : (t o : List ℕ) (p q b : ℕ) → q < p → set (written o p t) q b ≡ written (set o q b) p t
set_before [] o p q b h = refl
set_before (c ∷ t) o p q b h =
    set_before t (set o p c) (suc p) q b (omega arith)
    ∙ ap (λ (x : List ℕ). written x (suc p) t) (set_comm o p q c b (λ e. absurd (omega (arith, e))))

-- ---- a text, whole or left out

module _ (t o : List ℕ) (p : ℕ) where
  pub fits : (x : List ℕ) (n : ℕ) → n ≡ length t → p + n ≤ length o → x ≡ written o p t → output x (p + n) ≡ printed t (output o p)
  unfolding printed
  fits x n e h g = rw (sym e, le-leb (p + n) (length o) h) (ap (λ (y : List ℕ). output y (p + n)) g)

  pub full : (n : ℕ) → n ≡ length t → length o < p + n → output o p ≡ printed t (output o p)
  unfolding printed
  full n e h = rw (sym e, lt-leb (p + n) (length o) h) refl

  -- and what is known of it, where there is room
  pub room_printed : p + length t ≤ length o → printed t (output o p) ≡ output (written o p t) (p + length t)
  room_printed h = sym (fits (written o p t) (length t) refl h refl)

-- a text printed after another, where there is room for both
pub on_printed : (a b : List ℕ) (o x y : Output) (n m : ℕ) → n ≡ length a → m ≡ length b → o.place + n + m ≤ length o.bytes
    → x ≡ printed a o → y ≡ printed b x → y ≡ printed (a ++ b) o
on_printed a b o x y n m e f h g i =
    let q : x ≡ output (written o.bytes o.place a) (o.place + length a) =
    g ∙ room_printed a o.bytes o.place (omega (arith, e, f, h)) in
    i
    ∙ ap (printed b) q
    ∙ room_printed b (written o.bytes o.place a) (o.place + length a) (rw (length_written a o.bytes o.place) (omega (arith, e, f, h)))
    ∙ on_output a b o.bytes o.place
    ∙ sym (room_printed (a ++ b) o.bytes o.place (rw (length-append a b) (omega (arith, e, f, h))))

-- no text is printed as it is
pub printed_none : (o : Output) → printed [] o ≡ o
unfolding printed
printed_none o = by_test (leb (o.place + 0) (length o.bytes)) (λ e. rw (e, add-zero) refl) (λ e. rw e refl)

pub length_printed : (t o : List ℕ) (p : ℕ) → length (printed t (output o p)).bytes ≡ length o
unfolding printed
length_printed t o p =
    by_test (leb (p + length t) (length o)) (λ e. rw e (length_written t o p)) (λ e. rw e refl)

-- ---- a text, by what the code asked: whether it has room

module _ (t o : List ℕ) (p n : ℕ) (r : Bool) (e : n ≡ length t) (g : r ≡ leb (p + n) (length o)) where
  pub put_whole : (x : List ℕ) → r ≡ true → x ≡ written o p t → output x (p + n) ≡ printed t (output o p)
  unfolding printed
  put_whole x h f = rw (sym e, sym g ∙ h) (ap (λ (y : List ℕ). output y (p + n)) f)

  pub left_out : r ≡ false → output o p ≡ printed t (output o p)
  unfolding printed
  left_out h = rw (sym e, sym g ∙ h) refl

-- written at once
written_whole : (t o : List ℕ) (p : ℕ) → p + length t ≤ length o → written o p t ≡ take p o ++ (t ++ drop (p + length t) o)
written_whole [] o p h = rw add-zero (sym (take-append-drop p o))
written_whole (b ∷ t) o p h =
    let e : p + suc (length t) ≡ suc p + length t = omega arith in
    rw e
    (written_whole t (set o p b) (suc p) (rw (length-set o p b) (omega arith))
    ∙ (λ i. take-suc-set o p b (omega arith) i ++ (t ++ drop-set-lt (suc p + length t) o p b (omega arith) i))
    ∙ append_assoc (take p o) (b ∷ []) (t ++ drop (suc p + length t) o))

pub copied : (t o y x : List ℕ) (p : ℕ) (r : Bool) → r ≡ leb (p + length t) (length o) → r ≡ true → y ≡ t
    → x ≡ put_mid p (p + length t - p) o y → output x (p + length t) ≡ printed t (output o p)
copied t o y x p r g h e f =
    let n : p + length t - p ≡ length t = omega arith in
    let k : p + length t ≤ length o = leb-true _ _ (sym g ∙ h) in
    put_whole t o p (length t) r refl g x h
    (f
    ∙ (λ i. put_mid p (n i) o (e i))
    ∙ ap (λ (z : List ℕ). take p o ++ (t ++ z)) (drop-drop (length t) p o)
    ∙ sym (written_whole t o p k))

-- ---- what is shown of a buffer

written_front : (t o : List ℕ) (p : ℕ) → p + length t ≤ length o → take (p + length t) (written o p t) ≡ take p o ++ t
written_front [] o p h = rw (add-zero, append-nil) refl
written_front (b ∷ t) o p h =
    let e : p + suc (length t) ≡ suc p + length t = omega arith in
    rw e (written_front t (set o p b) (suc p) (rw (length-set o p b) (omega arith)))
    ∙ ap (λ (x : List ℕ). x ++ t) (take-suc-set o p b (omega arith))
    ∙ append_assoc (take p o) (b ∷ []) t

-- a text printed from the start
pub shown : (t o : List ℕ) → length t ≤ length o → take (printed t (output o 0)).place (printed t (output o 0)).bytes ≡ t
shown t o h = rw (room_printed t o 0 (omega arith)) (written_front t o 0 (omega arith))

-- as it was written
pub printed_front : (t o : List ℕ) → length t ≤ length o → take (0 + length t) (written o 0 t) ≡ t
printed_front t o h = written_front t o 0 (omega arith)

-- a text put into a buffer of its size is what it holds then
pub buffer_filled : (t o : List ℕ) (e : Output) → length t ≡ length o → e ≡ printed t (output o 0) → e.bytes ≡ t
buffer_filled t o e h g =
    let k : 0 + length t ≤ length o = omega (arith, h) in
    let q : e.bytes ≡ written o 0 t = ap (λ (x : Output). x.bytes) (g ∙ room_printed t o 0 k) in
    let z : length (written o 0 t) ≡ length t = length_written t o 0 ∙ sym h in
    q ∙ sym (take_all (0 + length t) (written o 0 t) (omega (arith, z))) ∙ printed_front t o (omega (arith, h))

-- what a lender holds when the loan that it gave has ended with the same reference
pub on_loan : {G : Type 0} {g h : G} {s t : List ℕ} → g ≡ h → s ≡ t → (x : List ℕ) → (g ≡ h → x ≡ s) → x ≡ t
on_loan e f x k = k e ∙ f
