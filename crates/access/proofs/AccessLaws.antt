-- The ways out of an access: misaligned, untranslated, and after its walk.
-- Assumes nothing.
use Prim.Native.Nat.{ℕ, ◌+◌, ◌/◌, ◌*◌, ◌%◌, ◌^◌, ◌<◌, ◌≤◌}
use mathlib.Core.Path.{◌≡◌, refl, sym, ap, ◌∙◌}
use mathlib.Core.Bool.{Bool, true, false}
use native.Mathlib.Nat.{mod-eq_of_lt}
use native.Mathlib.Omega.{arith}
use lib.ListN.{length}
use lib.Dec.{eqb}
use borrow.Author.Tests.{le-leb, lt-leb, eq-eqb, ne_eqb}
use Rattle.word.specs.declared.Width.{Width}
use Rattle.word.specs.declared.Width.TheVariants.{Byte, Half, Word}
use Rattle.word.specs.Widths.{bytes_of}
use Rattle.memory.specs.Answers.{Answer, good, raised}
use Rattle.memory.specs.Bytes.{Memory, load, holds, store_answer, store_memory, Effect, effect, store_of}
use Rattle.mmu.specs.declared.AccessKind.{AccessKind}
use Rattle.mmu.specs.declared.AccessKind.TheVariants.{Fetch, Read, Write}
use Rattle.mmu.specs.declared.Walk.{Walk}
use Rattle.mmu.specs.declared.Walk.TheVariants.{Fault, Direct, Paged}
use Rattle.mmu.specs.declared.Regime.{Regime}
use Rattle.mmu.specs.Walk.{walk, route, recorded}
use Rattle.memory.specs.Exceptions.{alignment_fault}
use Rattle.access_spec.specs.Access.{Access, fetch, read, write, probe, regime_of, access_kind_of, address_of, aligned, Response, response, touch, follow, access}
use Rattle.access_spec.specs.Journal.{Journal, note, touch_note, entry_note, walk_note, follow_note, access_note, Journaled, journaled, logging}
use Rattle.access.specs.Followed.{followed, regime_for, fits_width, only_memory}

-- ---- any access

aligned_is : (q : Access) (t : Journaled) → aligned q ≡ true → followed q (route (regime_of q) (access_kind_of q) (address_of q) t.memory) t ≡ logging q t
unfolding followed logging access access_note
aligned_is q t h = rw h refl

odd_is : (q : Access) (t : Journaled) → aligned q ≡ false → response (raised alignment_fault) t ≡ logging q t
unfolding logging access access_note
odd_is q t h = rw h refl

-- a translated access is followed by its walk, an untranslated one goes to its address
module _ (q : Access) (stb a : ℕ) (user : Bool) (k : AccessKind) (t : Journaled) (ek : access_kind_of q ≡ k) (ea : address_of q ≡ a) (h : aligned q ≡ true) where
  virtual_is : regime_of q ≡ regime_for stb user true → followed q (walk user stb k a t.memory) t ≡ logging q t
  unfolding route
  virtual_is er = ap (λ (w : Walk). followed q w t) (sym (rw (er, ek, ea) refl)) ∙ aligned_is q t h

  physical_is : regime_of q ≡ regime_for stb user false → followed q (Direct a) t ≡ logging q t
  unfolding route
  physical_is er = ap (λ (w : Walk). followed q w t) (sym (rw (er, ea) refl)) ∙ aligned_is q t h

pub fits_is : (w : Width) (a : ℕ) → a < 2 ^ 32 → eqb (a % 2 ^ 32 % bytes_of w) 0 ≡ fits_width w a
fits_is Byte a h = eq-eqb (a % 2 ^ 32 % 1) 0 (omega arith)
fits_is Half a h = ap (λ (n : ℕ). eqb (n % 2) 0) (mod-eq_of_lt {n = a} {m = 2 ^ 32} h)
fits_is Word a h = ap (λ (n : ℕ). eqb (n % 4) 0) (mod-eq_of_lt {n = a} {m = 2 ^ 32} h)

pub word_is : (a : ℕ) → a < 2 ^ 32 → a % 2 ^ 32 ≡ a
word_is a h = mod-eq_of_lt {n = a} {m = 2 ^ 32} h

-- ---- reads

module _ (r : Regime) (w : Width) (x : ℕ) (m : Memory) (a : Journal) (y : Walk) where
  pub read_fault_law : (k : Walk) (c : ℕ) (z : Answer) → k ≡ y → k ≡ Fault c → z ≡ raised c → response z (journaled m a) ≡ followed (read r w x) y (journaled m a)
  unfolding followed follow follow_note
  read_fault_law k c z e f g = rw (sym e ∙ f, g) refl

  pub read_direct : (k : Walk) (pa : ℕ) (z : Answer) → k ≡ y → k ≡ Direct pa → z ≡ load (bytes_of w) m pa → response z (journaled m a) ≡ followed (read r w x) y (journaled m a)
  unfolding followed follow follow_note touch touch_note
  read_direct k pa z e f g = rw (sym e ∙ f, g) refl

  pub read_paged : (k : Walk) (p pa : ℕ) (z : Answer) (n : Memory) (b : Journal) → k ≡ y → k ≡ Paged p pa
      → journaled n b ≡ journaled (recorded Read p m) (entry_note Read p m a) → z ≡ load (bytes_of w) n pa
      → response z (journaled n b) ≡ followed (read r w x) y (journaled m a)
  unfolding followed follow follow_note touch touch_note walk_note
  read_paged k p pa z n b e f d g =
      rw (sym e ∙ f) (ap (λ (v : Answer). response v (journaled n b)) g ∙ ap (λ (t : Journaled). response (load (bytes_of w) t.memory pa) t) d)

module _ (stb : ℕ) (user translated : Bool) (w : Width) (x : ℕ) (m : Memory) (a : Journal) where
  pub read_odd : (b : Bool) (z : Answer) → x < 2 ^ 32 → b ≡ fits_width w x → b ≡ false → z ≡ raised 4 → response z (journaled m a) ≡ logging (read (regime_for stb user translated) w x) (journaled m a)
  read_odd b z h e f g = ap (λ (v : Answer). response v (journaled m a)) g ∙ odd_is (read (regime_for stb user translated) w x) (journaled m a) (fits_is w x h ∙ sym e ∙ f)

  pub read_virtual : (b : Bool) (g : Response Journaled Answer) → x < 2 ^ 32 → b ≡ fits_width w x → b ≡ true → translated ≡ true
      → g ≡ followed (read (regime_for stb user true) w x) (walk user stb Read x m) (journaled m a) → g ≡ logging (read (regime_for stb user translated) w x) (journaled m a)
  read_virtual b g h e f v i =
      i ∙ virtual_is (read (regime_for stb user true) w x) stb x user Read (journaled m a) refl (word_is x h) (fits_is w x h ∙ sym e ∙ f) refl
      ∙ ap (λ (c : Bool). logging (read (regime_for stb user c) w x) (journaled m a)) (sym v)

  pub read_physical : (b : Bool) (z : Answer) → x < 2 ^ 32 → b ≡ fits_width w x → b ≡ true → translated ≡ false → z ≡ load (bytes_of w) m x
      → response z (journaled m a) ≡ logging (read (regime_for stb user translated) w x) (journaled m a)
  read_physical b z h e f v g =
      read_direct (regime_for stb user false) w x m a (Direct x) (Direct x) x z refl refl g
      ∙ physical_is (read (regime_for stb user false) w x) stb x user Read (journaled m a) refl (word_is x h) (fits_is w x h ∙ sym e ∙ f) refl
      ∙ ap (λ (c : Bool). logging (read (regime_for stb user c) w x) (journaled m a)) (sym v)

-- ---- writes

pub store_held : (w : Width) (pa v : ℕ) (m : Memory) (a : Journal) (k q : ℕ) (z : Answer) (n : Memory) (b : Journal)
    → k ≡ bytes_of w → pa + k ≤ length m → q ≡ pa / 4 * 4 → b ≡ note q m a → effect z n ≡ store_of (bytes_of w) m pa v
    → response z (journaled n b) ≡ followed (write (regime_for 0 true true) w 0 v) (Direct pa) (journaled m a)
unfolding followed follow follow_note touch touch_note store_of
store_held w pa v m a k q z n b ek h eq j d =
    let f : holds m pa (bytes_of w) ≡ true = le-leb (pa + bytes_of w) (length m) (rw (sym ek) h) in
    let e : z ≡ store_answer (bytes_of w) m pa = ap (λ (x : Effect). x.answer) d in
    let g : n ≡ store_memory (bytes_of w) m pa v = ap (λ (x : Effect). x.memory) d in
    rw (f, e, g, j, eq) refl

pub store_past : (w : Width) (pa v : ℕ) (m : Memory) (a : Journal) (k : ℕ) (z : Answer) → k ≡ bytes_of w → length m < pa + k → z ≡ raised 10
    → response z (journaled m a) ≡ followed (write (regime_for 0 true true) w 0 v) (Direct pa) (journaled m a)
unfolding followed follow follow_note touch touch_note store_answer store_memory
store_past w pa v m a k z ek h g = let f : holds m pa (bytes_of w) ≡ false = lt-leb (pa + bytes_of w) (length m) (rw (sym ek) h) in rw (f, g) refl

-- where a store goes decides alone
store_any : (r : Regime) (w : Width) (x v pa : ℕ) (t : Journaled) → followed (write (regime_for 0 true true) w 0 v) (Direct pa) t ≡ followed (write r w x v) (Direct pa) t
unfolding followed follow follow_note touch touch_note
store_any r w x v pa t = refl

module _ (r : Regime) (w : Width) (x v : ℕ) (m : Memory) (a : Journal) (y : Walk) where
  pub write_fault_law : (k : Walk) (c : ℕ) (z : Answer) → k ≡ y → k ≡ Fault c → z ≡ raised c → response z (journaled m a) ≡ followed (write r w x v) y (journaled m a)
  unfolding followed follow follow_note
  write_fault_law k c z e f g = rw (sym e ∙ f, g) refl

  pub write_direct : (k : Walk) (pa : ℕ) (g : Response Journaled Answer) → k ≡ y → k ≡ Direct pa → g ≡ followed (write (regime_for 0 true true) w 0 v) (Direct pa) (journaled m a)
      → g ≡ followed (write r w x v) y (journaled m a)
  write_direct k pa g e f i = i ∙ store_any r w x v pa (journaled m a) ∙ ap (λ (z : Walk). followed (write r w x v) z (journaled m a)) (sym f ∙ e)

  pub write_paged : (k : Walk) (p pa : ℕ) (g : Response Journaled Answer) (n : Memory) (b : Journal) → k ≡ y → k ≡ Paged p pa
      → journaled n b ≡ journaled (recorded Write p m) (entry_note Write p m a)
      → g ≡ followed (write (regime_for 0 true true) w 0 v) (Direct pa) (journaled n b) → g ≡ followed (write r w x v) y (journaled m a)
  unfolding followed follow follow_note touch touch_note walk_note
  write_paged k p pa g n b e f d i =
      i ∙ ap (λ (t : Journaled). followed (write r w x v) (Direct pa) t) d
      ∙ ap (λ (z : Walk). followed (write r w x v) z (journaled m a)) (sym f ∙ e)

module _ (stb : ℕ) (user translated : Bool) (w : Width) (x v : ℕ) (m : Memory) (a : Journal) where
  pub write_odd : (b : Bool) (z : Answer) → x < 2 ^ 32 → b ≡ fits_width w x → b ≡ false → z ≡ raised 4 → response z (journaled m a) ≡ logging (write (regime_for stb user translated) w x v) (journaled m a)
  write_odd b z h e f g = ap (λ (y : Answer). response y (journaled m a)) g ∙ odd_is (write (regime_for stb user translated) w x v) (journaled m a) (fits_is w x h ∙ sym e ∙ f)

  pub write_virtual : (b : Bool) (g : Response Journaled Answer) → x < 2 ^ 32 → b ≡ fits_width w x → b ≡ true → translated ≡ true
      → g ≡ followed (write (regime_for stb user true) w x v) (walk user stb Write x m) (journaled m a) → g ≡ logging (write (regime_for stb user translated) w x v) (journaled m a)
  write_virtual b g h e f t i =
      i ∙ virtual_is (write (regime_for stb user true) w x v) stb x user Write (journaled m a) refl (word_is x h) (fits_is w x h ∙ sym e ∙ f) refl
      ∙ ap (λ (c : Bool). logging (write (regime_for stb user c) w x v) (journaled m a)) (sym t)

  pub write_physical : (b : Bool) (g : Response Journaled Answer) → x < 2 ^ 32 → b ≡ fits_width w x → b ≡ true → translated ≡ false
      → g ≡ followed (write (regime_for 0 true true) w 0 v) (Direct x) (journaled m a) → g ≡ logging (write (regime_for stb user translated) w x v) (journaled m a)
  write_physical b g h e f t i =
      i ∙ store_any (regime_for stb user false) w x v x (journaled m a)
      ∙ physical_is (write (regime_for stb user false) w x v) stb x user Write (journaled m a) refl (word_is x h) (fits_is w x h ∙ sym e ∙ f) refl
      ∙ ap (λ (c : Bool). logging (write (regime_for stb user c) w x v) (journaled m a)) (sym t)

-- ---- text

module _ (r : Regime) (x : ℕ) (m : Memory) (a : Journal) (y : Walk) where
  fetch_fault_law : (k : Walk) (c : ℕ) (z : Answer) → k ≡ y → k ≡ Fault c → z ≡ raised c → response z (journaled m a) ≡ followed (fetch r x) y (journaled m a)
  unfolding followed follow follow_note
  fetch_fault_law k c z e f g = rw (sym e ∙ f, g) refl

  fetch_direct : (k : Walk) (pa : ℕ) (z : Answer) → k ≡ y → k ≡ Direct pa → z ≡ load 2 m pa → response z (journaled m a) ≡ followed (fetch r x) y (journaled m a)
  unfolding followed follow follow_note touch touch_note
  fetch_direct k pa z e f g = rw (sym e ∙ f, g) refl

  fetch_paged : (k : Walk) (p pa : ℕ) (z : Answer) (n : Memory) (b : Journal) → k ≡ y → k ≡ Paged p pa
      → journaled n b ≡ journaled (recorded Fetch p m) (entry_note Fetch p m a) → z ≡ load 2 n pa
      → response z (journaled n b) ≡ followed (fetch r x) y (journaled m a)
  unfolding followed follow follow_note touch touch_note walk_note
  fetch_paged k p pa z n b e f d g =
      rw (sym e ∙ f) (ap (λ (v : Answer). response v (journaled n b)) g ∙ ap (λ (t : Journaled). response (load 2 t.memory pa) t) d)

-- k is the walk of i, the address with its low bit 0
module _ (r : Regime) (user : Bool) (stb x i : ℕ) (m : Memory) (a : Journal) (k : Walk) (there : i ≡ x / 2 * 2) (is : k ≡ walk user stb Fetch i m) where
  found : k ≡ walk user stb Fetch (x / 2 * 2) m
  found = is ∙ ap (λ (n : ℕ). walk user stb Fetch n m) there

  pub text_fault : (c : ℕ) (z : Answer) → k ≡ Fault c → z ≡ raised c
      → response z (journaled m a) ≡ followed (fetch r x) (walk user stb Fetch (x / 2 * 2) m) (journaled m a)
  text_fault c z f g = fetch_fault_law r x m a (walk user stb Fetch (x / 2 * 2) m) k c z found f g

  pub text_direct : (pa : ℕ) (z : Answer) → k ≡ Direct pa → z ≡ load 2 m pa
      → response z (journaled m a) ≡ followed (fetch r x) (walk user stb Fetch (x / 2 * 2) m) (journaled m a)
  text_direct pa z f g = fetch_direct r x m a (walk user stb Fetch (x / 2 * 2) m) k pa z found f g

  pub text_paged : (p pa : ℕ) (z : Answer) (n : Memory) (b : Journal) → k ≡ Paged p pa
      → journaled n b ≡ journaled (recorded Fetch p m) (entry_note Fetch p m a) → z ≡ load 2 n pa
      → response z (journaled n b) ≡ followed (fetch r x) (walk user stb Fetch (x / 2 * 2) m) (journaled m a)
  text_paged p pa z n b f d g = fetch_paged r x m a (walk user stb Fetch (x / 2 * 2) m) k p pa z n b found f d g

pub text_is : (r : Regime) (x : ℕ) → x < 2 ^ 32 → address_of (fetch r x) ≡ x / 2 * 2
text_is r x h = ap (λ (n : ℕ). n / 2 * 2) (word_is x h)

pub even : (r : Regime) (x : ℕ) → aligned (fetch r x) ≡ true
even r x = eq-eqb (x % 2 ^ 32 / 2 * 2 % 2) 0 (omega arith)

module _ (stb : ℕ) (user translated : Bool) (x : ℕ) (m : Memory) (a : Journal) where
  pub fetch_virtual : (g : Response Journaled Answer) → x < 2 ^ 32 → translated ≡ true
      → g ≡ followed (fetch (regime_for stb user true) x) (walk user stb Fetch (x / 2 * 2) m) (journaled m a) → g ≡ logging (fetch (regime_for stb user translated) x) (journaled m a)
  fetch_virtual g h v i =
      i ∙ virtual_is (fetch (regime_for stb user true) x) stb (x / 2 * 2) user Fetch (journaled m a) refl (text_is (regime_for stb user true) x h) (even (regime_for stb user true) x) refl
      ∙ ap (λ (c : Bool). logging (fetch (regime_for stb user c) x) (journaled m a)) (sym v)

  pub fetch_physical : (i : ℕ) (z : Answer) → x < 2 ^ 32 → translated ≡ false → i ≡ x / 2 * 2 → z ≡ load 2 m i → response z (journaled m a) ≡ logging (fetch (regime_for stb user translated) x) (journaled m a)
  fetch_physical i z h v e g =
      fetch_direct (regime_for stb user false) x m a (Direct (x / 2 * 2)) (Direct (x / 2 * 2)) (x / 2 * 2) z refl refl (g ∙ ap (load 2 m) e)
      ∙ physical_is (fetch (regime_for stb user false) x) stb (x / 2 * 2) user Fetch (journaled m a) refl (text_is (regime_for stb user false) x h) (even (regime_for stb user false) x) refl
      ∙ ap (λ (c : Bool). logging (fetch (regime_for stb user c) x) (journaled m a)) (sym v)

-- ---- checks of stores

module _ (stb : ℕ) (user : Bool) (x : ℕ) (m : Memory) where
  checked : address_of (probe (regime_for stb user true) x) ≡ x → followed (probe (regime_for stb user true) x) (walk user stb Write x m) (only_memory m) ≡ logging (probe (regime_for stb user true) x) (only_memory m)
  checked e = virtual_is (probe (regime_for stb user true) x) stb x user Write (only_memory m) refl e (eq-eqb (x % 2 ^ 32 % 1) 0 (omega arith)) refl

  pub probe_write : (t : Bool) (k : Walk) (c : ℕ) (z : Answer) → x < 2 ^ 32 → t ≡ true → k ≡ walk user stb Write x m → k ≡ Fault c → c ≡ 9 → z ≡ raised 8
      → response z (only_memory m) ≡ logging (probe (regime_for stb user t) x) (only_memory m)
  unfolding followed follow follow_note
  probe_write t k c z h v e f n g =
      rw v (sym (rw (sym e ∙ f, n, g) refl) ∙ checked (word_is x h))

  pub probe_fault : (t : Bool) (k : Walk) (c : ℕ) (z : Answer) → x < 2 ^ 32 → t ≡ true → k ≡ walk user stb Write x m → k ≡ Fault c → (c ≡ 9 → ⊥) → z ≡ raised c
      → response z (only_memory m) ≡ logging (probe (regime_for stb user t) x) (only_memory m)
  unfolding followed follow follow_note
  probe_fault t k c z h v e f n g = rw v (sym (rw (sym e ∙ f, ne_eqb _ _ n, g) refl) ∙ checked (word_is x h))

  pub probe_direct : (t : Bool) (k : Walk) (pa : ℕ) (z : Answer) → x < 2 ^ 32 → t ≡ true → k ≡ walk user stb Write x m → k ≡ Direct pa → z ≡ good 0
      → response z (only_memory m) ≡ logging (probe (regime_for stb user t) x) (only_memory m)
  unfolding followed follow follow_note touch touch_note
  probe_direct t k pa z h v e f g = rw v (sym (rw (sym e ∙ f, g) refl) ∙ checked (word_is x h))

  pub probe_paged : (t : Bool) (k : Walk) (p pa : ℕ) (z : Answer) → x < 2 ^ 32 → t ≡ true → k ≡ walk user stb Write x m → k ≡ Paged p pa → z ≡ good 0
      → response z (only_memory m) ≡ logging (probe (regime_for stb user t) x) (only_memory m)
  unfolding followed follow follow_note touch touch_note walk_note
  probe_paged t k p pa z h v e f g = rw v (sym (rw (sym e ∙ f, g) refl) ∙ checked (word_is x h))

  pub probe_physical : (t : Bool) (z : Answer) → x < 2 ^ 32 → t ≡ false → z ≡ good 0 → response z (only_memory m) ≡ logging (probe (regime_for stb user t) x) (only_memory m)
  unfolding followed follow follow_note touch touch_note
  probe_physical t z h v g =
      rw (v, g) (physical_is (probe (regime_for stb user false) x) stb x user Write (only_memory m) refl (word_is x h) (eq-eqb (x % 2 ^ 32 % 1) 0 (omega arith)) refl)

-- ---- alignment by the width's case

pub fits_half : (w : Width) (a : ℕ) → w ≡ Half → eqb (a % 2) 0 ≡ fits_width w a
fits_half w a e = ap (λ (v : Width). fits_width v a) (sym e)

pub fits_word : (w : Width) (a : ℕ) → w ≡ Word → eqb (a % 4) 0 ≡ fits_width w a
fits_word w a e = ap (λ (v : Width). fits_width v a) (sym e)
