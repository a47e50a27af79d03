-- One access at user level, and every program of such accesses, on two memories that are equal but for hidden pages.
-- Assumes nothing.
use Prim.Native.Nat.{ℕ, ◌+◌, ◌%◌, ◌^◌, ◌<◌, ◌≤◌}
use mathlib.Core.Path.{◌≡◌, refl, ap, ◌∙◌}
use mathlib.Core.Logic.{inr}
use mathlib.Core.Bool.{Bool, true, false, cond}
use native.Mathlib.Omega.{arith}
use borrow.Author.Tests.{eqb-true}
use Rattle.word.specs.declared.Width.{Width}
use Rattle.word.specs.declared.Width.TheVariants.{Byte, Half, Word}
use Rattle.word.specs.Widths.{bytes_of}
use Rattle.memory.specs.Answers.{raised}
use Rattle.memory.specs.Bytes.{Memory, stored, holds, load, store_answer, store_memory}
use Rattle.memory.proofs.ByteLaws.{number_same}
use Rattle.mmu.specs.declared.AccessKind.{AccessKind}
use Rattle.mmu.specs.declared.AccessKind.TheVariants.{Fetch, Read, Write}
use Rattle.mmu.specs.declared.Regime.{Regime}
use Rattle.mmu.specs.declared.Walk.{Walk}
use Rattle.mmu.specs.declared.Walk.TheVariants.{Fault, Direct, Paged}
use Rattle.mmu.specs.Walk.{walk, route, recorded}
use Rattle.mmu.proofs.ShapeLaws.{walk_paged}
use Rattle.memory.specs.Exceptions.{alignment_fault}
use Rattle.access_spec.specs.Access.{Access, fetch, read, write, probe, regime_of, access_kind_of, address_of, alignment, aligned, Response, response, touch, noted, follow, access}
use Rattle.access_spec.proofs.InterpretLaws.{Alike}
use Rattle.isolation.specs.Sealed.{page, Leads, PageWord, Sealed, Agree, HiddenKept}
use Rattle.isolation.proofs.TableLaws.{Like, walk_like, sealed_like, walk_offset, page_aligned}
use Rattle.isolation.proofs.ChangeLaws.{Inside, recorded_like, stored_like, agree_like, recorded_agree, stored_agree, recorded_kept, stored_kept, kept_trans}

-- an aligned access stays in its word and its page
inside_width : (w : Width) (va pa : ℕ) → va % bytes_of w ≡ 0 → pa % 4096 ≡ va % 4096 → Inside pa (bytes_of w)
inside_width Byte va pa a o = record { word = λ i g h. omega arith; page = λ i g h. omega arith }
inside_width Half va pa a o = record { word = λ i g h. omega arith; page = λ i g h. omega arith }
inside_width Word va pa a o = record { word = λ i g h. omega arith; page = λ i g h. omega arith }

inside : (q : Access) (pa : ℕ) → address_of q % alignment q ≡ 0 → pa % 4096 ≡ address_of q % 4096 → Inside pa (alignment q)
inside (fetch r a) pa e o = inside_width Half (address_of (fetch r a)) pa e o
inside (read r w a) pa e o = inside_width w (address_of (read r w a)) pa e o
inside (write r w a v) pa e o = inside_width w (address_of (write r w a v)) pa e o
inside (probe r a) pa e o = inside_width Byte (address_of (probe r a)) pa e o

address_fits : (q : Access) → address_of q < 2 ^ 32
address_fits (fetch r a) = omega arith
address_fits (read r w a) = omega arith
address_fits (write r w a v) = omega arith
address_fits (probe r a) = omega arith

-- at user level with virtual addressing a route is the walk at user level
route_user : (r : Regime) (k : AccessKind) (va : ℕ) (m : Memory) → r.user ≡ true → r.translated ≡ true → route r k va m ≡ walk true r.stb k va m
unfolding route
route_user r k va m u t = rw (t, u) refl

module _ (H : ℕ → Type 0) (stb : ℕ) (a₀ b₀ : Memory) where
  -- what holds of the two memories between two accesses
  pub record Inv (a b : Memory) : Type 0 where
    pub agree : Agree H a b
    pub seal : Sealed H stb a
    pub kept_a : HiddenKept H a₀ a
    pub kept_b : HiddenKept H b₀ b

  abbrev Twin : {A : Type 0} → Response Memory A → Response Memory A → Type 0
  Twin x y = Alike Inv x y

  inv_next : (a b c d : Memory) → Inv a b → Like stb a c → Agree H c d → HiddenKept H a c → HiddenKept H b d → Inv c d
  inv_next a b c d i l g k j =
      record {
        agree = g;
        seal = sealed_like stb a c l H i.seal;
        kept_a = kept_trans H stb a₀ a c i.kept_a k;
        kept_b = kept_trans H stb b₀ b d i.kept_b j;
      }

  recorded_inv : (k : AccessKind) (a b : Memory) (p : ℕ) → Inv a b → PageWord stb a p → Inv (recorded k p a) (recorded k p b)
  recorded_inv k a b p i t =
      let even = page_aligned stb a p t in
      let e : page (p + 3) ≡ page p = omega arith in
      let n : H (page (p + 3)) → ⊥ = λ h. i.seal.unhidden p (inr t) (rw e at h) in
      inv_next a b (recorded k p a) (recorded k p b) i (recorded_like H stb k a p i.seal t)
      (recorded_agree H stb k a b p n i.agree) (recorded_kept H stb k a p n) (recorded_kept H stb k b p n)

  stored_inv : (n pa v : ℕ) (a b : Memory) → Inv a b → Leads stb a Write pa → Inside pa n → Inv (stored n a pa v) (stored n b pa v)
  stored_inv n pa v a b i l s =
      let h : (x : ℕ) → pa ≤ x → x < pa + n → H (page x) → ⊥ = λ x g f y. i.seal.unreached Write pa l (rw (s.page x g f) at y) in
      inv_next a b (stored n a pa v) (stored n b pa v) i (stored_like H stb n a pa v i.seal l s)
      (stored_agree H stb n a b pa v i.agree) (stored_kept H stb n a pa v h) (stored_kept H stb n b pa v h)

  store_inv : (n pa v : ℕ) (a b : Memory) → Inv a b → Leads stb a Write pa → Inside pa n → Inv (store_memory n a pa v) (store_memory n b pa v)
  unfolding store_memory
  store_inv n pa v a b i l s = rw (← i.agree.len) (go (holds a pa n))
    where
      go : (t : Bool) → Inv (cond t (stored n a pa v) a) (cond t (stored n b pa v) b)
      go true = stored_inv n pa v a b i l s
      go false = i

  load_inv : (n : ℕ) (k : AccessKind) (pa : ℕ) (a b : Memory) → Inv a b → Leads stb a k pa → Inside pa n → load n a pa ≡ load n b pa
  unfolding load
  load_inv n k pa a b i l s =
      rw (i.agree.len, number_same n a b pa λ x g h. i.agree.same x λ y. i.seal.unreached k pa l (rw (s.page x g h) at y)) refl

  touch_twin : (q : Access) (pa : ℕ) (a b : Memory) → Inv a b → Leads stb a (access_kind_of q) pa → Inside pa (alignment q)
      → Twin (touch q pa a) (touch q pa b)
  unfolding touch store_answer
  touch_twin (fetch r va) pa a b i l s = record { out = load_inv 2 Fetch pa a b i l s; world = i }
  touch_twin (read r w va) pa a b i l s = record { out = load_inv (bytes_of w) Read pa a b i l s; world = i }
  touch_twin (write r w va v) pa a b i l s = record { out = rw i.agree.len refl; world = store_inv (bytes_of w) pa v a b i l s }
  touch_twin (probe r va) pa a b i l s = record { out = refl; world = i }

  noted_inv : (q : Access) (a b : Memory) (p : ℕ) → Inv a b → PageWord stb a p → Inv (noted q p a) (noted q p b)
  noted_inv (fetch r va) a b p i t = recorded_inv Fetch a b p i t
  noted_inv (read r w va) a b p i t = recorded_inv Read a b p i t
  noted_inv (write r w va v) a b p i t = recorded_inv Write a b p i t
  noted_inv (probe r va) a b p i t = i

  noted_like : (q : Access) (a : Memory) (p : ℕ) → Sealed H stb a → PageWord stb a p → Like stb a (noted q p a)
  noted_like (fetch r va) a p s t = recorded_like H stb Fetch a p s t
  noted_like (read r w va) a p s t = recorded_like H stb Read a p s t
  noted_like (write r w va v) a p s t = recorded_like H stb Write a p s t
  noted_like (probe r va) a p s t = agree_like H stb a a (record { len = refl; same = λ x d. refl }) s

  follow_twin : (q : Access) (a b : Memory) → Inv a b → address_of q % alignment q ≡ 0 → (x : Walk)
      → walk true stb (access_kind_of q) (address_of q) a ≡ x → Twin (follow q a x) (follow q b x)
  unfolding follow
  follow_twin q a b i al (Fault c) e = record { out = refl; world = i }
  follow_twin q a b i al (Direct pa) e =
      touch_twin q pa a b i (record { va = address_of q; virtual = address_fits q; there = rw e refl })
      (inside q pa al (walk_offset stb (access_kind_of q) (address_of q) a pa (rw e refl)))
  follow_twin q a b i al (Paged p pa) e =
      let t : PageWord stb a p = record { va = address_of q; virtual = address_fits q; here = (walk_paged true stb (access_kind_of q) (address_of q) a p pa e).found } in
      let l = walk_like stb (access_kind_of q) (address_of q) a (noted q p a) (address_fits q) (noted_like q a p i.seal t) in
      touch_twin q pa (noted q p a) (noted q p b) (noted_inv q a b p i t)
      (record { va = address_of q; virtual = address_fits q; there = rw (l, e) refl })
      (inside q pa al (walk_offset stb (access_kind_of q) (address_of q) a pa (rw e refl)))

  -- one access
  pub access_twin : (q : Access) → (regime_of q).stb ≡ stb → (regime_of q).user ≡ true → (regime_of q).translated ≡ true → (a b : Memory) → Inv a b
      → Twin (access q a) (access q b)
  unfolding access
  access_twin q s u t a b i =
      rw (routed a, routed b, walk_like stb (access_kind_of q) (address_of q) a b (address_fits q) (agree_like H stb a b i.agree i.seal))
      (go (aligned q) refl)
    where
      routed : (m : Memory) → route (regime_of q) (access_kind_of q) (address_of q) m ≡ walk true stb (access_kind_of q) (address_of q) m
      routed m = route_user (regime_of q) (access_kind_of q) (address_of q) m u t ∙ ap (λ (x : ℕ). walk true x (access_kind_of q) (address_of q) m) s

      go : (t : Bool) → aligned q ≡ t
          → Twin (cond t (follow q a (walk true stb (access_kind_of q) (address_of q) a)) (response (raised alignment_fault) a))
          (cond t (follow q b (walk true stb (access_kind_of q) (address_of q) a)) (response (raised alignment_fault) b))
      go true e = follow_twin q a b i (eqb-true _ _ e) (walk true stb (access_kind_of q) (address_of q) a) refl
      go false e = record { out = refl; world = i }
