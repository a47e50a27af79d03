-- The ways out of an attempt, and what it says of the attempts of both kinds of run.
-- Assumes nothing.
use Prim.Native.Nat.{ℕ, ◌%◌, ◌^◌, ◌<◌, ◌≤◌}
use mathlib.Core.Path.{◌≡◌, refl, sym, ap, ◌∙◌}
use mathlib.Core.Logic.{◌⊎◌, ⊎_elim}
use mathlib.Core.Bool.{Bool, true, false}
use lib.Dec.{ltb}
use native.Mathlib.Omega.{arith}
use borrow.Author.Tests.{ne_eqb, eq-eqb, lt-ltb, le-ltb, ltb-true, ltb-false}
use Rattle.word.proofs.CaseLaws.{by_test}
use Rattle.isa.specs.declared.Text.{Text}
use Rattle.std.specs.Prelude.{Err}
use Rattle.isa.specs.declared.Undecoded.{Undecoded}
use Rattle.isa.specs.declared.Undecoded.TheVariants.{Illegal, Unimplemented, Truncated}
use Rattle.isa.specs.Answers.{decoded_numbers, Decoded}
use Rattle.isa.specs.Decode.{decode_of}
use Rattle.isa.proofs.AnswerLaws.{same_decoded}
use Rattle.memory.specs.Answers.{Answer as Answered, good, raised, answer_of}
use Rattle.access_spec.specs.Access.{Response, response}
use Rattle.access_spec.specs.Program.{Program, ret, interpret}
use Rattle.access_spec.specs.Journal.{Journaled, logging}
use Rattle.machine.specs.Registers.{Bank}
use Rattle.machine.specs.Cache.{Cache}
use Rattle.machine.specs.Status.{Cpu, cpu}
use Rattle.datapath.specs.declared.text.Fetched.{Fetched}
use Rattle.datapath.specs.Parts.{Out, ok, stop, onward, done, ◌>>=◌}
use Rattle.datapath.specs.Text.{fetch_text}
use Rattle.datapath.specs.Code.{text_out}
use Rattle.datapath.proofs.BindLaws.{bind}
use Rattle.step_spec.specs.Step.{Dispatch, to_vector, dispatch, fetch_instruction, Acted, finished, sequenced, act, attempt}
use Rattle.run_spec.specs.Run.{ConfinedActed, carried_out, fetched, act_confined, confined_attempt}
use Rattle.exec.specs.Code.{Attempted, acted, only_fetched, of_confined, act_of, attempt_of, acted_as, attempted_as, confined_as, out_by, attempted_out, acted_out, confined_out}
use Rattle.exec.proofs.ActLaws.{mapped, renamed}

-- ---- an answer by its variant

module _ (confined : Bool) (c : Cpu) (a : Decoded) (t : Journaled) (g : Response Journaled (Out Attempted)) where
  -- what is met, or the illegal instruction that it is not
  pub answer_dispatched : (m : Dispatch) → dispatch c a ≡ ok m → g ≡ interpret logging (act_of confined c m) t → g ≡ interpret logging (onward (act_of confined c) (dispatch c a)) t
  unfolding onward
  answer_dispatched m h e = rw h e

pub answer_illegal : (confined : Bool) (b : Bank) (q : Cache) (a : Decoded) (t : Journaled) (x : ℕ) → answer_of x ≡ raised 3 → dispatch (cpu b q) a ≡ stop 3 (cpu b q)
    → response (attempted_out (answer_of x) b q) t ≡ interpret logging (onward (act_of confined (cpu b q)) (dispatch (cpu b q) a)) t
unfolding onward interpret
answer_illegal confined b q a t x e h = rw (e, h) refl

-- what is met where there is no instruction
module _ (c : Cpu) (a : Decoded) (e : Undecoded) (h : a ≡ Err e) where
  pub none_dispatched : (v : ℕ) → e ≡ Unimplemented v → dispatch c a ≡ ok (to_vector v)
  none_dispatched v k = ap (dispatch c) h ∙ ap (λ (u : Undecoded). dispatch c (Err u)) k

  pub none_legal : (e ≡ Illegal) ⊎ (e ≡ Truncated) → dispatch c a ≡ stop 3 c
  none_legal f =
      ap (dispatch c) h ∙ ⊎_elim (λ k. ap (λ (u : Undecoded). dispatch c (Err u)) k) (λ k. ap (λ (u : Undecoded). dispatch c (Err u)) k) f

-- ---- the fetch and what follows it

module _ (confined : Bool) (b : Bank) (q : Cache) (f : Fetched) (t u : Journaled) (e : response (text_out (cpu b q) f) u ≡ interpret logging (fetch_text (cpu b q)) t) where
  abbrev then_dispatched : Text → Out Dispatch
  then_dispatched x = dispatch (cpu b q) (decode_of x)

  -- the fetch by what it gave
  fetched_as : (o : Out Text) → text_out (cpu b q) f ≡ o → interpret logging (fetch_instruction (cpu b q)) t ≡ interpret logging (onward (λ x. ret (then_dispatched x)) o) u
  unfolding fetch_instruction
  fetched_as o h =
      bind (fetch_text (cpu b q)) (λ x. ret (then_dispatched x)) t
      ∙ ap (λ (g : Response Journaled (Out Text)). interpret logging (onward (λ x. ret (then_dispatched x)) g.out) g.world) (sym e)
      ∙ ap (λ (x : Out Text). interpret logging (onward (λ y. ret (then_dispatched y)) x) u) h

  attempted_as_law : (o : Out Text) (m : Out Dispatch) → text_out (cpu b q) f ≡ o → interpret logging (onward (λ x. ret (then_dispatched x)) o) u ≡ response m u
      → interpret logging (attempt_of confined (cpu b q)) t ≡ interpret logging (onward (act_of confined (cpu b q)) m) u
  unfolding attempt_of
  attempted_as_law o m h k =
      bind (fetch_instruction (cpu b q)) (λ x. act_of confined (cpu b q) x) t
      ∙ ap (λ (g : Response Journaled (Out Dispatch)). interpret logging (onward (act_of confined (cpu b q)) g.out) g.world) (fetched_as o h ∙ k)

  pub fetch_stops : (f.fault ≡ 0 → ⊥) → (x n : ℕ) → n ≡ f.fault % 2 ^ 32 → answer_of x ≡ raised n → response (attempted_out (answer_of x) b q) u ≡ interpret logging (attempt_of confined (cpu b q)) t
  unfolding onward interpret
  fetch_stops h x n en ex =
      rw (ex, en) (sym (attempted_as_law (stop (f.fault % 2 ^ 32) (cpu b q)) (stop (f.fault % 2 ^ 32) (cpu b q)) (simp (ne_eqb f.fault 0 h)) refl))

  pub fetch_goes : f.fault ≡ 0 → (a : Decoded) → decoded_numbers a ≡ decoded_numbers (decode_of f.text) → (g : Response Journaled (Out Attempted))
      → g ≡ interpret logging (onward (act_of confined (cpu b q)) (dispatch (cpu b q) a)) u → g ≡ interpret logging (attempt_of confined (cpu b q)) t
  unfolding onward interpret
  fetch_goes h a ea g k =
      k ∙ sym (attempted_as_law (ok f.text) (dispatch (cpu b q) a) (simp (eq-eqb f.fault 0 h)) (ap (λ (x : Decoded). response (dispatch (cpu b q) x) u) (sym (same_decoded a (decode_of f.text) ea))))

-- ---- the attempt of a run that takes events, and the confined one

-- a part after the fetch whose value is only renamed
attempted : {A : Type 0} (c : Cpu) (p : Dispatch → Program (Out A)) (f : A → Attempted) (t : Journaled)
    → interpret logging (fetch_instruction c >>= (λ m. p m >>= (λ a. done (f a)))) t
    ≡ response (mapped f (interpret logging (fetch_instruction c >>= p) t).out) (interpret logging (fetch_instruction c >>= p) t).world
unfolding onward interpret
attempted {A = A} c p f t =
    bind (fetch_instruction c) (λ m. p m >>= (λ a. done (f a))) t
    ∙ go (interpret logging (fetch_instruction c) t).out (interpret logging (fetch_instruction c) t).world
    ∙ ap (λ (g : Response Journaled (Out A)). response (mapped f g.out) g.world) (sym (bind (fetch_instruction c) p t))
  where
    go : (o : Out Dispatch) (u : Journaled) → interpret logging (onward (λ m. p m >>= (λ a. done (f a))) o) u
        ≡ response (mapped f (interpret logging (onward p o) u).out) (interpret logging (onward p o) u).world
    go (ok m) u = renamed (p m) f u
    go (stop e d) u = refl

-- what is told by an answer's number, taken back from what was attempted
module _ {A : Type 0} (value : ℕ → Cpu → A) (f : A → Attempted) (g : Cpu → Attempted → A) (known : (c : Cpu) (v : ℕ) → g c (attempted_as v c) ≡ value v c)
    (back : (c : Cpu) (a : A) → g c (f a) ≡ a) (x : ℕ) (b : Bank) (q : Cache) (u w : Journaled) (o : Out A)
    (e : response (attempted_out (answer_of x) b q) u ≡ response (mapped f o) w) where
  pub answered_back : response (out_by value (answer_of x) b q) u ≡ response o w
  answered_back = sym (told (answer_of x)) ∙ ap (λ (k : Response Journaled (Out Attempted)). response (mapped (g (cpu b q)) k.out) k.world) e ∙ ended_as o
    where
      told : (y : Answered) → response (mapped (g (cpu b q)) (attempted_out y b q)) u ≡ response (out_by value y b q) u
      told (good v) = ap (λ (a : A). response (ok a) u) (known (cpu b q) v)
      told (raised n) = refl

      ended_as : (y : Out A) → response (mapped (g (cpu b q)) (mapped f y)) w ≡ response y w
      ended_as (ok a) = ap (λ (z : A). response (ok z) w) (back (cpu b q) a)
      ended_as (stop n d) = refl

abbrev acted_from : Cpu → Attempted → Acted
acted_from c (acted a) = a
acted_from c (only_fetched n) = sequenced c

abbrev confined_from : Cpu → Attempted → ConfinedActed
confined_from c (acted (finished t d)) = carried_out t d
confined_from c (acted (sequenced d)) = fetched 3
confined_from c (only_fetched n) = fetched n

pub events_attempted : (c : Cpu) (x : ℕ) (b : Bank) (q : Cache) (t u : Journaled) → response (attempted_out (answer_of x) b q) u ≡ interpret logging (attempt_of false c) t
    → response (acted_out (answer_of x) b q) u ≡ interpret logging (attempt c) t
unfolding attempt_of act_of attempt
events_attempted c x b q t u e =
    answered_back acted_as (λ a. acted a) acted_from known (λ d a. refl) x b q u (interpret logging (attempt c) t).world (interpret logging (attempt c) t).out
    (e ∙ attempted c (act c) (λ a. acted a) t)
  where
    known : (d : Cpu) (v : ℕ) → acted_from d (attempted_as v d) ≡ acted_as v d
    known d v =
        by_test (ltb v 4) (λ h. rw h refl) (λ h. let l : 4 ≤ v = ltb-false v 4 h in rw (h, le-ltb v 3 (omega arith)) refl)

pub confined_attempted : (c : Cpu) (x : ℕ) (b : Bank) (q : Cache) (t u : Journaled) → response (attempted_out (answer_of x) b q) u ≡ interpret logging (attempt_of true c) t
    → response (confined_out (answer_of x) b q) u ≡ interpret logging (confined_attempt c) t
unfolding attempt_of act_of confined_attempt
confined_attempted c x b q t u e =
    answered_back confined_as of_confined confined_from known back x b q u (interpret logging (confined_attempt c) t).world (interpret logging (confined_attempt c) t).out
    (e ∙ attempted c (act_confined c) of_confined t)
  where
    known : (d : Cpu) (v : ℕ) → confined_from d (attempted_as v d) ≡ confined_as v d
    known d v =
        by_test (ltb v 3) (λ h. let l : v < 3 = ltb-true v 3 h in rw (h, lt-ltb v 4 (omega arith)) refl)
        (λ h.
        let l : 3 ≤ v = ltb-false v 3 h in
        by_test (ltb v 4) (λ k. let n : v < 4 = ltb-true v 4 k in let three : v ≡ 3 = omega arith in rw three refl) (λ k. rw (h, k) refl))

    back : (d : Cpu) (a : ConfinedActed) → confined_from d (of_confined a) ≡ a
    back d (carried_out k r) = refl
    back d (fetched n) = refl
