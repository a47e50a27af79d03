-- Every parcel has texts of three and of five, and one that is set apart has texts at which it differs.
-- Assumes nothing.
use Prim.Native.Nat.{ℕ, ◌+◌, ◌-◌, ◌/◌, ◌%◌, ◌<◌, ◌≤◌}
use mathlib.Core.Path.{◌≡◌, refl}
use mathlib.Core.Bool.{Bool, true, false, cond}
use native.Mathlib.Omega.{arith}
use lib.Dec.{eqb}
use borrow.Author.Tests.{eqb-true, ne_eqb}
use Rattle.word.proofs.CaseLaws.{by_test}
use Rattle.isa.specs.declared.ModeEntry.{ModeEntry}
use Rattle.isa.specs.declared.ModeEntry.TheVariants as mode
use Rattle.isa.specs.declared.Text.{Text}
use Rattle.isa.specs.Lengths.{following}
use Rattle.isa.specs.Decode.{joined, mode_entry, cpu_prefix}
use Rattle.isa.specs.Carried.{called_for}
use Rattle.isa.specs.declared.Mode.{Mode}
use Rattle.isa.specs.declared.Mode.TheVariants.{AbsoluteByte}
use Rattle.isa.specs.Decode.{extended}
use Rattle.form_bit.specs.Shapes.{Extends}
use Rattle.form_bit.specs.SetApart.{return_offset, enter_offset, by_sign}
use Rattle.form_bit.specs.FormBit.{is_prefixed, form_text, Paired}
use Rattle.form_bit.specs.EveryParcel.{EveryParcel}
use Rattle.form_bit.proofs.TextLaws.{following_three, following_five}
use Rattle.form_bit.proofs.SetApartLaws.{set_apart_below}
use Rattle.form_bit.proofs.FormBit.{set_apart}

-- a parcel and four after it, of which n are called for, after a prefix or without
abbrev sample : Bool → ℕ → ℕ → ℕ → Text
sample true n p a = record { count = n + 1; p0 = cpu_prefix; p1 = p; p2 = a; p3 = 0; p4 = 0; p5 = 0 }
sample false n p a = record { count = n; p0 = p; p1 = a; p2 = 0; p3 = 0; p4 = 0; p5 = 0 }

no_prefix : (p : ℕ) → 0x8000 ≤ p → eqb p cpu_prefix ≡ false
no_prefix p l = ne_eqb p cpu_prefix (λ z. absurd (omega (arith, z)))

sample_prefixed : (pre : Bool) (n p a : ℕ) → 0x8000 ≤ p → is_prefixed (sample pre n p a) ≡ pre
sample_prefixed true n p a l = refl
sample_prefixed false n p a l = no_prefix p l

sample_form : (pre : Bool) (n p a : ℕ) → 0x8000 ≤ p → form_text (sample pre n p a) ≡ sample false n p a
sample_form true n p a l = let e : n + 1 - 1 ≡ n = omega arith in rw e refl
sample_form false n p a l = rw (no_prefix p l) refl

sample_whole : (pre : Bool) (n p a : ℕ) → 0x8000 ≤ p → following p + 1 ≡ n → called_for (sample pre n p a) ≤ (sample pre n p a).count
sample_whole true n p a l e = omega (arith, e)
sample_whole false n p a l e = rw (no_prefix p l) (omega (arith, e))

module _ (pre : Bool) (q a : ℕ) where
  abbrev sample_three : Text
  sample_three = sample pre 3 (0x8000 + q) a

  abbrev sample_five : Text
  sample_five = sample pre 5 (0xC000 + q) 0

  form_three : form_text sample_three ≡ sample false 3 (0x8000 + q) a
  form_three = sample_form pre 3 (0x8000 + q) a (omega arith)

  form_five : form_text sample_five ≡ sample false 5 (0xC000 + q) 0
  form_five = sample_form pre 5 (0xC000 + q) 0 (omega arith)

  sample_paired : q < 0x4000 → Paired pre q sample_three sample_five
  sample_paired l =
      record {
        below = l;
        prefix_three = sample_prefixed pre 3 (0x8000 + q) a (omega arith);
        prefix_five = sample_prefixed pre 5 (0xC000 + q) 0 (omega arith);
        first_three = rw form_three refl;
        first_five = rw form_five refl;
        whole_three = sample_whole pre 3 (0x8000 + q) a (omega arith) (omega (arith, following_three (0x8000 + q) (omega arith) (omega arith)));
        whole_five = sample_whole pre 5 (0xC000 + q) 0 (omega arith) (omega (arith, following_five (0xC000 + q) (omega arith)));
      }

-- a field of zeros extends one
zero_extended : (m : Mode) → 0 ≡ extended m 0
zero_extended AbsoluteByte = refl
zero_extended m = refl

extends_zero : (e : ModeEntry) → Extends e 0 0
extends_zero (mode.General m) = zero_extended m
extends_zero mode.Register = refl
extends_zero mode.Unlisted = tt

-- a field that makes the operand negative for ENTER alone
abbrev sign_field : ℕ → ℕ
sign_field q = cond (eqb q enter_offset) 0x8000 0

sign_told : (pre : Bool) (q : ℕ) → by_sign pre q (joined (sign_field q) 0) ≡ false
sign_told false q = refl
sign_told true q =
    by_test (eqb q enter_offset)
    (λ e. let z : q ≡ enter_offset = eqb-true q enter_offset e in rw z refl)
    (λ e. by_test (eqb q return_offset) (λ f. rw (e, f) refl) (λ f. rw (e, f) refl))

pub every_parcel : EveryParcel
every_parcel =
    record {
      each = λ pre q l.
          record {
            three = sample_three pre q 0;
            five = sample_five pre q 0;
            texts = sample_paired pre q 0 l;
            fields =
                record {
                  source = rw (form_three pre q 0, form_five pre q 0) (extends_zero (mode_entry pre (q / 16 % 16)));
                  destination = rw (form_three pre q 0, form_five pre q 0) (extends_zero (mode_entry pre (q % 16)));
                };
          };
      each_listed = λ pre q e.
          let l : q < 0x4000 = omega (arith, set_apart_below pre q e) in
          record {
            three = sample_three pre q (sign_field q);
            five = sample_five pre q (sign_field q);
            texts = sample_paired pre q (sign_field q) l;
            differ =
                set_apart pre q (sample_three pre q (sign_field q)) (sample_five pre q (sign_field q)) (sample_paired pre q (sign_field q) l) e
                (rw (form_three pre q (sign_field q)) (sign_told pre q));
          };
      text_answered = λ t. record { lifetimes = tt; answered = λ _. refl };
      lent_answered = λ κs s. record { lifetimes = κs; reference = s; text = refl; answered = λ _. refl };
    }
