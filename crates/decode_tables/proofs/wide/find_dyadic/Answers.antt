use mathlib.Core.Path.{◌≡◌, sym, refl}
use lib.ListN.{get_or-eq_default}
use Rattle.word.proofs.MatchLaws.{base, climb, within}
use Rattle.isa.specs.declared.Entry.TheVariants as wide
use Rattle.isa.specs.Tables.{dyadic_of, dyadic_table}
use Rattle.decode_tables.proofs.wide.find_dyadic.Goals as goal

pub returns-in-14-to-28 : goal.returns-in-14-to-28
returns-in-14-to-28 c = within (λ n. wide.Unimplemented ≡ dyadic_of n) 14 15 (((((((((((((((tt, refl), refl), refl), refl), refl), refl), refl), refl), refl), refl), refl), refl), refl), refl), refl) _ (climb _ 12 2 _ c.in-14-to-28.if-code-lt12-own.false (base _ 29 11 _ (base _ 44 12 _ (base _ 60 4 _ c.in-14-to-28.in_default-own.rest)))) c.in-14-to-28.if-code-lt29-own.true

pub returns-in-40-to-43 : goal.returns-in-40-to-43
returns-in-40-to-43 c = within (λ n. wide.Unimplemented ≡ dyadic_of n) 40 4 ((((tt, refl), refl), refl), refl) _ (climb _ 29 11 _ c.in-40-to-43.if-code-lt29-own.false (base _ 44 12 _ (base _ 60 4 _ c.in-40-to-43.in_default-own.rest))) c.in-40-to-43.if-code-lt44-own.true

pub returns-in-56-to-59 : goal.returns-in-56-to-59
returns-in-56-to-59 c = within (λ n. wide.Unimplemented ≡ dyadic_of n) 56 4 ((((tt, refl), refl), refl), refl) _ (climb _ 44 12 _ c.in-56-to-59.if-code-lt44-own.false (base _ 60 4 _ c.in-56-to-59.in_default-own.rest)) c.in-56-to-59.if-code-lt60-own.true

pub returns-in_default : goal.returns-in_default
returns-in_default c = sym (get_or-eq_default dyadic_table wide.Unlisted (climb _ 60 4 _ c.in_default.if-code-lt60-own.false c.in_default.in_default-own.rest))
