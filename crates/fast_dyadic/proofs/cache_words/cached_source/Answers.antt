use Rattle.fast_dyadic.proofs.CacheWordLaws.{source_constant, source_word}
use native.Mathlib.Omega.{arith}
use Rattle.std.proofs.Common.{rules}
use Rattle.fast_dyadic.proofs.cache_words.cached_source.Goals as goal

pub returns-then-is_constant : goal.returns-then-is_constant
returns-then-is_constant c = λ h w. search (rules, source_constant)

pub returns-then-a-lt-NOWHERE : goal.returns-then-a-lt-NOWHERE
returns-then-a-lt-NOWHERE c = λ h w. search (rules, source_word, c.cached_address-a.ensures c.if-a-lt-NOWHERE.true)

pub returns-else-a-lt-NOWHERE : goal.returns-else-a-lt-NOWHERE
returns-else-a-lt-NOWHERE c = λ h. absurd (omega (arith, h))

pub returns-else-is_stack_word : goal.returns-else-is_stack_word
returns-else-is_stack_word c = λ h. absurd (omega (arith, h))
