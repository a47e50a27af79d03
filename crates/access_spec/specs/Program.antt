-- A program of accesses: it asks, and goes on with the answers. It sees memory in no other way.
-- Assumes nothing.
use Rattle.memory.specs.Answers.{Answer}
use Rattle.memory.specs.Bytes.{Memory}
use Rattle.access_spec.specs.Access.{Access, Response, response, access}

pub data Program (A : Type 0) : Type 0 where
  ret : A → Program A
  ask : Access → (Answer → Program A) → Program A

-- what a world does with an access
abbrev pub Handler : Type 0 → Type 0
Handler W = Access → W → Response W Answer

unfoldable pub interpret : {W A : Type 0} → Handler W → Program A → W → Response W A
interpret h (ret a) w = response a w
interpret h (ask q k) w = interpret h (k (h q w).out) (h q w).world

-- one program after another
unfoldable pub after : {A B : Type 0} → Program A → (A → Program B) → Program B
after (ret a) f = f a
after (ask q k) f = ask q (λ r. after (k r) f)

-- memory alone: what the contracts speak of
abbrev pub plain : Handler Memory
plain q m = access q m
