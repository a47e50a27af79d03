-- Quad-words between the stack cache and memory (1.4.2, ENTER, CATCH, CRET): word by word, translated, stopped by the first fault.
-- Assumes nothing.
use Rattle.std.specs.Prelude.{ℕ, zero, suc, ◌/◌, ◌%◌, Bool, cond, not, ◌&&◌, ◌||◌, [], ◌∷◌, set, eqb, ltb}
use Rattle.word.specs.declared.Width.TheVariants.{Word}
use Rattle.word.specs.Sums.{plus_of, minus_of}
use Rattle.mmu.specs.declared.Regime.{Regime}
use Rattle.access_spec.specs.Access.{read, write}
use Rattle.access_spec.specs.Program.{Program}
use Rattle.machine.specs.Registers.{Bank, word, msp, sp}
use Rattle.machine.specs.Cache.{cache_word}
use Rattle.machine.specs.Status.{Cpu, cpu, reg, with, regime}
use Rattle.datapath.specs.Parts.{Out, done, request, ◌>>=◌}

-- the stack cache's size in bytes
abbrev pub scsize : ℕ
scsize = 256

-- ---- flushing: from MSP down, the words of a quad-word in rising order

unfoldable pub flush_word : Cpu → ℕ → Program (Out ℕ)
flush_word c a = request c (write (regime c.bank) Word a (cache_word c.cache a)) a

-- the quad-word at a to memory; words stored before a fault stay
unfoldable pub flush_quad : Cpu → ℕ → Program (Out Cpu)
flush_quad c a = do
  _ ← flush_word c a
  _ ← flush_word c (plus_of a 4)
  _ ← flush_word c (plus_of a 8)
  _ ← flush_word c (plus_of a 12)
  done (with c msp a)

-- ENTER: as long as words are held, and all of them are to go or too many would be held above the target
abbrev pub may_flush : Bool → ℕ → Bank → Bool
may_flush all target b = not (eqb (word b msp) (word b sp)) && (all || ltb scsize (minus_of (word b msp) target))

unfoldable pub flush : Bool → ℕ → ℕ → Cpu → Program (Out Cpu)
flush all target zero c = done c
flush all target (suc n) c =
    cond (may_flush all target c.bank) (flush_quad c (minus_of (reg c msp) 16) >>= (λ d. flush all target n d)) (done c)

-- ---- filling: from MSP up; a quad-word whose read faults changes no cache word

unfoldable pub fill_word : Cpu → Regime → ℕ → Program (Out ℕ)
fill_word c r a = request c (read r Word a) a

abbrev pub filled : Cpu → ℕ → ℕ → ℕ → ℕ → ℕ → Cpu
filled c a w x y z = with (cpu c.bank (set c.cache (a / 16 % 16) (w ∷ x ∷ y ∷ z ∷ []))) msp (plus_of a 16)

unfoldable pub fill_quad : Cpu → Regime → ℕ → Program (Out Cpu)
fill_quad c r a = do
  w ← fill_word c r a
  x ← fill_word c r (plus_of a 4)
  y ← fill_word c r (plus_of a 8)
  z ← fill_word c r (plus_of a 12)
  done (filled c a w x y z)

-- CATCH: "(MSP < target) && (MSP - SP < SCSIZE)"
abbrev pub may_fill : ℕ → Bank → Bool
may_fill target b = ltb (word b msp) target && ltb (minus_of (word b msp) (word b sp)) scsize

unfoldable pub fill : Regime → ℕ → ℕ → Cpu → Program (Out Cpu)
fill r target zero c = done c
fill r target (suc n) c =
    cond (may_fill target c.bank) (fill_quad c r (reg c msp) >>= (λ d. fill r target n d)) (done c)
