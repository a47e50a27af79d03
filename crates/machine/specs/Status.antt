-- What the bits of PSW (Table 1-8) and CONFIG (Table 1-2) say, and the regime of an access.
-- Assumes nothing.
use Rattle.std.specs.Prelude.{ℕ, Bool, false, cond, ◌&&◌, set, leb, ltb}
use Rattle.word.specs.Fields.{bit_of}
use Rattle.mmu.specs.declared.Regime.{Regime}
use Rattle.machine.specs.Registers.{Bank, word, config, msp, psw, sp, isp, stb}
use Rattle.machine.specs.Cache.{Cache}
use Rattle.machine.specs.Bits.{sp_current_bit, user_level_bit, user_little_bit, virtual_bit, kernel_little_bit, stack_cache_bit}

-- registers and cache: all of a machine but its memory
pub record Cpu : Type 0 where
  pub bank : Bank
  pub cache : Cache

abbrev pub cpu : Bank → Cache → Cpu
cpu b q = record { bank = b; cache = q }

-- a register of a machine, and the machine with another word in it
abbrev pub reg : Cpu → ℕ → ℕ
reg c k = word c.bank k

abbrev pub with : Cpu → ℕ → ℕ → Cpu
with c k v = cpu (set c.bank k v) c.cache

abbrev pub is_virtual : Bank → Bool
is_virtual b = bit_of (word b psw) virtual_bit

abbrev pub is_user : Bank → Bool
is_user b = bit_of (word b psw) user_level_bit

abbrev pub sp_current : Bank → Bool
sp_current b = bit_of (word b psw) sp_current_bit

-- the current stack pointer's place in the bank
abbrev pub csp : Bank → ℕ
csp b = cond (sp_current b) sp isp

-- HOUSE: "PSW bit 15 chooses at user level, CONFIG bit 16 at kernel level"
abbrev pub is_little : Bank → Bool
is_little b = cond (is_user b) (bit_of (word b psw) user_little_bit) (bit_of (word b config) kernel_little_bit)

-- "With CONFIG bit 18 set and SP current, a data access at an address from SP up to but not including MSP is to the cache"
abbrev pub cache_on : Bank → Bool
cache_on b = bit_of (word b config) stack_cache_bit && sp_current b

abbrev pub cached : Bank → ℕ → Bool
cached b a = cache_on b && leb (word b sp) a && ltb a (word b msp)

-- how a data access or a fetch goes, and how frames and vectors go: at kernel level
abbrev pub regime : Bank → Regime
regime b = record { stb = word b stb; user = is_user b; translated = is_virtual b }

abbrev pub kernel_regime : Bank → Regime
kernel_regime b = record { stb = word b stb; user = false; translated = is_virtual b }
