-- The stack cache (1.4.1): sixteen quad-words of four words, address a in quad-word a / 16 modulo 16.
-- Assumes nothing.
use Rattle.std.specs.Prelude.{ℕ, zero, suc, ◌+◌, ◌-◌, ◌*◌, ◌/◌, ◌%◌, ◌^◌, List, [], ◌∷◌, ◌++◌, get_or, set}

abbrev pub Cache : Type 0
Cache = List (List ℕ)

abbrev pub cache_word : Cache → ℕ → ℕ
cache_word q a = get_or (get_or q (a / 16 % 16) []) (a / 4 % 4) 0

abbrev pub put_word : Cache → ℕ → ℕ → Cache
put_word q a v = set q (a / 16 % 16) (set (get_or q (a / 16 % 16) []) (a / 4 % 4) v)

-- n bytes at the place a of a word, its most significant byte first: the bits below them
abbrev pub below : ℕ → ℕ → ℕ
below n a = 256 ^ (4 - n - a % 4)

abbrev pub part : ℕ → ℕ → ℕ → ℕ
part n a w = w / below n a % 256 ^ n

-- the word with the low n bytes of v there
abbrev pub inserted : ℕ → ℕ → ℕ → ℕ → ℕ
inserted n a v w = w / (below n a * 256 ^ n) * (below n a * 256 ^ n) + v % 256 ^ n * below n a + w % below n a

unfoldable pub cache_read : ℕ → Cache → ℕ → ℕ
cache_read n q a = part n a (cache_word q a)

unfoldable pub cache_write : ℕ → Cache → ℕ → ℕ → Cache
cache_write n q a v = put_word q a (inserted n a v (cache_word q a))

-- ---- one flat array of 64 words, as the machine record holds it

abbrev pub quad_of : List ℕ → ℕ → List ℕ
quad_of f i = get_or f (i * 4) 0 ∷ get_or f (i * 4 + 1) 0 ∷ get_or f (i * 4 + 2) 0 ∷ get_or f (i * 4 + 3) 0 ∷ []

-- the first n quad-words of a flat array
abbrev pub quads_to : ℕ → List ℕ → Cache
quads_to zero f = []
quads_to (suc n) f = quads_to n f ++ (quad_of f n ∷ [])

unfoldable pub quads_of : List ℕ → Cache
quads_of f = quads_to 16 f

abbrev pub words_of : List ℕ → List ℕ
words_of w = get_or w 0 0 ∷ get_or w 1 0 ∷ get_or w 2 0 ∷ get_or w 3 0 ∷ []

abbrev pub flat_to : ℕ → Cache → List ℕ
flat_to zero q = []
flat_to (suc n) q = flat_to n q ++ words_of (get_or q n [])

unfoldable pub flat_of : Cache → List ℕ
flat_of q = flat_to 16 q
