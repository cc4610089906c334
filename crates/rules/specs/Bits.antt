-- Document 01, 'The sheet': fields of bits, the most significant first, and bytes as lists of bits.
use Rattle.std.specs.Prelude.{ℕ, zero, suc, ◌+◌, ◌*◌, ◌/◌, ◌%◌, ◌^◌, ◌<◌, List, [], ◌∷◌, ◌++◌, length, take, drop}

-- the low w bits of v, most significant first
unfoldable pub digits : ℕ → ℕ → List ℕ
digits zero v = []
digits (suc w) v = v / 2 ^ w % 2 ∷ digits w v

-- the number that bits spell
unfoldable pub val : List ℕ → ℕ
val [] = 0
val (x ∷ xs) = x * 2 ^ length xs + val xs

-- numbers of w bits each, one after the other
unfoldable pub pack : ℕ → List ℕ → List ℕ
pack w [] = []
pack w (v ∷ vs) = digits w v ++ pack w vs

-- n numbers of w bits each, from the start of the bits
unfoldable pub unpack : ℕ → ℕ → List ℕ → List ℕ
unpack w zero l = []
unpack w (suc n) l = val (take w l) ∷ unpack w n (drop w l)

-- the bits of bytes
abbrev pub bits : List ℕ → List ℕ
bits s = pack 8 s

-- the bytes that bits fill
abbrev pub bytes : List ℕ → List ℕ
bytes l = unpack 8 (length l / 8) l

-- the number in the field of w bits that starts at bit i of the bytes
abbrev pub field : List ℕ → ℕ → ℕ → ℕ
field s i w = val (take w (drop i (bits s)))

-- every number of the list is below m: bits below 2, bytes below 256
pub data Below (m : ℕ) : List ℕ → Type 0 where
  nil : Below m []
  cons : {x : ℕ} {xs : List ℕ} → x < m → Below m xs → Below m (x ∷ xs)
