-- A record has 40 bits, and a film five bytes a record.
use mathlib.Core.Path.{◌≡◌, refl}
use mathlib.Core.List.{List, [], ◌∷◌}
use Prim.Native.Nat.{◌*◌}
use native.Mathlib.Omega.{arith}
use lib.ListN.{length, length-append}
use Rattle.rules.specs.Bits.{digits, bytes}
use Rattle.rules.specs.Film.{Rec, across, upright, rec_bits, film_bytes}
use Rattle.rules.proofs.Fields.{length-bytes}

pub rec_bits-length : (r : Rec) → length (rec_bits r) ≡ 40
unfolding rec_bits digits
rec_bits-length (across n h l r) = refl
rec_bits-length (upright n l x h) = refl

pub length-film_bytes : (rs : List Rec) → length (film_bytes rs) ≡ 5 * length rs
unfolding film_bytes
length-film_bytes [] = refl
length-film_bytes (r ∷ rs) =
    omega (arith, length-append (bytes (rec_bits r)) (film_bytes rs), length-bytes 5 (rec_bits r) (rec_bits-length r), length-film_bytes rs)
