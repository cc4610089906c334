-- Rows whose labels number the nets in the order of their first nodes and are 255 at blanks, as the reader gives them back.
use Rattle.std.specs.Prelude.{Bool, not, ◌&&◌, List, [], ◌∷◌, ◌≡◌, ℕ, suc, ◌<◌, eqb}

-- from a node on, with n nets begun before it: a label is that of a net begun, or the next number, or that of blanks, which is no net's
pub data InTurn : ℕ → List ℕ → Type 0 where
  nil : {n : ℕ} → InTurn n []
  old : {n x : ℕ} {l : List ℕ} → x < n → InTurn n l → InTurn n (x ∷ l)
  new : {n x : ℕ} {l : List ℕ} → x ≡ n → n < 255 → InTurn (suc n) l → InTurn n (x ∷ l)
  unjoined : {n x : ℕ} {l : List ℕ} → x ≡ 255 → InTurn n l → InTurn n (x ∷ l)

-- a node with this label begins a net where so many have begun
unfoldable pub begins : (net n : ℕ) → Bool
begins net n = not (eqb net 255) && eqb net n
