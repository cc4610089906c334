-- The film of a sheet as one list: its records by net, then by left column, then vertical before horizontal.
use Rattle.std.specs.Prelude.{Bool, ◌&&◌, ◌||◌, List, [], ◌∷◌, ℕ, ltb, eqb}
use Rattle.rules.specs.Basic.{pick}
use Rattle.rules.specs.Film.{Rec, across, upright, records}
use Rattle.rules.specs.WireRules.{net_of}

-- a horizontal's left column, a vertical's own
unfoldable pub column_of : Rec → ℕ
column_of (across n h l r) = l
column_of (upright n l x h) = x

-- 1 for a horizontal, 0 for a vertical
unfoldable pub flat : Rec → ℕ
flat (across n h l r) = 1
flat (upright n l x h) = 0

-- the first number is less than the second, or they are equal and the test passes
unfoldable pub less_or : ℕ → ℕ → Bool → Bool
less_or a b t = ltb a b || (eqb a b && t)

-- by net, then by left column, then vertical before horizontal
unfoldable pub goes_before : Rec → Rec → Bool
goes_before a b = less_or (net_of a) (net_of b) (less_or (column_of a) (column_of b) (ltb (flat a) (flat b)))

-- r before the first record that it goes before
unfoldable pub placed : Rec → List Rec → List Rec
placed r [] = r ∷ []
placed r (q ∷ qs) = pick (goes_before r q) (r ∷ q ∷ qs) (q ∷ placed r qs)

unfoldable pub in_order : List Rec → List Rec
in_order [] = []
in_order (r ∷ rs) = placed r (in_order rs)

-- the film of a sheet: its records in their order
unfoldable pub film_of : ℕ → List ℕ → List Rec
film_of pitch s = in_order (records pitch s)
