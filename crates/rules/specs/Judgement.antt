-- Document 01, 'When the software says no', 11 to 19, with request 6's 30 and 31 and request 1's blanks and 23: the judgement of a sheet, in five parts that stand in order.
use Rattle.std.specs.Prelude.{Bool, not, ◌||◌, List, [], ◌∷◌, ℕ, suc, ◌-◌, length, leb, ltb, eqb, None, Some}
use Rattle.std.proofs.Math.Option.{Option, none, some}
use Rattle.rules.specs.declared.Fault.{Fault}
use Rattle.rules.specs.declared.Fault.TheVariants.{Head, Tracks, Length, Position, Street, Open, Padding, Nets}
use Rattle.rules.specs.Basic.{keep, or_else}
use Rattle.rules.specs.declared.Kind.{Kind}
use Rattle.rules.specs.declared.Kind.TheVariants.{B, M, E, N}
use Rattle.rules.specs.Limits.{Broken, last, limits_at, counted}
use Rattle.rules.specs.Sheet.{takes, kind_in, size, Entry, entry, upper_of, lower_of, count_of, entries_of, padding_of, nets_of}

-- 1 and 11: a node count that is not 2 to 512
unfoldable pub wrong_count : ℕ → Bool
wrong_count n = ltb n 2 || ltb 512 n

-- 11, 12, 13
unfoldable pub head : List ℕ → Option Fault
head s =
    or_else (keep (ltb (length s) 2 || wrong_count (count_of s)) Head)
    (or_else (keep (not (takes (upper_of s) (lower_of s))) Tracks) (keep (not (eqb (length s) (size (count_of s)))) Length))

-- 14: under n bytes for the row
unfoldable pub room : List ℕ → List ℕ → Bool
room s row = ltb (length row) (count_of s)

-- 17, 30, 31 at node i, from 1: the limit that is broken there
unfoldable pub broken : Broken → ℕ → Option Fault
broken None i = none
broken (Some l) i = some (Street l i)

-- 16, 17, 30, 31 at node i, from 1, with b nets open before it
unfoldable pub fault_at : (ku kl i b : ℕ) → Entry → Option Fault
fault_at ku kl i b (entry f a) =
    let k = kind_in f in
    or_else (keep (leb (last k (counted k b)) a) (Position i)) (broken (limits_at k ku kl (suc a) (counted k b)) i)

-- the nets open after a node, where b were before it
unfoldable pub left : Kind → ℕ → ℕ
left B b = suc b
left M b = b
left E b = b - 1
left N b = b

-- 16, 17, 30, 31 from node i on, leftmost first
unfoldable pub scan : (ku kl i b : ℕ) → List Entry → Option Fault
scan ku kl i b [] = none
scan ku kl i b (entry f a ∷ es) = or_else (fault_at ku kl i b (entry f a)) (scan ku kl (suc i) (left (kind_in f) b) es)

-- the nets open after entries
unfoldable pub left_open : ℕ → List Entry → ℕ
left_open b [] = b
left_open b (entry f a ∷ es) = left_open (left (kind_in f) b) es

-- 18, 19
unfoldable pub tail : List ℕ → Option Fault
tail s =
    or_else (keep (not (eqb (left_open 0 (entries_of s)) 0)) (Open (count_of s))) (keep (not (eqb (padding_of s) 0)) Padding)

-- 16, 17, 30, 31 of a sheet
unfoldable pub middle : List ℕ → Option Fault
middle s = scan (upper_of s) (lower_of s) 1 0 (entries_of s)

-- what every user of sheets asks
unfoldable pub judge : List ℕ → Option Fault
judge s = or_else (head s) (or_else (middle s) (tail s))

-- 23: more nets than there are labels for them
unfoldable pub crowded : List ℕ → Option Fault
crowded s = keep (ltb 255 (nets_of s)) Nets

-- the reader's rules other than 14
unfoldable pub readable : List ℕ → Option Fault
readable s = or_else (judge s) (crowded s)
