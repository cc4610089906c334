-- Document 01's table of causes, with request 6's limits and request 1's blanks and 23, in the order in which each entry point tests them.
use Rattle.std.specs.Prelude.{Bool, not, ◌||◌, List, [], ◌∷◌, ◌++◌, ℕ, suc, ◌+◌, ◌-◌, ◌*◌, length, leb, ltb, eqb}
use Rattle.rules.specs.Basic.{pick, is_none}
use Rattle.rules.specs.declared.Kind.{Kind}
use Rattle.rules.specs.declared.Kind.TheVariants.{B, M, E, N}
use Rattle.rules.specs.Row.{nodes}
use Rattle.rules.specs.Street.{counted, first, failing}
use Rattle.rules.specs.Sheet.{takes, kind_in, size, Entry, entry, upper_of, lower_of, count_of, entries_of, padding_of, nets_of}
use Rattle.rules.specs.Film.{records}
use Rattle.rules.specs.Judgement.{wrong_count, left, left_open}
use Rattle.rules.specs.Answers.{Said, says, first_lone}

-- a cause: its number, the place that goes with it, whether it holds
pub data Cause : Type 0 where
  cause : (number place : ℕ) → (holds : Bool) → Cause

-- the number and place of the first cause that holds, or those of acceptance
unfoldable pub first_cause : List Cause → Said → Said
first_cause [] fine = fine
first_cause (cause number place holds ∷ cs) fine = let r = first_cause cs fine in pick holds (says number place) r

-- the router's, 1 to 6
unfoldable pub router_causes : (row : List ℕ) (ku kl : ℕ) (work out : List ℕ) → List Cause
router_causes row ku kl work out =
    let n = length row in
    cause 1 0 (wrong_count n)
    ∷ cause 2 0 (not (takes ku kl))
    ∷ cause 3 (suc (first_lone row)) (ltb (first_lone row) n)
    ∷ cause 4 0 (ltb (length work) (90 * n))
    ∷ cause 5 0 (ltb (length out) (size n))
    ∷ cause 6 (suc (failing ku kl (nodes row))) (is_none (first ku kl (nodes row)))
    ∷ []

-- of a sheet's head, 11 to 13
unfoldable pub head_causes : (s : List ℕ) → List Cause
head_causes s =
    cause 11 0 (ltb (length s) 2 || wrong_count (count_of s))
    ∷ cause 12 0 (not (takes (upper_of s) (lower_of s)))
    ∷ cause 13 0 (not (eqb (length s) (size (count_of s))))
    ∷ []

-- of the wire at node i, from 1, with a above it, of c
unfoldable pub wire_causes : (ku kl i a c : ℕ) → List Cause
wire_causes ku kl i a c =
    cause 16 i (leb c a)  -- p over b
    ∷ cause 17 i (ltb ku a)  -- p − 1 over Ku
    ∷ cause 30 i (ltb kl (c - suc a))  -- b − p over Kl
    ∷ cause 31 i (ltb (ku + kl) c)  -- b over Ku + Kl
    ∷ []

-- of a blank there
unfoldable pub blank_causes : (ku kl i a c : ℕ) → List Cause
blank_causes ku kl i a c =
    cause 16 i (ltb c a)  -- s over b
    ∷ cause 17 i (ltb ku a)  -- s over Ku
    ∷ cause 30 i (ltb kl (c - a))  -- b − s over Kl
    ∷ []

unfoldable pub kind_causes : Kind → (ku kl i a c : ℕ) → List Cause
kind_causes B ku kl i a c = wire_causes ku kl i a c
kind_causes M ku kl i a c = wire_causes ku kl i a c
kind_causes E ku kl i a c = wire_causes ku kl i a c
kind_causes N ku kl i a c = blank_causes ku kl i a c

-- of its nodes from i on, with b nets open before node i, leftmost node first
unfoldable pub node_causes : (ku kl i b : ℕ) → List Entry → List Cause
node_causes ku kl i b [] = []
node_causes ku kl i b (entry f a ∷ es) =
    let k = kind_in f in
    kind_causes k ku kl i a (counted k b) ++ node_causes ku kl (suc i) (left k b) es

-- of its end, 18 and 19
unfoldable pub end_causes : (s : List ℕ) → List Cause
end_causes s = cause 18 (count_of s) (not (eqb (left_open 0 (entries_of s)) 0)) ∷ cause 19 0 (not (eqb (padding_of s) 0)) ∷ []

-- of its nodes and its end
unfoldable pub body_causes : (s : List ℕ) → List Cause
body_causes s = node_causes (upper_of s) (lower_of s) 1 0 (entries_of s) ++ end_causes s

-- the reader's: 14 stands behind those of the head, 23 is the last
unfoldable pub reader_causes : (s row : List ℕ) → List Cause
reader_causes s row =
    head_causes s ++ (cause 14 0 (ltb (length row) (count_of s)) ∷ body_causes s ++ (cause 23 0 (ltb 255 (nets_of s)) ∷ []))

-- the drawer's: the reader's without 14 and 23, then 21
unfoldable pub drawer_causes : (s film : List ℕ) → List Cause
drawer_causes s film = head_causes s ++ (body_causes s ++ (cause 21 0 (ltb (length film) (5 * length (records 16 s))) ∷ []))
