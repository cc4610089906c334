-- How long a text can be: 8256 bytes have room for that of every sheet, and of every refusal.
use mathlib.Core.Path.{◌≡◌}
use mathlib.Core.List.{List, [], ◌∷◌, ◌++◌}
use Prim.Native.Nat.{ℕ, suc, ◌+◌, ◌*◌, ◌^◌, ◌≤◌, ◌<◌}
use native.Mathlib.Omega.{arith}
use lib.ListN.{length, length-append}
use Rattle.std.specs.declared.result.Result.TheVariants.{Ok}
use Rattle.rules.specs.declared.Kind.{Kind}
use Rattle.rules.specs.declared.Kind.TheVariants.{B, M, E, N}
use Rattle.rules.specs.Street.{counted}
use Rattle.rules.specs.Sheet.{kind_in, Entry, entry, upper_of, lower_of, entries_of}
use Rattle.rules.specs.Judgement.{left}
use Rattle.rules.specs.Answers.{says}
use Rattle.rules.proofs.SheetFields.{Narrow, upper_of-lt, lower_of-lt, narrow-entries_of, length-entries_of}
use Rattle.listing.specs.Text.{decimal, closed, line, sheet_word, refused_word, at_word, letter, place_in, head_line, node_line, open_after, node_lines, refused_line, listed}
use Rattle.listing.specs.Wrote.{Readable}
use Rattle.listing.proofs.Decimals.{decimal-short}
use Rattle.listing.proofs.Writing.{length-closed}

length-line : (a b c d : List ℕ) → length (line a b c d) ≡ length a + length b + length c + length d + 4
unfolding line
length-line a b c d =
    omega (
      arith,
      length-append (closed a 32) (closed b 32 ++ (closed c 32 ++ closed d 10)),
      length-append (closed b 32) (closed c 32 ++ closed d 10),
      length-append (closed c 32) (closed d 10),
      length-closed a 32,
      length-closed b 32,
      length-closed c 32,
      length-closed d 10,
    )

head-short : (n ku kl : ℕ) → n ≤ 512 → ku < 16 → kl < 4 → length (head_line n ku kl) ≤ 32
unfolding head_line sheet_word
head-short n ku kl hn hu hl =
    omega (arith, length-line sheet_word (decimal n) (decimal ku) (decimal kl), decimal-short 2 n (omega arith), decimal-short 1 ku (omega arith), decimal-short 0 kl (omega arith))

place-few : (k : Kind) (a : ℕ) → a < 16 → place_in k a < 100
unfolding place_in
place-few B a h = omega arith
place-few M a h = omega arith
place-few E a h = omega arith
place-few N a h = omega arith

counted-few : (k : Kind) (b : ℕ) → b < 512 → counted k b < 1000
unfolding counted
counted-few B b h = omega arith
counted-few M b h = omega arith
counted-few E b h = omega arith
counted-few N b h = omega arith

node-short : (i b f a : ℕ) → i ≤ 512 → b < 512 → a < 16 → length (node_line i b (entry f a)) ≤ 16
unfolding node_line
node-short i b f a hi hb ha =
    let k = kind_in f in
    omega (
      arith,
      length-line (decimal i) (letter k ∷ []) (decimal (place_in k a)) (decimal (counted k b)),
      decimal-short 2 i (omega arith),
      decimal-short 1 (place_in k a) (place-few k a ha),
      decimal-short 2 (counted k b) (counted-few k b hb),
    )

left-few : (k : Kind) (b : ℕ) → left k b ≤ suc b
unfolding left
left-few B b = omega arith
left-few M b = omega arith
left-few E b = omega arith
left-few N b = omega arith

nodes-short : (i b : ℕ) {es : List Entry} → Narrow es → b < i → i + length es ≤ 513 → length (node_lines i b es) ≤ 16 * length es
unfolding node_lines open_after
nodes-short i b Narrow.nil h g = omega arith
nodes-short i b (Narrow.cons {f} {a} {es} hf ha n) h g =
    omega (
      arith,
      length-append (node_line i b (entry f a)) (node_lines (suc i) (left (kind_in f) b) es),
      node-short i b f a (omega arith) (omega arith) ha,
      nodes-short (suc i) (left (kind_in f) b) n (omega (arith, left-few (kind_in f) b)) (omega arith),
    )

pub sheet-short : {s : List ℕ} {n : ℕ} → Readable s n → length (listed (Ok n) s) ≤ 8256
unfolding listed
sheet-short {s} {n} r =
    omega (
      arith,
      r.few,
      r.count,
      length-append (head_line n (upper_of s) (lower_of s)) (node_lines 1 0 (entries_of s)),
      head-short n (upper_of s) (lower_of s) r.few (upper_of-lt s) (lower_of-lt s),
      nodes-short 1 0 (narrow-entries_of s) (omega arith) (omega (arith, r.few, r.count, length-entries_of s)),
      length-entries_of s,
    )

pub refusal-short : (number place : ℕ) → number < 2 ^ 32 → place < 2 ^ 64 → length (refused_line (says number place)) ≤ 8256
unfolding refused_line refused_word at_word
refusal-short number place h g =
    omega (arith, length-line refused_word (decimal number) at_word (decimal place), decimal-short 19 number (omega arith), decimal-short 19 place (omega arith))
