-- A line has room for each of its fields, the fields that are put make the line, and the lines that are put node by node those of the sheet.
use mathlib.Core.Path.{◌≡◌, refl, sym, ap, ◌∙◌}
use mathlib.Core.List.{List, [], ◌∷◌, ◌++◌, append_assoc, append-nil}
use Prim.Native.Nat.{ℕ, suc, ◌+◌, ◌≤◌, ◌<◌}
use native.Mathlib.Numerals.{add-one}
use native.Mathlib.Omega.{arith}
use lib.ListN.{length, get_or, drop}
use Rattle.rules.specs.declared.Kind.{Kind}
use Rattle.rules.specs.Street.{counted}
use Rattle.rules.specs.Sheet.{Entry, entry}
use Rattle.sheet.specs.Told.{kind_at, above_at}
use Rattle.sheet.specs.Fields.{entry_in, entries_in}
use Rattle.sheet.proofs.Scans.{entries_from, entries-end}
use Rattle.listing.specs.declared.put.Text.{Text}
use Rattle.listing.specs.Text.{decimal, closed, line, letter, place_in, node_line, open_after, node_lines}
use Rattle.listing.specs.Puts.{Room, Puts}
use Rattle.listing.proofs.Writing.{puts-more, room-first, room-second}

-- four fields, one behind the other
module _ (a b c d : List ℕ) {t : Text} (h : Room (line a b c d) t) where
  pub room-one : Room (closed a 32) t
  unfolding line
  room-one = room-first (closed a 32) (closed b 32 ++ (closed c 32 ++ closed d 10)) t h

  module _ {t₁ : Text} (p : Puts (closed a 32) t t₁) where
    behind-one : Room (closed b 32 ++ (closed c 32 ++ closed d 10)) t₁
    unfolding line
    behind-one = room-second (closed a 32) (closed b 32 ++ (closed c 32 ++ closed d 10)) t h p

    pub room-two : Room (closed b 32) t₁
    room-two = room-first (closed b 32) (closed c 32 ++ closed d 10) t₁ behind-one

    module _ {t₂ : Text} (q : Puts (closed b 32) t₁ t₂) where
      behind-two : Room (closed c 32 ++ closed d 10) t₂
      behind-two = room-second (closed b 32) (closed c 32 ++ closed d 10) t₁ behind-one q

      pub room-three : Room (closed c 32) t₂
      room-three = room-first (closed c 32) (closed d 10) t₂ behind-two

      pub room-four : {t₃ : Text} → Puts (closed c 32) t₂ t₃ → Room (closed d 10) t₃
      room-four r = room-second (closed c 32) (closed d 10) t₂ behind-two r

pub puts-line : (a b c d : List ℕ) {t t₁ t₂ t₃ t₄ : Text} → Puts (closed a 32) t t₁ → Puts (closed b 32) t₁ t₂ → Puts (closed c 32) t₂ t₃ → Puts (closed d 10) t₃ t₄
    → Puts (line a b c d) t t₄
unfolding line
puts-line a b c d p q r s = puts-more p (puts-more q (puts-more r s))

-- the four fields of a node's line
pub node-fields : (i nets : ℕ) (e : Entry) {k : Kind} {a l p b : ℕ} → k ≡ kind_at e → a ≡ above_at e → l ≡ letter k → p ≡ place_in k a → b ≡ counted k nets
    → node_line i nets e ≡ line (decimal i) (l ∷ []) (decimal p) (decimal b)
unfolding node_line kind_at above_at
node-fields i nets (entry f a) ek ea el ep eb = rw (el, ep, eb, ek, ea) refl

-- the lines of the first i nodes are put, after which so many nets are open
pub record Through (fs : List ℕ) (t : Text) (i nets : ℕ) (t' : Text) : Type 0 where
  pub few : nets ≤ i
  pub lines : List ℕ
  pub puts : Puts lines t t'
  pub rest : lines ++ node_lines (suc i) nets (drop i (entries_in fs)) ≡ node_lines 1 0 (entries_in fs)

module _ (fs : List ℕ) (t : Text) where
  module _ (i nets : ℕ) {t' : Text} (h : i < length fs) (m : Through fs t i nets t') where
    -- node i's entry
    abbrev own : Entry
    own = entry_in (get_or fs i 0)

    -- its line, and the lines behind it
    abbrev behind : List ℕ
    behind = node_lines (suc (i + 1)) (open_after nets own) (drop (i + 1) (entries_in fs))

    node-next : node_lines (suc i) nets (drop i (entries_in fs)) ≡ node_line (i + 1) nets own ++ behind
    unfolding node_lines
    node-next =
        ap (node_lines (suc i) nets) (entries_from fs i h)
        ∙ ap (λ (j : ℕ). node_line j nets own ++ node_lines (suc j) (open_after nets own) (drop j (entries_in fs))) (sym (add-one i))

    pub room-node : Room (node_lines 1 0 (entries_in fs)) t → Room (node_line (i + 1) nets own) t'
    room-node r =
        let r₁ : Room (m.lines ++ node_lines (suc i) nets (drop i (entries_in fs))) t = rw m.rest r in
        let r₂ : Room (node_lines (suc i) nets (drop i (entries_in fs))) t' = room-second m.lines (node_lines (suc i) nets (drop i (entries_in fs))) t r₁ m.puts in
        room-first (node_line (i + 1) nets own) behind t' (rw node-next at r₂)

    pub through-more : {nets' : ℕ} {t'' : Text} → Puts (node_line (i + 1) nets own) t' t'' → nets' ≡ open_after nets own → nets' ≤ nets + 1 → Through fs t (i + 1) nets' t''
    through-more p e l =
        record {
          few = omega (arith, m.few);
          lines = m.lines ++ node_line (i + 1) nets own;
          puts = puts-more m.puts p;
          rest =
              ap (λ (b : ℕ). (m.lines ++ node_line (i + 1) nets own) ++ node_lines (suc (i + 1)) b (drop (i + 1) (entries_in fs))) e
              ∙ append_assoc m.lines (node_line (i + 1) nets own) behind
              ∙ ap (λ (l : List ℕ). m.lines ++ l) (sym node-next)
              ∙ m.rest;
        }

  pub through-all : (i nets : ℕ) {t' : Text} → i ≡ length fs → Through fs t i nets t' → Puts (node_lines 1 0 (entries_in fs)) t t'
  unfolding node_lines
  through-all i nets {t'} e m =
      let all : m.lines ≡ node_lines 1 0 (entries_in fs) =
      sym (append-nil m.lines) ∙ ap (λ (es : List Entry). m.lines ++ node_lines (suc i) nets es) (sym (entries-end fs i e)) ∙ m.rest in
      rw all at m.puts
