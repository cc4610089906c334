-- The labels of the open nets in cells, oldest first: what they list youngest first, and how a net begins, is found and ends there.
use mathlib.Core.Path.{◌≡◌, refl, sym, ap, ap₂, ◌∙◌}
use mathlib.Core.List.{List, ◌∷◌}
use Prim.Native.Nat.{ℕ, zero, suc, ◌-◌, ◌≤◌, ◌<◌}
use native.Mathlib.Decide.{ℕ_discrete, dec_lt}
use native.Mathlib.Omega.{arith}
use lib.ListN.{length, get_or, set, length-set}
use lib.Seq.{get_or-set_same, get_or-set_other}
use Rattle.rules.specs.Basic.{cut}
use Rattle.rules.specs.Row.{before}
use Rattle.rules.proofs.Pins.{at_before, before-found}
use Rattle.street.specs.Order.{capacity}
use Rattle.script.specs.Open.{lined, Lined, Closed}

pub length-lined : (nets : List ℕ) (b : ℕ) → length (lined nets b) ≡ b
unfolding lined
length-lined nets zero = refl
length-lined nets (suc b) = ap suc (length-lined nets b)

-- of b nets the one with p younger has the others as elders
pub get_or-lined : (nets : List ℕ) (b p : ℕ) → p < b → get_or (lined nets b) p 0 ≡ get_or nets (b - suc p) 0
unfolding lined
get_or-lined nets zero p h = absurd (omega arith)
get_or-lined nets (suc b) zero h = ap (λ (k : ℕ). get_or nets k 0) (omega arith)
get_or-lined nets (suc b) (suc p) h = get_or-lined nets b p (omega arith) ∙ ap (λ (k : ℕ). get_or nets k 0) (omega arith)

pub lined-cong : (nets nets' : List ℕ) (b : ℕ) → ((k : ℕ) → k < b → get_or nets' k 0 ≡ get_or nets k 0) → lined nets' b ≡ lined nets b
unfolding lined
lined-cong nets nets' zero f = refl
lined-cong nets nets' (suc b) f =
    ap₂ {C = List ℕ} (λ x l. x ∷ l) (f b (omega arith)) (lined-cong nets nets' b (λ k h. f k (omega arith)))

module _ (nets elders : List ℕ) (b : ℕ) (l : Lined nets elders b) where
  -- two open nets have two labels
  two : (j k : ℕ) → j < b → k < b → get_or nets j 0 ≡ get_or nets k 0 → j ≡ k
  two j k hj hk e = sym (l.known j hj) ∙ ap (λ (x : ℕ). get_or elders x 0) e ∙ l.known k hk

  -- an open net is found by its label
  pub found : (x : ℕ) → before x (lined nets b) < length (lined nets b) → (get_or elders x 0 < b) × (b - suc (get_or elders x 0) ≡ before x (lined nets b))
  found x h =
      let p : ℕ = before x (lined nets b) in
      let hp : p < b = omega (arith, length-lined nets b) in
      let e : get_or nets (b - suc p) 0 ≡ x = sym (get_or-lined nets b p hp) ∙ at_before x (lined nets b) h in
      let q : get_or elders x 0 ≡ b - suc p = ap (λ (y : ℕ). get_or elders y 0) (sym e) ∙ l.known (b - suc p) (omega arith) in
      (omega arith, omega arith)

  -- a label that is not listed is in no cell
  absent : (x : ℕ) → length (lined nets b) ≤ before x (lined nets b) → (k : ℕ) → k < b → get_or nets k 0 ≡ x → ⊥
  absent x h k hk e =
      let p : ℕ = b - suc k in
      let q : get_or (lined nets b) p 0 ≡ x = get_or-lined nets b p (omega arith) ∙ ap (λ (j : ℕ). get_or nets j 0) (omega arith) ∙ e in
      let f : before (get_or (lined nets b) p 0) (lined nets b) ≤ p = before-found (lined nets b) p (omega (arith, length-lined nets b)) in
      omega (arith, f, ap (λ (y : ℕ). before y (lined nets b)) q, length-lined nets b)

  -- a net begins
  module _ (x : ℕ) (byte : x < 256) (room : b < capacity) (fresh : length (lined nets b) ≤ before x (lined nets b)) where
    other-cell : (k : ℕ) → k < b → get_or (set nets b x) k 0 ≡ get_or nets k 0
    other-cell k h = get_or-set_other nets b k x 0 (λ e. omega arith)

    own-cell : get_or (set nets b x) b 0 ≡ x
    own-cell = get_or-set_same nets b x 0 (omega (arith, l.cells))

    pub lined-more : lined (set nets b x) (suc b) ≡ x ∷ lined nets b
    unfolding lined
    lined-more = ap₂ {C = List ℕ} (λ y o. y ∷ o) own-cell (lined-cong nets (set nets b x) b other-cell)

    pub begun_lines : Lined (set nets b x) (set elders x b) (suc b)
    begun_lines =
        record {
          cells = length-set nets b x ∙ l.cells;
          entries = length-set elders x b ∙ l.entries;
          few = omega arith;
          labels = λ k h. labels k h (ℕ_discrete k b);
          known = λ k h. known k h (ℕ_discrete k b);
        }
      where
        labels : (k : ℕ) → k < suc b → Dec (k ≡ b) → get_or (set nets b x) k 0 < 256
        labels k h (yes e) = rw (e, own-cell) byte
        labels k h (no n) = let g : k < b = omega arith in rw (other-cell k g) (l.labels k g)

        known : (k : ℕ) → k < suc b → Dec (k ≡ b) → get_or (set elders x b) (get_or (set nets b x) k 0) 0 ≡ k
        known k h (yes e) = rw (e, own-cell) (get_or-set_same elders x b 0 (omega (arith, l.entries)))
        known k h (no n) =
            let g : k < b = omega arith in
            rw (other-cell k g)
            (get_or-set_other elders x (get_or nets k 0) b 0 (λ e. absent x fresh k g e) ∙ l.known k g)

-- ---- a net ends: the younger ones move up

-- of b nets the one with e elders ended, and those before cell k have their places
pub record Closing (nets elders : List ℕ) (e b : ℕ) (nets' elders' : List ℕ) (k : ℕ) : Type 0 where
  pub from : e ≤ k
  pub upto : k ≤ b
  pub cells : length nets' ≡ capacity
  pub entries : length elders' ≡ 256
  older : (j : ℕ) → j < e → get_or nets' j 0 ≡ get_or nets j 0
  moved : (j : ℕ) → e ≤ j → j < k → get_or nets' j 0 ≡ get_or nets (suc j) 0
  left : (j : ℕ) → k ≤ j → get_or nets' j 0 ≡ get_or nets j 0
  older-known : (j : ℕ) → j < e → get_or elders' (get_or nets j 0) 0 ≡ j
  moved-known : (j : ℕ) → e ≤ j → j < k → get_or elders' (get_or nets (suc j) 0) 0 ≡ j

module _ (nets elders : List ℕ) (e b : ℕ) (l : Lined nets elders (suc b)) (h : e ≤ b) where
  pub closing-none : Closing nets elders e b nets elders e
  closing-none =
      record {
        from = omega arith;
        upto = h;
        cells = l.cells;
        entries = l.entries;
        older = λ j g. refl;
        moved = λ j g m. absurd (omega arith);
        left = λ j g. refl;
        older-known = λ j g. l.known j (omega arith);
        moved-known = λ j g m. absurd (omega arith);
      }

  module _ (nets' elders' : List ℕ) (k : ℕ) (c : Closing nets elders e b nets' elders' k) (more : k < b) where
    -- the label that moves
    pub mover : get_or nets' (suc k) 0 ≡ get_or nets (suc k) 0
    mover = c.left (suc k) (omega arith)

    module _ (y : ℕ) (is : y ≡ get_or nets (suc k) 0) where
      apart_from : (j : ℕ) → j < suc b → (j ≡ suc k → ⊥) → get_or nets j 0 ≡ y → ⊥
      apart_from j g n q = n (two nets elders (suc b) l j (suc k) g (omega arith) (q ∙ is))

      pub closing-more : Closing nets elders e b (set nets' k y) (set elders' y k) (suc k)
      closing-more =
          record {
            from = omega (arith, c.from);
            upto = more;
            cells = length-set nets' k y ∙ c.cells;
            entries = length-set elders' y k ∙ c.entries;
            older = λ j g. get_or-set_other nets' k j y 0 (λ q. omega (arith, c.from)) ∙ c.older j g;
            moved = λ j g m. moved j g m (ℕ_discrete j k);
            left = λ j g. get_or-set_other nets' k j y 0 (λ q. omega arith) ∙ c.left j (omega arith);
            older-known = λ j g.
                get_or-set_other elders' y (get_or nets j 0) k 0 (apart_from j (omega arith) (λ q. omega (arith, c.from)))
                ∙ c.older-known j g;
            moved-known = λ j g m. known j g m (ℕ_discrete j k);
          }
        where
          moved : (j : ℕ) → e ≤ j → j < suc k → Dec (j ≡ k) → get_or (set nets' k y) j 0 ≡ get_or nets (suc j) 0
          moved j g m (yes q) = rw q (get_or-set_same nets' k y 0 (omega (arith, c.cells, l.few)) ∙ is)
          moved j g m (no n) = get_or-set_other nets' k j y 0 n ∙ c.moved j g (omega arith)

          known : (j : ℕ) → e ≤ j → j < suc k → Dec (j ≡ k) → get_or (set elders' y k) (get_or nets (suc j) 0) 0 ≡ j
          known j g m (yes q) =
              ap (λ (i : ℕ). get_or (set elders' y k) i 0) (ap (λ (i : ℕ). get_or nets (suc i) 0) q ∙ sym is)
              ∙ get_or-set_same elders' y k 0 (omega (arith, is, c.entries, l.labels (suc k) (omega arith)))
              ∙ sym q
          known j g m (no n) =
              get_or-set_other elders' y (get_or nets (suc j) 0) k 0 (apart_from (suc j) (omega arith) (λ q. n (omega arith)))
              ∙ c.moved-known j g (omega arith)

-- cells from which one is gone list the others
lined-cut : (nets nets' : List ℕ) (e b : ℕ) → e ≤ b → ((j : ℕ) → j < e → get_or nets' j 0 ≡ get_or nets j 0)
    → ((j : ℕ) → e ≤ j → j < b → get_or nets' j 0 ≡ get_or nets (suc j) 0) → lined nets' b ≡ cut (b - e) (lined nets (suc b))
unfolding lined cut
lined-cut nets nets' e zero h older moved = let z : 0 - e ≡ 0 = omega arith in rw z refl
lined-cut nets nets' e (suc b) h older moved =
    go (ℕ_discrete e (suc b)) (λ g. lined-cut nets nets' e b g older (λ j p m. moved j p (omega arith)))
  where
    go : Dec (e ≡ suc b) → (e ≤ b → lined nets' b ≡ cut (b - e) (lined nets (suc b))) → lined nets' (suc b) ≡ cut (suc b - e) (lined nets (suc (suc b)))
    go (yes q) rest =
        let z : suc b - e ≡ 0 = omega arith in
        rw z (lined-cong nets nets' (suc b) (λ k g. older k (omega arith)))
    go (no n) rest =
        let z : suc b - e ≡ suc (b - e) = omega arith in
        rw z (ap₂ {C = List ℕ} (λ x l. x ∷ l) (moved b (omega arith) (omega arith)) (rest (omega arith)))

pub closing_end : (nets elders : List ℕ) (e b : ℕ) → Lined nets elders (suc b) → (nets' elders' : List ℕ) (k : ℕ) → Closing nets elders e b nets' elders' k
    → b ≤ k → Closed nets e b nets' elders'
closing_end nets elders e b l nets' elders' k c h =
    record {
      lines =
          record {
            cells = c.cells;
            entries = c.entries;
            few = omega (arith, l.few);
            labels = λ j g. labels j g (dec_lt j e);
            known = λ j g. known j g (dec_lt j e);
          };
      list = lined-cut nets nets' e b (omega (arith, c.from, c.upto)) c.older (λ j g m. c.moved j g (omega (arith, c.upto)));
    }
  where
    labels : (j : ℕ) → j < b → Dec (j < e) → get_or nets' j 0 < 256
    labels j g (yes o) = rw (c.older j o) (l.labels j (omega arith))
    labels j g (no o) = let m : e ≤ j = omega arith in rw (c.moved j m (omega arith)) (l.labels (suc j) (omega arith))

    known : (j : ℕ) → j < b → Dec (j < e) → get_or elders' (get_or nets' j 0) 0 ≡ j
    known j g (yes o) = rw (c.older j o) (c.older-known j o)
    known j g (no o) = let m : e ≤ j = omega arith in rw (c.moved j m (omega arith)) (c.moved-known j m (omega arith))

-- ---- the same, of the list that the cells are seen as

module _ (nets elders : List ℕ) (b : ℕ) (l : Lined nets elders b) (o : List ℕ) (seen : lined nets b ≡ o) (x : ℕ) where
  pub placed : before x o < length o → (get_or elders x 0 < b) × (b - suc (get_or elders x 0) ≡ before x o)
  placed h = rw seen at (found nets elders b l x (rw seen h))

  module _ (byte : x < 256) (room : length o < capacity) (fresh : length o ≤ before x o) where
    pub below : b < capacity
    below = omega (arith, length-lined nets b, ap length seen)

    pub opened_lines : Lined (set nets b x) (set elders x b) (suc b)
    opened_lines = begun_lines nets elders b l x byte below (rw seen fresh)

    pub opened : lined (set nets b x) (suc b) ≡ x ∷ o
    opened = lined-more nets elders b l x byte below (rw seen fresh) ∙ ap {B = List ℕ} (λ r. x ∷ r) seen

  module _ (there : before x o < length o) where
    pub closed : (e : ℕ) → e ≡ get_or elders x 0 → (nets' elders' : List ℕ) → Closed nets e (b - 1) nets' elders' → lined nets' (b - 1) ≡ cut (before x o) o
    closed e q nets' elders' c =
        let p = placed there in
        let count : suc (b - 1) ≡ b = omega (arith, p.0) in
        let place : b - 1 - e ≡ before x o = omega (arith, p.0, p.1) in
        c.list ∙ ap₂ cut place (ap (lined nets) count ∙ seen)
