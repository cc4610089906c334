-- The film of legal entries has exactly the records of the rules, the longest runs, the moves and the stubs, each once.
use mathlib.Core.Path.{◌≡◌, sym, ap, ap₂, ◌∙◌, subst}
use mathlib.Core.List.Memᴰ
use mathlib.Core.List.{List, [], Memᴰ}
use mathlib.Core.Logic.{◌⊎◌, inl, inr, ◌↔◌}
use mathlib.Core.Option.{none, some}
use Prim.Native.Nat.{ℕ, suc, ◌+◌, ◌-◌, ◌*◌, ◌≤◌, ◌<◌, min, max}
use native.Mathlib.Omega.{arith}
use Rattle.rules.specs.Sheet.{Entry, nets, upper_of, lower_of, entries_of}
use Rattle.rules.specs.Judgement.{judge}
use Rattle.rules.specs.Film.{Rec, across, upright, Wire, axis, wall, draw, records}
use Rattle.rules.proofs.Legal.{Legal}
use Rattle.wires.specs.Levels.{own, level, Longest, Over, Ruled, run, move, stub, ByRule}
use Rattle.wires.proofs.Among.{nil, lt-or-ge}
use Rattle.wires.proofs.Steps.{Steps, steps}
use Rattle.wires.proofs.Rules.{filled, on-tracks}
use Rattle.wires.proofs.Joins as joins
use Rattle.wires.proofs.Stretches.{film-levels}
use Rattle.wires.proofs.Verticals.{Upright, a-stub, a_move, uprights, turns, distinct}
use Rattle.wires.proofs.Obeyed.{none_open, film-trace, sheet-legal}

is-stub : {x l c h : ℕ} (w : Wire) (y : ℕ) → x ≡ w.net → l ≡ min axis w.height → c ≡ y → h ≡ max axis w.height → upright x l c h ≡ wall y axis w
unfolding wall
is-stub w y e u g v = cc

module _ (pitch ku kl : ℕ) (wide : ku + kl < pitch) (deep : kl ≤ axis) {es : List Entry} (legal : Legal ku kl 0 es) where
  abbrev film : List Rec
  film = draw pitch ku 0 0 [] es

  parts : Steps ku kl 0 [] film
  parts = steps (film-trace pitch ku kl wide deep legal)

  heights : (c x h : ℕ) → Over film x c h ↔ (level pitch ku es x c ≡ some h)
  heights = film-levels pitch ku kl wide deep legal

  -- a horizontal is a longest run
  is-longest : (x h l r : ℕ) → Memᴰ (across x h l r) film → Longest (level pitch ku es x) h l r
  is-longest x h l r m =
      record {
        wide = w;
        flat = λ c a b. (heights c x h).0 (record { left = l; right = r; among = m; begins = a; ends = b });
        begins = λ c e q. let o = (heights c x h).1 q in before c e o (filled parts x h l r x o.left o.right m o.among);
        ends = λ q. let o = (heights r x h).1 q in after o (filled parts x h l r x o.left o.right m o.among);
      }
    where
      w : l < r
      w = (on-tracks parts nil x h l r m).1

      before : (c : ℕ) → suc c ≡ l → (o : Over film x c h) → (across x h l r ≡ across x h o.left o.right) ⊎ ((r < o.left) ⊎ (o.right < l)) → ⊥
      before c e o (inl q) = let z : l ≡ o.left = cc in omega (arith, o.begins)
      before c e o (inr (inl q)) = omega (arith, o.begins, w)
      before c e o (inr (inr q)) = omega (arith, o.ends)

      after : (o : Over film x r h) → (across x h l r ≡ across x h o.left o.right) ⊎ ((r < o.left) ⊎ (o.right < l)) → ⊥
      after o (inl q) = let z : r ≡ o.right = cc in omega (arith, o.ends)
      after o (inr (inl q)) = omega (arith, o.begins)
      after o (inr (inr q)) = omega (arith, o.ends, w)

  -- and a longest run is a horizontal
  longest-is : (x h l r : ℕ) → Longest (level pitch ku es x) h l r → Memᴰ (across x h l r) film
  longest-is x h l r g =
      let o = (heights l x h).1 (g.flat l (omega arith) g.wide) in
      Memᴰ.cast (ap₂ (across x h) (sym (left o (lt-or-ge o.left l))) (sym (right o (lt-or-ge o.right r) (lt-or-ge r o.right)))) o.among
    where
      left : (o : Over film x l h) → (o.left < l) ⊎ (l ≤ o.left) → o.left ≡ l
      left o (inl q) =
          absurd (g.begins (l - 1) (omega arith)
          ((heights (l - 1) x h).0 (record { left = o.left; right = o.right; among = o.among; begins = omega arith; ends = omega (arith, o.ends) })))
      left o (inr q) = omega (arith, o.begins)

      right : (o : Over film x l h) → (o.right < r) ⊎ (r ≤ o.right) → (r < o.right) ⊎ (o.right ≤ r) → o.right ≡ r
      right o (inl p) q = absurd ((is-longest x h o.left o.right o.among).ends (g.flat o.right (omega (arith, o.ends)) p))
      right o (inr p) (inl q) =
          absurd (g.ends ((heights r x h).0 (record { left = o.left; right = o.right; among = o.among; begins = omega (arith, o.begins, g.wide); ends = q })))
      right o (inr p) (inr q) = omega arith

  -- a vertical is a stub or a move
  ruled-upright : (n l c h : ℕ) → Upright pitch 0 (nets 0 [] es) (own ku es) film n l c h → Ruled pitch ku es (upright n l c h)
  ruled-upright n l c h (a-stub j e g u v) = stub j e (g ∙ ap (λ m. pitch * m) (omega arith)) u v
  ruled-upright n l c h (a_move p a b e o o' d u v) =
      subst (λ z. Ruled pitch ku es (upright n l z h)) e (move ((heights p n a).0 o) ((heights (suc p) n b).0 (subst (λ z. Over film n z b) (sym e) o')) d u v)

  is-ruled : (r : Rec) → Memᴰ r film → Ruled pitch ku es r
  is-ruled (across x h l r) m = run (is-longest x h l r m)
  is-ruled (upright x l c h) m = ruled-upright x l c h (uprights (film-trace pitch ku kl wide deep legal) none_open x l c h m)

  ruled-is : {r : Rec} → Ruled pitch ku es r → Memᴰ r film
  ruled-is (run {x} {h} {l} {r} g) = longest-is x h l r g
  ruled-is (move {x} {c} {a} {b} {l} {h} p q d u v) =
      let l≡ : l ≡ min b a = omega arith in
      let h≡ : h ≡ max b a = omega arith in
      Memᴰ.cast (ap₂ (λ y z. upright x y (suc c) z) l≡ h≡) (turns parts (none_open {ku = ku} {kl = kl}).once x c a b ((heights c x a).1 p) ((heights (suc c) x b).1 q) d)
  ruled-is (stub {x} i e g u v) =
      let t = joins.stub (film-trace pitch ku kl wide deep legal) x i i (omega arith) e in
      Memᴰ.cast (is-stub t.0 (pitch * i) (sym t.2) (u ∙ ap (min axis) (sym t.3)) g (v ∙ ap (max axis) (sym t.3))) t.1

  pub by-rule : ByRule pitch ku es film
  by-rule = record { exactly = λ r. (is-ruled r, ruled-is); once = distinct parts }

-- the film of an accepted sheet
module _ (s : List ℕ) (accepted : judge s ≡ none) where
  pub sheet-by-rule : ByRule 16 (upper_of s) (entries_of s) (records 16 s)
  unfolding records
  sheet-by-rule = let p = sheet-legal s accepted in by-rule 16 (upper_of s) (lower_of s) p.wide p.deep p.legal

  -- over every unit stretch
  pub sheet-levels : (c x h : ℕ) → Over (records 16 s) x c h ↔ (level 16 (upper_of s) (entries_of s) x c ≡ some h)
  unfolding records
  sheet-levels = let p = sheet-legal s accepted in film-levels 16 (upper_of s) (lower_of s) p.wide p.deep p.legal
