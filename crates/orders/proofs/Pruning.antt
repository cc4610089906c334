-- Ranks are left exactly where the next node leads on, gap by gap, from the last, so that all the rest can be passed.
use mathlib.Core.Path.{◌≡◌, refl, sym, ap, ◌∙◌}
use mathlib.Core.Bool.{Bool, true, false}
use mathlib.Core.List.{List}
use Prim.Native.Nat.{ℕ, suc, ◌≤◌, ◌<◌}
use native.Mathlib.Omega.{arith}
use lib.ListN.{length, drop, drop_of_length-le}
use lib.Dec.{eqb}
use borrow.Author.Tests.{eqb-true, eqb-false}
use Rattle.rules.specs.declared.Streets.{Streets}
use Rattle.steps.specs.Plan.{Step}
use Rattle.steps.specs.Ranks.{RankOf, Ahead}
use Rattle.steps.specs.Sets.{ranks, marked, source, Loses}
use Rattle.steps.specs.Leading.{Onward, Reached}
use Rattle.orders.specs.Passes.{Given, Filled, Pruned}
use Rattle.steps.proofs.Slots.{held_below}
use Rattle.steps.proofs.Bits.{marked-held, source-gap}
use Rattle.orders.proofs.Ways.{ahead_none}
use Rattle.orders.proofs.Nodes.{node_at, stop_at, way_on, way_back, ahead-on, ahead-back, stop-ready, rank_below}

-- a number from g on is g or above it
at-or : {P : Type 0} (h g : ℕ) → g ≤ h → (h ≡ g → P) → (g < h → P) → P
at-or {P} h g l p q = go (eqb h g) refl
  where
    go : (b : Bool) → eqb h g ≡ b → P
    go true e = p (eqb-true h g e)
    go false e = q (omega (arith, eqb-false h g e))

-- the gaps from that before node i on are pruned, those before it are as they were
pub record Prunes (ss : List Step) (st : Streets) (s₀ : List ℕ) (i : ℕ) (s : List ℕ) : Type 0 where
  pub long : length s ≡ length s₀
  pub node : i ≤ length ss
  pub early : (g x : ℕ) → suc g < i → x < ranks → marked s g x ≡ marked s₀ g x
  pub was : (g x : ℕ) → i ≤ suc g → g < length ss → x < ranks → marked s g x ≡ true → marked s₀ g x ≡ true
  pub sound : (g x : ℕ) → i ≤ suc g → g < length ss → x < ranks → marked s g x ≡ true → Ahead st.upper st.lower (drop (suc g) ss) x
  pub full : (g x : ℕ) → i ≤ suc g → g < length ss → x < ranks → marked s₀ g x ≡ true → Ahead st.upper st.lower (drop (suc g) ss) x →
      marked s g x ≡ true

module _ (ss : List Step) (st : Streets) (s₀ : List ℕ) (given : Given ss s₀)
    (fills : Filled st.upper st.lower ss (length ss) s₀) where
  pub prunes-start : Prunes ss st s₀ (length ss) s₀
  prunes-start =
      record {
        long = refl;
        node = omega arith;
        early = λ g x l h. refl;
        was = λ g x l m h e. e;
        sound = λ g x l m h e. rw (drop_of_length-le ss {i = suc g} (omega arith)) (ahead_none st.upper st.lower x);
        full = λ g x l m h e a. e;
      }

  -- the rank of a mark is one of the nets that the next node finds open
  rank-next : (i g : ℕ) (s : List ℕ) → i ≡ suc (suc g) → Prunes ss st s₀ i s → (x : ℕ) → marked s g x ≡ true →
      RankOf (node_at ss (suc g)).count x
  rank-next i g s e f x m =
      let h : x < ranks = omega (arith, held_below x (marked-held s g x m)) in
      let w = fills.sound g x (omega (arith, f.node)) h (sym (f.early g x (omega arith) h) ∙ m) in
      (stop-ready ss st (suc g) (omega (arith, f.node)) s₀ x given w).1

  -- what is marked after the next node was led to from a mark before it
  reached-next : (i g : ℕ) (s : List ℕ) → i ≡ suc (suc g) → Prunes ss st s₀ i s → (x : ℕ) → marked s (suc g) x ≡ true →
      Reached (stop_at ss st (suc g)) s (suc g) x
  reached-next i g s e f x m =
      let l : suc g < length ss = omega (arith, f.node) in
      let h : x < ranks = omega (arith, held_below x (marked-held s (suc g) x m)) in
      let w = fills.sound (suc g) x l h (f.was (suc g) x (omega arith) l h m) in
      let (r, v, k) = way_back ss st (suc g) l x w in
      let n : r < ranks = rank_below ss st (suc g) s₀ r given v in
      record {
        rank = r;
        below = (stop-ready ss st (suc g) l s₀ r given v).1.below;
        from = source-gap s (suc g) g r refl ∙ f.early g r (omega arith) n ∙ fills.full g r (omega arith) v;
        leads = k;
      }

  prunes-next : (i g : ℕ) (s t : List ℕ) → i ≡ suc (suc g) → Prunes ss st s₀ i s →
      Loses s g (Onward (stop_at ss st (suc g)) s (suc g)) t → Prunes ss st s₀ (suc g) t
  prunes-next i g s t e f a =
      record {
        long = a.long ∙ f.long;
        node = omega (arith, f.node);
        early = λ h x l m. a.others h x m (λ q. omega arith) ∙ f.early h x (omega arith) m;
        was = λ h x l m n k. by h l (λ q. rw q (was x n (rw q at k)))
            (λ j. f.was h x (omega arith) m n (sym (a.others h x n (λ q. omega arith)) ∙ k));
        sound = λ h x l m n k. by h l (λ q. rw q (sound x n (rw q at k)))
            (λ j. f.sound h x (omega arith) m n (sym (a.others h x n (λ q. omega arith)) ∙ k));
        full = λ h x l m n k b. by h l (λ q. rw q (full x n (rw q at k) (rw q at b)))
            (λ j. a.others h x n (λ q. omega arith) ∙ f.full h x (omega arith) m n k b);
      }
    where
      next : suc g < length ss
      next = omega (arith, f.node)

      same : (x : ℕ) → x < ranks → marked s g x ≡ marked s₀ g x
      same x n = f.early g x (omega arith) n

      by : {P : Type 0} (h : ℕ) → suc g ≤ suc h → (h ≡ g → P) → (g < h → P) → P
      by h l p q = at-or h g (omega arith) p q

      was : (x : ℕ) → x < ranks → marked t g x ≡ true → marked s₀ g x ≡ true
      was x n k = sym (same x n) ∙ a.was x n k

      sound : (x : ℕ) → x < ranks → marked t g x ≡ true → Ahead st.upper st.lower (drop (suc g) ss) x
      sound x n k =
          let o = a.sound x n k in
          ahead-on ss st (suc g) next x o.next o.leads
          (f.sound (suc g) o.next (omega arith) next o.within o.kept)

      full : (x : ℕ) → x < ranks → marked s₀ g x ≡ true → Ahead st.upper st.lower (drop (suc g) ss) x → marked t g x ≡ true
      full x n k b =
          let (y, h, c) = ahead-back ss st (suc g) next x b in
          let w = way_on ss st (suc g) next x y (fills.sound g x (omega arith) n k) h in
          let m = rank_below ss st (suc (suc g)) s₀ y given w in
          a.full x n (same x n ∙ k)
          (record { next = y; within = m; leads = h; kept = f.full (suc g) y (omega arith) next m (fills.full (suc g) y next w) c })

  -- with node h, between gaps g and h
  module _ (i h g : ℕ) (s : List ℕ) (ei : i ≡ suc h) (eh : h ≡ suc g) (f : Prunes ss st s₀ i s) where
    pub mark-ranks : (x : ℕ) → source s (suc g) x ≡ true → RankOf (node_at ss h).count x
    mark-ranks x m = rw eh (rank-next i g s (ei ∙ ap suc eh) f x (sym (source-gap s (suc g) g x refl) ∙ m))

    pub mark-reached : (x : ℕ) → marked s (suc g) x ≡ true → Reached (stop_at ss st h) s (suc g) x
    mark-reached x m = rw eh (reached-next i g s (ei ∙ ap suc eh) f x m)

    pub prunes-step : (t : List ℕ) → Loses s g (Onward (stop_at ss st h) s (suc g)) t → Prunes ss st s₀ h t
    prunes-step t a = rw eh (prunes-next i g s t (ei ∙ ap suc eh) f (rw eh at a))

  pub prunes-end : (i : ℕ) (s : List ℕ) → i ≤ 1 → Prunes ss st s₀ i s → Pruned st.upper st.lower ss s₀ s
  prunes-end i s l f =
      record {
        long = f.long;
        was = λ g x h. f.was g x (omega arith) (omega arith);
        sound = λ g x h. f.sound g x (omega arith) (omega arith);
        full = λ g x h. f.full g x (omega arith) (omega arith);
      }
