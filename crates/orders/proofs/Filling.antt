-- The gaps passed hold exactly the ranks of ways, node by node; where the next gap stays empty no way goes on.
use mathlib.Core.Path.{◌≡◌, refl, sym, ◌∙◌}
use mathlib.Core.Bool.{true}
use mathlib.Core.List.{List}
use Prim.Native.Nat.{ℕ, zero, suc, ◌+◌, ◌≤◌, ◌<◌}
use native.Mathlib.Numerals.{add-one}
use native.Mathlib.Omega.{arith}
use lib.ListN.{length, take}
use borrow.Author.Tests.{eqb-true, eq-eqb}
use Rattle.rules.specs.declared.Streets.{Streets}
use Rattle.steps.specs.Plan.{Step}
use Rattle.steps.specs.Ranks.{RankOf, Way}
use Rattle.steps.specs.Sets.{ranks, marked, source, Exactly, Empty, Some, Loses}
use Rattle.steps.specs.Leading.{Reached}
use Rattle.orders.specs.Passes.{Given, Filled, Passable, Forward}
use Rattle.steps.proofs.Ranks.{fact-six}
use Rattle.steps.proofs.Slots.{held_below}
use Rattle.steps.proofs.Bits.{source-held, last_or}
use Rattle.orders.proofs.Ways.{way-start, way-none}
use Rattle.orders.proofs.Nodes.{node_at, stop_at, way_on, way_back, stop-ready, rank_below}

-- the ranks before a node are those of ways
pub way-source : (ku kl : ℕ) (ss : List Step) (i : ℕ) (s : List ℕ) (r : ℕ) → Filled ku kl ss i s → Way ku kl (take i ss) r →
    source s i r ≡ true
unfolding source
way-source ku kl ss zero s r f w = eq-eqb r 0 (sym (way-none ku kl r w))
way-source ku kl ss (suc g) s r f w = f.full g r (omega arith) w

pub source-way : (ku kl : ℕ) (ss : List Step) (i : ℕ) (s : List ℕ) (r : ℕ) → Filled ku kl ss i s → r < ranks → source s i r ≡ true →
    Way ku kl (take i ss) r
unfolding source
source-way ku kl ss zero s r f l e = rw (eqb-true r 0 e) (way-start ku kl)
source-way ku kl ss (suc g) s r f l e = f.sound g r (omega arith) l e

-- after i nodes: their gaps are filled, and some way leads so far
pub record Fills (ss : List Step) (st : Streets) (s₀ : List ℕ) (i : ℕ) (s : List ℕ) : Type 0 where
  pub long : length s ≡ length s₀
  pub within : i ≤ length ss
  pub filled : Filled st.upper st.lower ss i s
  pub passes : Passable st.upper st.lower (take i ss)

module _ (ss : List Step) (st : Streets) (s₀ : List ℕ) (given : Given ss s₀) where
  pub fills-start : Fills ss st s₀ 0 s₀
  fills-start =
      record {
        long = refl;
        within = omega arith;
        filled = record { sound = λ g x l. absurd (omega arith); full = λ g x l. absurd (omega arith) };
        passes = record { end = 0; way = way-start st.upper st.lower };
      }

  -- what stood in the next gap is cleared
  pub fills-cleared : (i : ℕ) (s t : List ℕ) → Fills ss st s₀ i s → Loses s i (λ x. ⊥) t → Fills ss st s₀ i t
  fills-cleared i s t f c =
      record {
        long = c.long ∙ f.long;
        within = f.within;
        filled = record {
          sound = λ g x m h e. f.filled.sound g x m h (sym (c.others g x h (λ q. omega arith)) ∙ e);
          full = λ g x m w. c.others g x (rank_below ss st (suc g) s₀ x given w) (λ q. omega arith) ∙ f.filled.full g x m w;
        };
        passes = f.passes;
      }

  -- the ranks before the next node are those of the nets that it finds open
  pub fills-ranks : (i : ℕ) (s : List ℕ) → i < length ss → Fills ss st s₀ i s → (r : ℕ) → source s i r ≡ true →
      RankOf (node_at ss i).count r
  fills-ranks i s l f r e =
      let b : r < ranks = omega (arith, held_below r (source-held s i r e)) in
      (stop-ready ss st i l s₀ r given (source-way st.upper st.lower ss i s r f.filled b e)).1

  module _ (i : ℕ) (s t : List ℕ) (l : i < length ss) (f : Fills ss st s₀ i s)
      (a : Exactly s i (Reached (stop_at ss st i) s i) t) where
    reached-way : (x : ℕ) → Reached (stop_at ss st i) s i x → Way st.upper st.lower (take (suc i) ss) x
    reached-way x r =
        let p = f.passes in
        let h = (stop-ready ss st i l s₀ p.end given p.way).0 in
        let b : r.rank < ranks = omega (arith, r.below, fact-six (node_at ss i).count h.few) in
        way_on ss st i l r.rank x (source-way st.upper st.lower ss i s r.rank f.filled b r.from) r.leads

    way-reached : (x : ℕ) → Way st.upper st.lower (take (suc i) ss) x → Reached (stop_at ss st i) s i x
    way-reached x w =
        let (r, v, h) = way_back ss st i l x w in
        record {
          rank = r;
          below = (stop-ready ss st i l s₀ r given v).1.below;
          from = way-source st.upper st.lower ss i s r f.filled v;
          leads = h;
        }

    -- gap i now holds the ranks of ways
    now-way : (x : ℕ) → x < ranks → marked t i x ≡ true → Way st.upper st.lower (take (suc i) ss) x
    now-way x h e = reached-way x (a.sound x h e)

    way_now : (x : ℕ) → Way st.upper st.lower (take (suc i) ss) x → marked t i x ≡ true
    way_now x w = a.full x (rank_below ss st (suc i) s₀ x given w) (way-reached x w)

    filled_more : Filled st.upper st.lower ss (i + 1) t
    filled_more =
        record {
          sound = λ g x m h e. last_or (Way st.upper st.lower (take (suc g) ss) x) g i m (λ q. rw q (now-way x h (rw q at e)))
              (λ n. f.filled.sound g x n h (sym (a.others g x h (λ q. omega arith)) ∙ e));
          full = λ g x m w. last_or (marked t g x ≡ true) g i m (λ q. rw q (way_now x (rw q at w)))
              (λ n. a.others g x (rank_below ss st (suc g) s₀ x given w) (λ q. omega arith) ∙ f.filled.full g x n w);
        }

    pub fills-step : Some t i → Fills ss st s₀ (i + 1) t
    fills-step o =
        record {
          long = a.long ∙ f.long;
          within = omega arith;
          filled = filled_more;
          passes = rw (add-one i) (record { end = o.rank; way = now-way o.rank o.within o.is });
        }

    pub fills-stuck : Empty t i → Forward st.upper st.lower ss s₀ t i
    fills-stuck z =
        record {
          long = a.long ∙ f.long;
          within = f.within;
          filled = record {
            sound = λ g x m h e. f.filled.sound g x m h (sym (a.others g x h (λ q. omega arith)) ∙ e);
            full = λ g x m w. a.others g x (rank_below ss st (suc g) s₀ x given w)
                (λ q. omega arith) ∙ f.filled.full g x m w;
          };
          passes = f.passes;
          stuck = λ m p. z p.end (rank_below ss st (suc i) s₀ p.end given p.way) (way_now p.end p.way);
        }

  pub fills-end : (i : ℕ) (s : List ℕ) → length ss ≤ i → Fills ss st s₀ i s → Forward st.upper st.lower ss s₀ s (length ss)
  fills-end i s l f =
      let e : length ss ≡ i = omega (arith, f.within) in
      record {
        long = f.long;
        within = omega arith;
        filled = rw e f.filled;
        passes = rw e f.passes;
        stuck = λ m. absurd (omega arith);
      }
