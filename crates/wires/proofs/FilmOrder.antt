-- The film of an accepted sheet in its one order: no two records tie, one list rises with them, the fold over the sweep lays it, and it obeys the wire
-- rules as the records of the sweep do.
use mathlib.Core.Path.{◌≡◌, refl, ◌∙◌}
use mathlib.Core.List.Memᴰ
use mathlib.Core.List.{List, [], ◌∷◌, Memᴰ}
use mathlib.Core.Logic.{◌↔◌}
use mathlib.Core.Option.{Option, none, some}
use Prim.Native.Nat.{ℕ, suc, ◌+◌, ◌<◌}
use native.Mathlib.Omega.{arith}
use lib.ListN.{length, get_or}
use Rattle.rules.specs.Basic.{pick}
use Rattle.rules.specs.Sheet.{upper_of, lower_of, count_of, entries_of, pins_of}
use Rattle.rules.specs.Judgement.{judge}
use Rattle.rules.specs.Film.{Rec, Wire, ran, wall, bent, records}
use Rattle.rules.specs.FilmOrder.{in_order, film_of}
use Rattle.rules.specs.WireRules.{net_of, over, overs, WireRules, Tidy}
use Rattle.rules.proofs.Open.{times}
use Rattle.rules.proofs.Accepted.{judge-passed, count-within, pins-low, nets-half}
use Rattle.wires.specs.Levels.{own, ByRule}
use Rattle.wires.specs.Laying.{unopened, in_slot, laid, in_row, first_slot}
use Rattle.wires.proofs.Among.{All, nil, cons, all-at, all_more, all-less, More, here, there, more-in, Reordered, empty, also, reordered-length, reordered-members}
use Rattle.wires.proofs.Trace.{Trace, stop, turn, begin, meet, end, blank}
use Rattle.wires.proofs.Joins.{linked-in}
use Rattle.wires.proofs.Obeyed.{none_open, film-trace, sheet-legal, sheet-rules, sheet-tidy}
use Rattle.wires.proofs.ByRule.{sheet-by-rule}
use Rattle.wires.proofs.Sorted.{Apart, Rising, in-order-same, in-order-rising, rising-distinct, one-rising}
use Rattle.wires.proofs.Ranks.{each, Commute, at-ranks}
use Rattle.wires.proofs.Strokes.{Strokes, strokes}
use Rattle.wires.proofs.Ties.{untied}
use Rattle.wires.proofs.Slots.{Ready, laid-slots}
use Rattle.wires.proofs.FirstSlots.{first_slot-pos, slot-rank, first_slot-last}

-- ---- records that come stroke by stroke are laid in their order

each-in_slot : {F : Type 0} (stamp : ℕ → Rec → F → F) {g h : Rec → ℕ} → ((r : Rec) → g r ≡ suc (h r)) → (rs : List Rec) (film : F)
    → each (in_slot stamp) g rs film ≡ each stamp h rs film
unfolding each in_slot
each-in_slot stamp e [] film = refl
each-in_slot stamp {g} {h} e (r ∷ rs) film = rw (e r) (each-in_slot stamp e rs (stamp (h r) r film))

ready : (base : ℕ → ℕ) (rs : List Rec) → Ready base rs 0 [] rs base (λ n. 0)
unfolding times
ready base rs =
    record {
      past = λ n. 0;
      to-come = λ n z h. omega arith;
      ahead = λ n. omega arith;
      open_at = λ w m. absurd (Memᴰ.not-nil m);
      free = λ n a. refl;
    }

laid_in_order : {F : Type 0} (stamp : ℕ → Rec → F → F) (film : F) {rs : List Rec} → Strokes 0 [] rs → Commute stamp
    → (laid stamp (unopened film (first_slot rs)) rs).film ≡ in_row stamp 0 (in_order rs) film
unfolding unopened
laid_in_order stamp film {rs} s c =
    laid-slots stamp (first_slot rs) rs (first_slot-pos rs) s (unopened film (first_slot rs)) (ready (first_slot rs) rs)
    ∙ each-in_slot stamp (slot-rank rs) rs film ∙ at-ranks stamp c film (untied s)

-- ---- the nets of records are those of open wires and pins

nets-below : {pitch ku kl i x m : ℕ} {ws : List Wire} {pins : List (Option ℕ)} {hs : List ℕ} {film : List Rec} → Trace pitch ku kl i x ws pins hs film
    → All (λ w. w.net < m) ws → ((j n : ℕ) → get_or pins j none ≡ some n → n < m) → All (λ r. net_of r < m) film
unfolding net_of ran wall bent
nets-below stop a p = nil
nets-below (turn {y = y} {h = h} {w = w} l t k m m' c r) a p =
    let b = all-at a (more-in m) in
    cons {x = ran y w} b (cons {x = wall y h w} b (nets-below r (all_more m' b (all-less m a)) p))
nets-below (begin {w = w} l s t m c u r) a p = let b = p 0 w.net refl in cons b (nets-below r (all_more m b a) (λ j. p (suc j)))
nets-below (meet {w = w} l m c r) a p = cons (p 0 w.net refl) (nets-below r a (λ j. p (suc j)))
nets-below (end {w = w} l m c z r) a p = let b = p 0 w.net refl in cons b (cons b (nets-below r (all-less m a) (λ j. p (suc j))))
nets-below (blank l r) a p = nets-below r a (λ j. p (suc j))

-- ---- what holds of records in any order

overs-more : (net c : ℕ) {r : Rec} {l m : List Rec} → More r l m → overs net c m ≡ pick (over net c r) 1 0 + overs net c l
unfolding overs
overs-more net c here = refl
overs-more net c (there k) = omega (arith, overs-more net c k)

overs-same : (net c : ℕ) {l m : List Rec} → Reordered l m → overs net c m ≡ overs net c l
unfolding overs
overs-same net c empty = refl
overs-same net c (also s k) = omega (arith, overs-more net c k, overs-same net c s)

module _ {rs film : List Rec} (same : Reordered rs film) where
  from : {r : Rec} → Memᴰ r film → Memᴰ r rs
  from {r} = (reordered-members same r).1

  rules-same : {pitch ku kl : ℕ} {pins : List (Option ℕ)} → WireRules pitch ku kl pins rs → WireRules pitch ku kl pins film
  rules-same w =
      record {
        apart = λ r r' x y m m'. w.apart r r' x y (from m) (from m');
        own = λ r i m. w.own r i (from m);
        joins = λ net i j e e'. linked-in (λ r. (reordered-members same r).0) (w.joins net i j e e');
        cuts = λ net c. omega (arith, w.cuts net c, overs-same net c same);
        tracks = λ n h l r m. w.tracks n h l r (from m);
      }

  tidy-same : {ku kl : ℕ} → Tidy ku kl rs → Tidy ku kl film
  tidy-same t =
      record {
        wide = λ n h l r m. t.wide n h l r (from m);
        tall = λ n l x h m. t.tall n l x h (from m);
        filled = λ n h l r n' l' r' m m'. t.filled n h l r n' l' r' (from m) (from m');
      }

-- ---- the film of a sheet

module _ (s : List ℕ) where
  -- it has the records of the sweep, each as often
  pub film-same : Reordered (records 16 s) (film_of 16 s)
  unfolding film_of
  film-same = in-order-same (records 16 s)

  pub film-length : length (film_of 16 s) ≡ length (records 16 s)
  film-length = reordered-length film-same

module _ (s : List ℕ) (accepted : judge s ≡ none) where
  sheet-trace : Trace 16 (upper_of s) (lower_of s) 0 0 [] (pins_of s) (own (upper_of s) (entries_of s)) (records 16 s)
  unfolding records pins_of
  sheet-trace = let p = sheet-legal s accepted in film-trace 16 (upper_of s) (lower_of s) p.wide p.deep p.legal

  sheet-strokes : Strokes 0 [] (records 16 s)
  sheet-strokes = strokes sheet-trace none_open

  -- no two records tie
  pub sheet-untied : Apart (records 16 s)
  sheet-untied = untied sheet-strokes

  -- the film rises, and is the only list that rises and has the records of the sweep
  pub film-rising : Rising (film_of 16 s)
  unfolding film_of
  film-rising = in-order-rising sheet-untied

  pub one-film : {film : List Rec} → Rising film → ((r : Rec) → Memᴰ r film ↔ Memᴰ r (records 16 s)) → film ≡ film_of 16 s
  one-film a f =
      one-rising a film-rising (λ r. let m = reordered-members (film-same s) r in (λ i. m.0 ((f r).0 i), λ i. (f r).1 (m.1 i)))

  -- laid record by record in the order of the sweep, from the nets' first slots on, it is the same as laid in a row
  pub sheet-in-order : {F : Type 0} (stamp : ℕ → Rec → F → F) (film : F) → Commute stamp
      → (laid stamp (unopened film (first_slot (records 16 s))) (records 16 s)).film ≡ in_row stamp 0 (film_of 16 s) film
  unfolding film_of
  sheet-in-order stamp film = laid_in_order stamp film sheet-strokes

  -- there are at most 256 nets, and behind their slots all records are counted
  pub sheet-nets : All (λ r. net_of r < 256) (records 16 s)
  sheet-nets =
      let few = (count-within (count_of s) (judge-passed s accepted).count).1 in
      nets-below sheet-trace nil (λ j n e. omega (arith, few, nets-half s accepted, pins-low s accepted j n e))

  pub sheet-sum : first_slot (records 16 s) 256 ≡ suc (length (records 16 s))
  sheet-sum = first_slot-last 256 sheet-nets

  -- the rules don't depend on the order
  pub film-rules : WireRules 16 (upper_of s) (lower_of s) (pins_of s) (film_of 16 s)
  film-rules = rules-same (film-same s) (sheet-rules s accepted)

  pub film-tidy : Tidy (upper_of s) (lower_of s) (film_of 16 s)
  film-tidy = tidy-same (film-same s) (sheet-tidy s accepted)

  pub film-by-rule : ByRule 16 (upper_of s) (entries_of s) (film_of 16 s)
  film-by-rule =
      let b = sheet-by-rule s accepted in
      record {
        exactly = λ r. let m = reordered-members (film-same s) r in (λ i. (b.exactly r).0 (m.1 i), λ i. m.0 ((b.exactly r).1 i));
        once = rising-distinct film-rising;
      }
