-- The film of legal entries obeys the wire rules, for any pitch larger than the number of wires that can be open, and is tidy; so is
-- that of every accepted sheet.
use mathlib.Core.Path.{◌≡◌, refl}
use mathlib.Core.List.{List, []}
use mathlib.Core.Option.{none}
use Prim.Native.Nat.{ℕ, ◌+◌, ◌≤◌, ◌<◌}
use native.Mathlib.Omega.{arith}
use Rattle.rules.specs.Sheet.{Entry, nets, upper_of, lower_of, entries_of, pins_of}
use Rattle.rules.specs.Judgement.{judge}
use Rattle.rules.specs.Film.{axis, draw, records}
use Rattle.rules.specs.WireRules.{WireRules, Tidy}
use Rattle.rules.proofs.Open.{times}
use Rattle.rules.proofs.Legal.{Legal}
use Rattle.rules.proofs.Accepted.{judge-passed, takes-le}
use Rattle.wires.specs.Levels.{own}
use Rattle.wires.proofs.Among.{nil}
use Rattle.wires.proofs.Gap.{bare}
use Rattle.wires.proofs.Trace.{Trace}
use Rattle.wires.proofs.Steps.{Steps, steps}
use Rattle.wires.proofs.Rules as rules
use Rattle.wires.proofs.Joins as joins
use Rattle.wires.proofs.Drawn.{from, draw-trace}

pub none_open : {ku kl : ℕ} → joins.Fine ku kl 0 []
unfolding times
none_open = record { good = nil; once = λ m. omega arith }

module _ (pitch ku kl : ℕ) (wide : ku + kl < pitch) (deep : kl ≤ axis) {es : List Entry} (legal : Legal ku kl 0 es) where
  pub film-trace : Trace pitch ku kl 0 0 [] (nets 0 [] es) (own ku es) (draw pitch ku 0 0 [] es)
  unfolding from times
  film-trace =
      draw-trace pitch ku kl wide deep legal 0 0 [] refl (λ e. refl) bare
      (record { once = λ x. omega arith; low = λ x t. absurd (omega arith) })

  film-steps : Steps ku kl 0 [] (draw pitch ku 0 0 [] es)
  film-steps = steps film-trace

  pub wire-rules : WireRules pitch ku kl (nets 0 [] es) (draw pitch ku 0 0 [] es)
  unfolding times
  wire-rules =
      record {
        apart = rules.apart film-steps;
        own = λ r i d h o. joins.own film-trace none_open r i i d (omega arith) h o;
        joins = λ net i j e e'. joins.joins film-trace none_open net i i j j (omega arith) (omega arith) e e';
        cuts = λ net c. rules.cuts film-steps net (omega arith) c;
        tracks = λ n h l r d. let t = (rules.on-tracks film-steps nil n h l r d).0 in (t.low, t.high, t.off);
      }

  pub tidy : Tidy ku kl (draw pitch ku 0 0 [] es)
  tidy =
      record {
        wide = λ n h l r d. (rules.on-tracks film-steps nil n h l r d).1;
        tall = rules.tall film-steps nil;
        filled = rules.filled film-steps;
      }

-- what the film of an accepted sheet is drawn from
pub record Sheeted (s : List ℕ) : Type 0 where
  pub wide : upper_of s + lower_of s < 16
  pub deep : lower_of s ≤ axis
  pub legal : Legal (upper_of s) (lower_of s) 0 (entries_of s)

module _ (s : List ℕ) (accepted : judge s ≡ none) where
  pub sheet-legal : Sheeted s
  sheet-legal =
      let p = judge-passed s accepted in
      let t = takes-le (upper_of s) (lower_of s) p.tracks in
      record { wide = omega arith; deep = omega arith; legal = p.legal }

  pub sheet-rules : WireRules 16 (upper_of s) (lower_of s) (pins_of s) (records 16 s)
  unfolding pins_of records
  sheet-rules = let p = sheet-legal in wire-rules 16 (upper_of s) (lower_of s) p.wide p.deep p.legal

  pub sheet-tidy : Tidy (upper_of s) (lower_of s) (records 16 s)
  unfolding records
  sheet-tidy = let p = sheet-legal in tidy 16 (upper_of s) (lower_of s) p.wide p.deep p.legal
