-- `steps::tables::locate` meets its contract: fewer than five are four, and of five and six the youngest stands at the first digit, another beside it.
use mathlib.Core.Path.{◌≡◌, refl, ap, ◌∙◌}
use Prim.Native.Nat.{ℕ, suc, ◌+◌, ◌-◌, ◌*◌, ◌/◌, ◌%◌, ◌≤◌, ◌<◌}
use native.Mathlib.Nat.{mod-lt}
use native.Mathlib.Omega.{arith}
use Rattle.steps.specs.Ranks.{fact, spared}
use Rattle.steps.proofs.Ranks.{fact-pos, fact-six, at_lt, less-lt, at-youngest, less-youngest, at-older, less-older}
use Rattle.steps.proofs.FourSets.{place-lt}
use Rattle.steps.proofs.EndingFew.{fact-four, place-few, left-few}
use Rattle.steps.proofs.tables.+locate.Goals as goal

pub spot-place-requires : goal.spot-place-requires
spot-place-requires t c =
    let m : c.args.b ≤ 4 = omega (arith, c.if-b-lt5.true) in
    (omega (arith, c.requires.0), omega (arith, c.requires.2, fact-four c.args.b m))

pub overflow_add-result : goal.overflow_add-result
overflow_add-result t c =
    let m : c.args.b ≤ 4 = omega (arith, c.if-b-lt5.true) in
    let e = place-few c.args.b c.args.a c.requires.0 m c.args.r c.requires.2 in
    let l = place-lt (c.args.b - 1 - c.args.a) c.args.r (omega (arith, c.requires.2, fact-four c.args.b m)) in
    omega (arith, c.spot-place.ensures.at, e, l, m)

pub overflow_sub-result : goal.overflow_sub-result
overflow_sub-result t c =
    let m : c.args.b ≤ 4 = omega (arith, c.if-b-lt5.true) in
    let e = place-few c.args.b c.args.a c.requires.0 m c.args.r c.requires.2 in
    omega (arith, c.spot-place.ensures.at, e, m)

pub returns-then-b-lt5 : goal.returns-then-b-lt5
returns-then-b-lt5 t c =
    let m : c.args.b ≤ 4 = omega (arith, c.if-b-lt5.true) in
    let e = place-few c.args.b c.args.a c.requires.0 m c.args.r c.requires.2 in
    record {
      at = omega (arith, c.spot-place.ensures.at, e, m);
      rest = c.spot-place.ensures.rest ∙ left-few c.args.b c.args.a c.requires.0 m c.args.r c.requires.2;
    }

pub parted-first-requires : goal.parted-first-requires
parted-first-requires t c = (omega (arith, c.if-b-lt5.false), c.requires.1)

pub returns-then-a-eq0 : goal.returns-then-a-eq0
returns-then-a-eq0 t c =
    let x = c.args in
    let q = c.parted-first.ensures in
    let e : x.b ≡ suc (x.b - 1) = omega (arith, c.if-b-lt5.false) in
    record {
      at = q.0 ∙ at-youngest x.a x.b (x.b - 1) x.r (fact (x.b - 1)) c.if-a-eq0.true e refl;
      rest = q.1 ∙ less-youngest x.a x.b (x.b - 1) x.r (fact (x.b - 1)) c.if-a-eq0.true e refl;
    }

pub locate-requires : goal.locate-requires
locate-requires t c =
    let x = c.args in
    let q = c.parted-first.ensures in
    let l : x.r % fact (x.b - 1) < fact (x.b - 1) = mod-lt x.r (fact-pos (x.b - 1)) in
    (omega (arith, c.if-a-eq0.false), (omega (arith, c.requires.0, c.if-a-eq0.false), omega (arith, c.requires.1), rw q.1 l))

pub beside-requires : goal.beside-requires
beside-requires t c =
    let x = c.args in
    let q = c.parted-first.ensures in
    let o = c.locate.ensures in
    let e : x.b ≡ suc (x.b - 1) = omega (arith, c.if-b-lt5.false) in
    let l : c.parted-first.result.1 < fact (x.b - 1) = rw q.1 (mod-lt x.r (fact-pos (x.b - 1))) in
    let a : x.a - 1 < x.b - 1 = omega (arith, c.requires.0, c.if-a-eq0.false) in
    record {
      first_le_capacity = (
        omega (arith, c.requires.1, q.0, at-youngest 0 x.b (x.b - 1) x.r (fact (x.b - 1)) refl e refl, at_lt 0 x.b x.r (omega arith) c.requires.2),
        c.factorial.ensures.most,
      );
      at_lt_capacity = (
        omega (arith, c.requires.1, o.at, at_lt (x.a - 1) (x.b - 1) c.parted-first.result.1 a l),
        omega (arith, o.rest, less-lt (x.a - 1) (x.b - 1) c.parted-first.result.1 a l, fact-six (x.b - 1 - 1) (omega (arith, c.requires.1))),
      );
    }

pub returns : goal.returns
returns t c =
    let x = c.args in
    let q = c.parted-first.ensures in
    let v = c.factorial in
    let o = c.locate in
    let b = c.beside.ensures in
    let eb : x.b ≡ suc (x.b - 1) = omega (arith, c.if-b-lt5.false) in
    let ea : x.a ≡ suc (x.a - 1) = omega (arith, c.if-a-eq0.false) in
    let ev : v.result ≡ fact (x.b - 1 - 1) = v.ensures.value ∙ ap fact (omega arith) in
    let at = rw q.1 at o.ensures.at in
    let rest = rw q.1 at o.ensures.rest in
    record {
      at = (rw q.0 at b.at) ∙ at-older x.a x.b (x.a - 1) (x.b - 1) x.r (fact (x.b - 1)) o.result.at ea eb refl at;
      rest = (rw q.0 at b.rest) ∙ ap (λ (n : ℕ). spared (x.r / fact (x.b - 1)) o.result.at * n + o.result.rest) ev
          ∙ less-older x.a x.b (x.a - 1) (x.b - 1) x.r (fact (x.b - 1)) o.result.at ea eb refl at o.result.rest rest;
    }
