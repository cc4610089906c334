-- `steps::open::unopen_few` meets its contract: the legal ranks of the next gap, laid over each other, cut the word.
use mathlib.Core.Path.{ap, ◌∙◌}
use Prim.Native.Nat.{ℕ}
use native.Mathlib.Numerals.{add-one}
use native.Mathlib.Omega.{arith}
use Rattle.steps.specs.Sets.{word_at}
use Rattle.steps.proofs.OpeningMarks.{fact-few}
use Rattle.steps.proofs.OpeningBack.{few-loses}
use Rattle.steps.proofs.open.unopen_few.Goals as goal

pub joined-requires : goal.joined-requires
joined-requires c = omega (arith, c.factorial.ensures.value, fact-few c.args.b c.requires.b_bound.0)

pub returns : goal.returns
returns c =
    let m = c.places in
    let z = c.joined in
    let f = c.factorial in
    let p = c.keep_word in
    let n = c.word.ensures ∙ ap (λ (h : ℕ). word_at c.args.work.now h 0) (add-one c.args.g) in
    few-loses c.args.work.now c.args.g c.args.streets.upper c.args.streets.lower c.args.b m.result f.result z.result c.requires.b_bound.0
    f.ensures.value c.requires.by_index m.ensures (rw n at z.ensures) p.new.work
    p.ensures
