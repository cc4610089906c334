-- `steps::open::unopen_fifth` meets its contract: the next gap's words at legal places cut the word.
use mathlib.Core.Path.{ap, ◌∙◌}
use Prim.Native.Nat.{ℕ, suc}
use native.Mathlib.Numerals.{add-one}
use Rattle.steps.specs.Sets.{word_at}
use Rattle.steps.proofs.OpeningSlots.{only_one, only_two, only-three}
use Rattle.steps.proofs.OpeningBack.{fifth-loses}
use Rattle.steps.proofs.open.unopen_fifth.Goals as goal

pub returns : goal.returns
returns c =
    let a = c.args in
    let s = a.work.now in
    let k = a.streets in
    let h = c.requires.fifth.0 in
    let u = c.word in
    let y = c.word-y in
    let v = c.word-2 in
    let x = c.only-x in
    let z = c.only-z in
    let p = c.keep_word in
    let next = add-one a.g in
    let ex = only_one k.upper k.lower k.upper_few k.lower_few h x.result u.result (word_at s (suc a.g) 1) x.ensures
    (u.ensures ∙ ap (λ (h : ℕ). word_at s h 1) next) in
    let ey = only_two k.upper k.lower k.upper_few k.lower_few h y.result (word_at s (suc a.g) 2) (y.ensures ∙ ap (λ (h : ℕ). word_at s h 2) next) in
    let ez = only-three k.upper k.lower k.upper_few k.lower_few h z.result v.result (word_at s (suc a.g) 3) z.ensures
    (v.ensures ∙ ap (λ (h : ℕ). word_at s h 3) next) in
    fifth-loses s a.g k.upper k.lower x.result y.result z.result k.upper_few k.lower_few c.requires.by_index ex ey ez p.new.work
    p.ensures
