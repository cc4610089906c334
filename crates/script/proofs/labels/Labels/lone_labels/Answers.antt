use mathlib.Core.Logic.{◌⊎◌, inl, inr}
use Rattle.std.proofs.Common.{suc, ◌≡◌, length, [], ◌∷◌, ◌++◌, take, arith, length-append}
use Rattle.script.proofs.Noting.{counting-more, counting-end}
use Rattle.script.proofs.labels.Labels.lone_labels.Goals as goal

pub loop-first-preserved : goal.loop-first-preserved
loop-first-preserved c =
    let s = c.in-Some.ensures.steps in
    let k : length (c.loop-first.yielded ++ (c.in-Some.first, c.in-Some.last) ∷ []) ≡ suc (length c.loop-first.yielded) = simp length-append (omega arith) in
    rw k
    (counting-more (take 255 c.args.self.now.first.now) (take 255 c.args.self.now.last.now) (length c.loop-first.yielded) c.loop-first.count _ _ c.loop-first.invariant
    c.in-Some.first.now c.in-Some.last.now c.one_node-count.result _ _ s.0 s.1 c.one_node-count.ensures.0 c.one_node-count.ensures.1)

pub returns : goal.returns
returns c =
    let g = c.args.self.now in
    let ended : (length c.loop-first.first-iterator.a.rest.now ≡ 0) ⊎ (length c.loop-first.first-iterator.b.rest.now ≡ 0) =
    elim c.in-None.ensures.steps [ inl e ↦ inl e.1.0 | inr e ↦ inr e.1.0 ] in
    counting-end g.first.now g.last.now 255 (length c.loop-first.yielded) c.loop-first.count _ _ c.loop-first.invariant (omega arith) (omega arith) ended
