-- The four nodes of a turn are laid behind those before them, by `fours-more`.
use Rattle.std.proofs.Common.{◌≡◌, ◌+◌, length, length-append, arith}
use mathlib.Core.List.{[], ◌∷◌, ◌++◌}
use Rattle.writer.proofs.Laying.{fours-none, fours-more, fours-end}
use Rattle.writer.proofs.write_fours.Goals as goal

pub loop-k-init : goal.loop-k-init
loop-k-init c =
    let r = c.chunks_exact.ensures in
    let e = c.enumerate-k-items.ensures in
    let same = c.into_iter-k-iterator.ensures.into_iter_gives in
    fours-none c.args.buf.now c.args.entries.now (omega (arith, c.requires.room)) _ _ _ (rw (same, e.source) r.rest) (rw (same, e.source) r.size) (rw same e.count)

pub loop-k-preserved : goal.loop-k-preserved
loop-k-preserved c =
    let t = c.in-Some.ensures.steps in
    let l = c.loop-k in
    let k : length (l.yielded ++ ((c.in-Some.k, c.in-Some.four) ∷ [])) ≡ length l.yielded + 1 = length-append l.yielded ((c.in-Some.k, c.in-Some.four) ∷ []) in
    rw k
    (fours-more c.args.buf.now c.args.entries.now (omega (arith, c.requires.room)) (length l.yielded) _ _ _ l.buf l.invariant
    c.in-Some.four.now _ _ c.in-Some.k _ c.four_bits.result c.put_three.new.buf t.0.1.0 t.0.1.1 t.0.0 t.1 t.2 c.four_bits.ensures.0 c.put_three.ensures)

pub returns : goal.returns
returns c =
    fours-end c.args.buf.now c.args.entries.now (omega (arith, c.requires.room)) (length c.loop-k.yielded) _ _ _ c.loop-k.buf c.loop-k.invariant c.in-None.ensures.steps.0.1.0
