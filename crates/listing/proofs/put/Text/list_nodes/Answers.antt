-- `listing::put::Text::list_nodes` meets its contract, by the invariant of Invariants.antt. Assumes nothing.
use mathlib.Core.Path.{ap, ◌∙◌}
use native.Mathlib.Omega.{arith}
use Rattle.rules.specs.declared.Kind.{Kind}
use Rattle.rules.specs.Judgement.{left}
use Rattle.sheet.specs.Fields.{entry_in}
use Rattle.sheet.specs.Told.{kind_at}
use Rattle.listing.specs.Text.{open_after}
use Rattle.listing.proofs.Lines.{room-node, through-more, through-all}
use Rattle.listing.proofs.put.Text.list_nodes.Goals as goal

pub list_node-requires-clause-few : goal.list_node-requires-clause-few
list_node-requires-clause-few c = omega (arith, c.loop-i.invariant.few, c.requires.few)

pub list_node-requires-clause-room : goal.list_node-requires-clause-room
list_node-requires-clause-room c =
    let l = c.loop-i in
    room-node c.args.fields.now c.args.self.now l.i l.nets (omega arith) l.invariant c.requires.room

pub loop-i-preserved : goal.loop-i-preserved
unfolding open_after entry_in kind_at
loop-i-preserved c =
    let l = c.loop-i in
    let o = c.left_open-nets.ensures in
    through-more c.args.fields.now c.args.self.now l.i l.nets (omega arith) l.invariant c.list_node.ensures (o.0 ∙ ap (λ (k : Kind). left k l.nets) c.kind_of.ensures) o.1

pub returns : goal.returns
returns c = through-all c.args.fields.now c.args.self.now c.loop-i.i c.loop-i.nets (omega arith) c.loop-i.invariant
