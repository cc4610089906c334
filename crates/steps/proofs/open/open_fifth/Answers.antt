-- `steps::open::open_fifth` meets its contract: the old word is put where its place is legal.
use mathlib.Core.Path.{refl}
use Rattle.steps.proofs.OpeningSlots.{only_one, only_two, only-three, fifth-opened, fifth-bare}
use Rattle.steps.proofs.open.open_fifth.Goals as goal

pub returns : goal.returns
returns c =
    let a = c.args in
    let k = a.streets in
    let h = c.requires.fifth.0 in
    let w = c.ranks_before-w in
    let x = c.only-x in
    let z = c.only-z in
    let p = c.put_word in
    let q = c.put_word-2 in
    let r = c.put_word-3 in
    let ex = only_one k.upper k.lower k.upper_few k.lower_few h x.result w.result w.result x.ensures refl in
    let ey = only_two k.upper k.lower k.upper_few k.lower_few h w.result w.result refl in
    let ez = only-three k.upper k.lower k.upper_few k.lower_few h z.result w.result w.result z.ensures refl in record {
      opened = fifth-opened a.work.now a.g k.upper k.lower w.result x.result w.result z.result k.upper_few k.lower_few c.requires.empty
          w.ensures ex ey ez p.new.work q.new.work r.new.work p.ensures q.ensures r.ensures;
      bare = fifth-bare a.work.now a.g k.upper k.lower w.result x.result w.result z.result k.upper_few k.lower_few c.requires.empty
          w.ensures ex ey ez p.new.work q.new.work r.new.work p.ensures q.ensures r.ensures;
    }
