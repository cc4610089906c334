-- `listing::put::Text::put_word` meets its contract: a word is copied whole, and the byte that ends it put behind. Assumes nothing.
use mathlib.Core.Path.{refl, ap, ◌∙◌}
use mathlib.Core.List.{List}
use Prim.Native.Nat.{ℕ, ◌+◌, ◌-◌}
use native.Mathlib.Omega.{arith}
use lib.ListN.{length, set}
use borrow.Rule.Slice.PartMut.{put_mid, same_len_mid}
use Rattle.listing.proofs.Writing.{word-closed, length-closed}
use Rattle.listing.proofs.put.Text.put_word.Goals as goal

pub slice_bounds-copy_from_slice-end : goal.slice_bounds-copy_from_slice-end
slice_bounds-copy_from_slice-end c = omega (arith, c.requires.within, length-closed c.args.word.now c.args.end)

pub bounds-self-behind : goal.bounds-self-behind
bounds-self-behind c = omega (arith, c.requires.within, length-closed c.args.word.now c.args.end, same_len_mid c.args.self.now.len (c.args.self.now.len + length c.args.word.now - c.args.self.now.len) c.args.self.now.bytes.now c.copy_from_slice.new.self c.copy_from_slice.ensures.len)

pub returns : goal.returns
returns c =
    let t = c.args.self.now in
    let word = c.args.word.now in
    record {
      same = refl;
      is =
          ap (λ (l : List ℕ). set (put_mid t.len (t.len + length word - t.len) t.bytes.now l) (t.len + length word) c.args.end) c.copy_from_slice.ensures.after
          ∙ word-closed t.bytes.now t.len word c.args.end c.requires.within;
      len = omega (arith, length-closed word c.args.end);
    }
