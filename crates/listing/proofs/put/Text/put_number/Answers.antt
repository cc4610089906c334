-- `listing::put::Text::put_number` meets its contract: what is printed of a number of 64 bits is the number in decimal. Assumes nothing.
use mathlib.Core.Path.{◌≡◌, ◌∙◌}
use native.Mathlib.Omega.{arith}
use Rattle.listing.specs.Text.{decimal}
use Rattle.listing.proofs.Decimals.{printed-decimal}
use Rattle.listing.proofs.put.Text.put_number.Goals as goal

pub put_word-requires : goal.put_word-requires
put_word-requires c =
    let e : c.as_bytes.result.now ≡ decimal c.args.n = c.as_bytes.ensures.value ∙ c.format.ensures.text ∙ printed-decimal c.args.n (omega arith) in
    rw e c.requires

pub returns : goal.returns
returns c =
    let e : c.as_bytes.result.now ≡ decimal c.args.n = c.as_bytes.ensures.value ∙ c.format.ensures.text ∙ printed-decimal c.args.n (omega arith) in
    rw e at c.put_word.ensures
