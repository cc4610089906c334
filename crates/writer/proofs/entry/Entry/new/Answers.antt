-- A kind's number in the code is that of its field.
use Rattle.std.proofs.Common.{◌≡◌, ◌+◌, ◌*◌, ◌/◌, ◌<◌, ℕ, ap, arith}
use denote.Enum.Declared.{tag_of}
use Rattle.rules.specs.declared.Kind.{Kind}
use Rattle.rules.specs.declared.Kind.TheVariants.{B, M, E, N}
use Rattle.rules.specs.contracts.Kind.{the_type}
use Rattle.rules.specs.Sheet.{kind_in}
use Rattle.writer.proofs.entry.Entry.new.Goals as goal

kind-back : (k : Kind) (a : ℕ) → a < 16 → kind_in ((tag_of the_type k * 16 + a) / 16) ≡ k
unfolding kind_in
kind-back B a h = let e : (0 * 16 + a) / 16 ≡ 0 = omega arith in ap kind_in e
kind-back M a h = let e : (1 * 16 + a) / 16 ≡ 1 = omega arith in ap kind_in e
kind-back E a h = let e : (2 * 16 + a) / 16 ≡ 2 = omega arith in ap kind_in e
kind-back N a h = let e : (3 * 16 + a) / 16 ≡ 3 = omega arith in ap kind_in e

pub returns-clause-kind : goal.returns-clause-kind
returns-clause-kind c = kind-back c.args.kind c.args.above c.requires
