-- `slots::runs::Net::pass` meets its contract: the stub takes the net's next slot (`stub-laid`). Assumes nothing.
use mathlib.Core.Path.{refl}
use Rattle.slots.proofs.NetArrays.{stub-laid}
use Rattle.slots.proofs.runs.Net.pass.Goals as goal

pub returns : goal.returns
returns c =
    let a = c.args in
    record {
      film = stub-laid a.self.next a.net a.level a.column a.film.now a.self.next_from_one c.place.ensures c.level_of_pins.ensures c.put_wall.ensures;
      next = refl;
      run = refl;
    }
