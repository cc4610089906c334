-- Films whose records stand in their order, computed from the definitions: a run that begins before a stub and ends after it, and two nets whose wires move in
-- one gap, which the sweep draws in turn.
use mathlib.Core.Path.{◌≡◌, refl}
use mathlib.Core.List.{[], ◌∷◌}
use Rattle.rules.specs.Basic.{pick, tabulate, every, least, put, cut, keep, and_then, or_else, is_none, settle}
use Rattle.rules.specs.Street.{limits, met, last, limits_at, fits_at, counted, stands, next, kind}
use Rattle.rules.specs.Bits.{digits, val, pack, unpack, bytes}
use Rattle.rules.specs.Sheet.{takes, code, kind_in, size, upper_of, lower_of, count_of, entry_at, entries_of, padding_of, begun, begun_by}
use Rattle.rules.specs.Film.{upper, upper_at, height_at, target, ran, wall, bent, drawn, climb, sink, gap, opened, closed, marks, draw, records, across, upright}
use Rattle.rules.specs.WireRules.{net_of}
use Rattle.rules.specs.FilmOrder.{column_of, flat, less_or, goes_before, placed, in_order, film_of}

pub run-before-a-stub : film_of 16 (0x10 ∷ 0x03 ∷ 0x01 ∷ 0x08 ∷ 0x00 ∷ []) ≡ upright 0 4 0 5 ∷ across 0 5 0 32 ∷ upright 0 4 16 5 ∷ upright 0 4 32 5 ∷ []
unfolding pick tabulate every least put cut keep and_then or_else is_none settle limits met last limits_at fits_at counted stands next kind digits val pack unpack bytes takes code kind_in size upper_of lower_of count_of entry_at entries_of padding_of begun begun_by upper upper_at height_at target ran wall bent drawn climb sink gap opened closed marks draw records net_of column_of flat less_or goes_before placed in_order film_of
run-before-a-stub = refl

pub net-after-net : film_of 16 (0x2c ∷ 0x04 ∷ 0x00 ∷ 0x18 ∷ 0x20 ∷ [])
    ≡ upright 0 4 0 5 ∷ across 0 5 0 1 ∷ upright 0 5 1 6 ∷ across 0 6 1 18 ∷ upright 0 5 18 6 ∷ across 0 5 18 32
    ∷ upright 0 4 32 5 ∷ upright 1 4 16 5 ∷ across 1 5 16 17 ∷ upright 1 3 17 5 ∷ across 1 3 17 33 ∷ upright 1 3 33 5
    ∷ across 1 5 33 48 ∷ upright 1 4 48 5 ∷ []
unfolding pick tabulate every least put cut keep and_then or_else is_none settle limits met last limits_at fits_at counted stands next kind digits val pack unpack bytes takes code kind_in size upper_of lower_of count_of entry_at entries_of padding_of begun begun_by upper upper_at height_at target ran wall bent drawn climb sink gap opened closed marks draw records net_of column_of flat less_or goes_before placed in_order film_of
net-after-net = refl
