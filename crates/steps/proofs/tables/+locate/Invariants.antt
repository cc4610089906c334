-- `steps::tables::locate` ends: each call is of one net less.
use Rattle.steps.proofs.tables.+locate.Given as goal

abbrev pub decreases-locate : goal.decreases-locate
decreases-locate l = l.a
