use Rattle.std.proofs.Common.{[], refl}
use Rattle.atomic_table.specs.Table.{keeps}
use Rattle.clover_plain.proofs.seats.begin.Goals as goal

pub load-requires : goal.load-requires
load-requires g c = (c.requires.fits.0, c.requires.fits.1, λ s u len at below. (record { words = g.J.WordsName.words; views = [] }, keeps, tt, tt, (refl, refl)))
