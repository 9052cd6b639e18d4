use Rattle.clover_plain.proofs.seats.wake.Goals as goal

pub load_new_seat-seat-requires : goal.load_new_seat-seat-requires
load_new_seat-seat-requires g c = (c.requires.one, λ s u len below. (c.requires.there.0, tt, c.requires.there.1))
