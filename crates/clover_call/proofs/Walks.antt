-- What stays of a walk over an access, in a call of either kind: its pool and its slot.
use Rattle.std.proofs.Common.{◌≡◌, ℕ, Bool, true, false, cond, eqb, refl}
use Rattle.std.specs.Prelude.{Option, Some, None}
use Rattle.clover_words.specs.Tag.{age}
use Rattle.clover_rule.specs.Memory.{Next, word}
use Rattle.clover_rule.specs.Words.{next_of, root_of}
use Rattle.clover_walk.specs.Walking.{Walking, Stand, AtShort, AtRoot, AtTag, AtLink, OnTail, Ended, goes_from, followed, hops, turned, shortened, rooted, next_start, begins}

-- the walk keeps its pool and slot, and has made an access where it had made one or had not ended
pub record OnWalk (at : Stand) (w n : Walking) : Type 0 where
  pub pool : n.pool ≡ w.pool
  pub slot : n.slot ≡ w.slot
  pub first : (at ≡ Ended → w.first ≡ false) → n.first ≡ false

hops_keep : (at : Stand) (w : Walking) (t : ℕ) (l : Option ℕ) → OnWalk at w (hops w t l)
hops_keep at w t None = record { pool = refl; slot = refl; first = λ e. refl }
hops_keep at w t (Some u) = record { pool = refl; slot = refl; first = λ e. refl }

followed_keep : (at : Stand) (w : Walking) (t : ℕ) (n : Next) → OnWalk at w (followed w t n)
followed_keep at w t (word a l) = go (eqb a (age t))
  where
    go : (b : Bool) → OnWalk at w (cond b (hops w t l) (turned w (next_start w.start) (begins (next_start w.start))))
    go true = hops_keep at w t l
    go false = record { pool = refl; slot = refl; first = λ e. refl }

shortened_keep : (at : Stand) (w : Walking) (o : Option ℕ) → OnWalk at w (shortened w o)
shortened_keep at w None = record { pool = refl; slot = refl; first = λ e. refl }
shortened_keep at w (Some t) = record { pool = refl; slot = refl; first = λ e. refl }

rooted_keep : (at : Stand) (w : Walking) (o : Option ℕ) → OnWalk at w (rooted w o)
rooted_keep at w None = record { pool = refl; slot = refl; first = λ e. refl }
rooted_keep at w (Some t) = record { pool = refl; slot = refl; first = λ e. refl }

pub on_walk : (at : Stand) (w : Walking) (x : ℕ) → OnWalk at w (goes_from at w x)
on_walk AtShort w x = shortened_keep AtShort w (root_of x)
on_walk AtRoot w x = rooted_keep AtRoot w (root_of x)
on_walk (AtTag t) w x = followed_keep (AtTag t) w t (next_of x)
on_walk (AtLink t u) w x = record { pool = refl; slot = refl; first = λ e. refl }
on_walk (OnTail t) w x = followed_keep (OnTail t) w t (next_of x)
on_walk Ended w x = record { pool = refl; slot = refl; first = λ e. e refl }
