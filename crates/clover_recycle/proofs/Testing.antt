-- For the tests: the tag of buffer 2 of node 0 at generation 0, of which a recycling begins, and two numbers of next words.
use Rattle.std.proofs.Common.{◌≡◌, ℕ, ◌<◌, refl, ◌∙◌, ap, sym, subst, arith}
use Rattle.std.specs.Prelude.{Some, None}
use Rattle.clover_words.specs.Tag.{TagParts, tag_number, age}
use Rattle.clover_recycle.specs.Recycling.{RecycleState, made_task, MayFind, IsNextWord}

low : age 2097152 < 1048575
unfolding age
low = omega arith

module _ (c : RecycleState) (t : TagParts) (made : c ≡ made_task 3 t) (tag : t ≡ record { node = 0; index = 2; generation = 0 }) where
  is : c ≡ made_task 3 (record { node = 0; index = 2; generation = 0 })
  is = made ∙ ap (made_task 3) tag

  pub serves_first : age (tag_number c.root) < 1048575
  serves_first = subst (λ (z : RecycleState). age (tag_number z.root) < 1048575) (sym is) low

  pub may_find : (x : ℕ) → IsNextWord x → MayFind c x
  may_find x n = subst (λ (z : RecycleState). MayFind z x) (sym is) n

pub no_link : IsNextWord 0
no_link = (record { own = 0; link = None }, record { own = omega arith; link = tt }, refl)

pub a_link : IsNextWord 4398046511104
a_link = (record { own = 0; link = Some (record { node = 0; index = 0; generation = 0 }) }, record { own = omega arith; link = record { node = omega arith; index = omega arith; generation = omega arith } }, refl)
