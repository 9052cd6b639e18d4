-- A chain of an image, whole and while it is read.
use Rattle.std.specs.Prelude.{◌++◌, ℕ, List, Option, map}
use Rattle.std.specs.Option.{option_map}
use Rattle.clover_words.specs.declared.pool.Pool.{Pool}
use Rattle.clover_words.specs.Tag.{TagParts, tag_number}
use Rattle.clover_rule.specs.Content.{InRange}
use Rattle.clover_rule.specs.Image.{Image, Chain}
use Rattle.clover_rule.specs.Lists.{Each}

-- from this root or link on there is a chain of tags of the pool
pub record HasChain (p : Pool) (im : Image) (x : Option ℕ) : Type 0 where
  pub tags : List ℕ
  pub chain : Chain im x tags
  pub range : Each (InRange p) tags

-- these tags of the chain were read, and from here on there are others
pub record IsReadTo (p : Pool) (im : Image) (x : Option ℕ) (seen : List TagParts) (at : Option TagParts) : Type 0 where
  pub others : List ℕ
  pub chain : Chain im x (map tag_number seen ++ others)
  pub range : Each (InRange p) (map tag_number seen ++ others)
  pub here : Chain im (option_map tag_number at) others
