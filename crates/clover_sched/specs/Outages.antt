-- Losses of power: the image that each one left, and the stores of its restart.
use Rattle.std.specs.Prelude.{◌≡◌, ℕ, ◌+◌, List, [], ◌∷◌, ◌++◌, length, map, take, false, Option, Some, None}
use Rattle.clover_words.specs.declared.pool.Pool.{Pool}
use Rattle.clover_map.specs.Tagged.{Tagged}
use Rattle.clover_script.specs.declared.choice.Choice.{Choice}
use Rattle.clover_image.specs.Choosing.{chosen}
use Rattle.clover_rule.specs.Cut.{IsSound, StandsFor, image_of}
use Rattle.clover_rule.specs.Restart.{plan, rested_words, words_after_stores}
use Rattle.clover_rule.specs.Steps.{Restart, act_of}
use Rattle.clover_rule.specs.declared.access.Access.{Access}
use Rattle.clover_rule.specs.declared.access.Actor.TheVariants.{Restart as RestartActor}
use Rattle.clover_rule.specs.declared.view.RestartStore.{RestartStore}

-- the image that a loss of power left, and the stores that its restart made
pub record Outage : Type 0 where
  pub image : List ℕ
  pub stores : List RestartStore

-- the words behind these stores
abbrev pub left_by : Pool → Outage → List ℕ
left_by p x = words_after_stores p (rested_words p x.image) x.stores

-- so many stores, or all where there are fewer or no number is given
abbrev pub up_to : Option ℕ → List RestartStore → List RestartStore
up_to None xs = xs
up_to (Some k) xs = take k xs

-- The power failed over these words: the image is the one that the choice takes, it is sound and stands for this map, and its restart made so many stores, or all.
pub record IsOutage (p : Pool) (ws : List ℕ) (choice : Choice) (k : Option ℕ) (left : Tagged) (x : Outage) : Type 0 where
  pub image : x.image ≡ chosen p choice ws
  pub sound : IsSound p x.image
  pub stands : StandsFor p (image_of p x.image) sound.reads left
  pub stores : x.stores ≡ up_to k (plan p (image_of p x.image) sound.reads)

-- a cut's line: each further loss of power comes behind so many stores of the restart before it, and the last restart runs to its end; all images stand for one map
abbrev pub AreOutages : Pool → List ℕ → Choice → List (ℕ × Choice) → Tagged → List Outage → Type 0
AreOutages p ws choice more left [] = ⊥
AreOutages p ws choice [] left (x ∷ []) = IsOutage p ws choice None left x
AreOutages p ws choice [] left (x ∷ y ∷ xs) = ⊥
AreOutages p ws choice (c ∷ more) left (x ∷ xs) = IsOutage p ws choice (Some c.0) left x × AreOutages p (left_by p x) c.1 more left xs

-- the words that the last of them left
abbrev pub last_words : Pool → List Outage → List ℕ
last_words p [] = []
last_words p (x ∷ []) = left_by p x
last_words p (x ∷ y ∷ xs) = last_words p (y ∷ xs)

-- how many stores their restarts made
abbrev pub stored_in : List Outage → ℕ
stored_in [] = 0
stored_in (x ∷ xs) = length x.stores + stored_in xs

-- the access that makes a store of a restart
abbrev pub store_access : RestartStore → Access
store_access x = record { actor = RestartActor; act = act_of (Restart x) 0; refused = false }

-- the accesses of their restarts, in order
abbrev pub stores_in : List Outage → List Access
stores_in [] = []
stores_in (x ∷ xs) = map store_access x.stores ++ stores_in xs
