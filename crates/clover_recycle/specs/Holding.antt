-- What the server's view holds where a recycling stands.
use Rattle.std.specs.Prelude.{◌≡◌, ◌<◌, Some}
use Rattle.clover_words.specs.declared.pool.Pool.{Pool}
use Rattle.clover_words.specs.Tag.{tag_number}
use Rattle.clover_rule.specs.Asks.{IsAt}
use Rattle.clover_rule.specs.Content.{InRange}
use Rattle.clover_rule.specs.Views.{root_at}
use Rattle.clover_rule.specs.declared.view.View.{View}
use Rattle.clover_recycle.specs.Recycling.{RecycleState, unfinished}
use Rattle.clover_recycle.specs.declared.stage.Stage.{Stage}
use Rattle.clover_recycle.specs.declared.stage.Stage.TheVariants.{AtVersion, Over}

-- before its first access its root is the slot's root version; from then on the slot is one of the pool; where it is over it stands on nothing
abbrev pub StandsOn : Pool → RecycleState → View → Type 0
StandsOn p c v = from c.stage
  where
    from : Stage → Type 0
    from AtVersion = root_at v.server c.slot ≡ Some (tag_number c.root)
    from Over = ⊥
    from _ = c.slot < p.slots

-- the view is the server's, and what it has unfinished is this recycling, or nothing before its first access; its root is a tag of the pool
pub record RecycleHolds (p : Pool) (c : RecycleState) (v : View) : Type 0 where
  pub task : IsAt v (unfinished c)
  pub root : InRange p (tag_number c.root)
  pub stands : StandsOn p c v
