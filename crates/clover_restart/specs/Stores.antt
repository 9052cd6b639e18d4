-- A store of the code as the rule names it.
use Rattle.clover_words.specs.Tag.{tag_number, home, age}
use Rattle.clover_words.specs.declared.word.Side.TheVariants.{Current, Flushed}
use Rattle.clover_rule.specs.declared.view.RestartStore.{RestartStore}
use Rattle.clover_rule.specs.declared.view.RestartStore.TheVariants.{ClearRoot, ClearFlushedRoot, Lift as LiftNext, LiftFlushed, SetCount}
use Rattle.clover_restart.specs.declared.store.Store.{Store}
use Rattle.clover_restart.specs.declared.store.Store.TheVariants.{Clear, Lift, Count}

-- a lifted buffer goes on to the generation of the tag
abbrev pub store_of : Store → RestartStore
store_of (Clear s Current) = ClearRoot s
store_of (Clear s Flushed) = ClearFlushedRoot s
store_of (Lift t Current) = LiftNext (home (tag_number t)) (age (tag_number t))
store_of (Lift t Flushed) = LiftFlushed (home (tag_number t)) (age (tag_number t))
store_of (Count n) = SetCount n
