use Rattle.clover_recycle.proofs.Testing.{serves_first, may_find, no_link}
use Rattle.clover_recycle.proofs.tests.a_version_without_a_link_stays_the_root.Goals as goal

pub goes-turn-requires-clause-serves : goal.goes-turn-requires-clause-serves
goes-turn-requires-clause-serves g c = serves_first c.make-task.result c.tag.result c.make-task.ensures.value c.tag.ensures

pub goes-turn-requires-clause-found : goal.goes-turn-requires-clause-found
goes-turn-requires-clause-found g c = may_find c.make-task.result c.tag.result c.make-task.ensures.value c.tag.ensures 0 no_link
