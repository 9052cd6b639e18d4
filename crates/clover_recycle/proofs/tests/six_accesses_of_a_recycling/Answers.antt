use Rattle.clover_recycle.proofs.Testing.{serves_first, may_find, a_link}
use Rattle.clover_recycle.proofs.tests.six_accesses_of_a_recycling.Goals as goal

pub goes-load-requires-clause-serves : goal.goes-load-requires-clause-serves
goes-load-requires-clause-serves g c = serves_first c.make-task.result c.tag.result c.make-task.ensures.value c.tag.ensures

pub goes-load-requires-clause-found : goal.goes-load-requires-clause-found
goes-load-requires-clause-found g c = may_find c.make-task.result c.tag.result c.make-task.ensures.value c.tag.ensures 4398046511104 a_link
