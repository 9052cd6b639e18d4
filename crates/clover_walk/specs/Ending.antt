-- How a call ends at a slot's tail: by a load that shows the tail unlinked, or by the exchange that links behind it.
use Rattle.std.specs.Prelude.{ℕ, false, Option}
use Rattle.clover_words.specs.declared.pool.Pool.{Pool}
use Rattle.clover_words.specs.Version.{unlinked}
use Rattle.clover_map.specs.declared.call.Call.{Call}
use Rattle.clover_map.specs.declared.call.Reply.{Reply}
use Rattle.clover_port.specs.Told.{Open, Made}
use Rattle.clover_rule.specs.Accesses.{Decides}
use Rattle.clover_rule.specs.Steps.{DecideNext, LinkNext, reply_of}
use Rattle.clover_rule.specs.declared.view.View.{View}

-- the access was a last load that showed the tag unlinked, and the accesses of the call decide the reply
pub record Ended (p : Pool) (c : Call) (r : Reply) (v : View) (before : Option Open) (w : View) (after : Option Open) : Type 0 where
  pub slot : ℕ
  pub tag : ℕ
  pub made : Made p (DecideNext slot tag c r) false v before (unlinked tag) w after
  pub decides : Decides p made.now.words v.pass.names w.pass.since c r

-- the access was the exchange that linked the own tag behind the tail, and the accesses of the call decide the reply with that tag
pub record Commits (p : Pool) (c : Call) (own : ℕ) (v : View) (before : Option Open) (w : View) (after : Option Open) : Type 0 where
  pub slot : ℕ
  pub tail : ℕ
  pub made : Made p (LinkNext slot tail own c) false v before (unlinked tail) w after
  pub decides : Decides p made.now.words v.pass.names w.pass.since c (reply_of own c)
