use Rattle.std.proofs.Common.{refl, subst, sym}
use Rattle.clover_words.specs.declared.bytes.ValueBuf.{ValueBuf}
use Rattle.clover_node.specs.declared.answer.NodeRefusal.{NodeRefusal}
use Rattle.clover_node.specs.declared.answer.NodeRefusal.TheVariants.{Unreached, Behind, Linked, TooLong, NeedsStock, NeedsNames}
use Rattle.clover_node.specs.declared.answer.NodeTurn.{NodeTurn}
use Rattle.clover_node.specs.declared.answer.NodeTurn.TheVariants.{Refused}
use Rattle.clover_run.specs.Stepping.{IsCame, IsValue, refused_as}
use Rattle.clover_run.specs.declared.client.came.Came.{Came}
use Rattle.clover_run.proofs.client.came.came_of.Goals as goal

pub reply_of-requires : goal.reply_of-requires
reply_of-requires c = let v = c.requires.values in record { value = (v.0, subst (λ (r : NodeTurn). IsValue r c.args.entered v.0) c.in-Decided.is v.1) }

pub reply_of-requires-in-Done : goal.reply_of-requires-in-Done
reply_of-requires-in-Done c = let v = c.requires.values in record { value = (v.0, subst (λ (r : NodeTurn). IsValue r c.args.entered v.0) c.in-Done.is v.1) }

pub reply_of-requires-in-Done-2 : goal.reply_of-requires-in-Done-2
reply_of-requires-in-Done-2 c = let v = c.requires.values in record { value = (v.0, subst (λ (r : NodeTurn). IsValue r c.args.noted v.0) c.in-Done.is v.2) }

came_as : (z : NodeRefusal) (room : ValueBuf) → IsCame (Refused z) room (refused_as z)
came_as Unreached room = (Unreached, refl, refl)
came_as (Behind n) room = (Behind n, refl, refl)
came_as (Linked t) room = (Linked t, refl, refl)
came_as (TooLong l m) room = (TooLong l m, refl, refl)
came_as NeedsStock room = (NeedsStock, refl, refl)
came_as (NeedsNames k b) room = (NeedsNames k b, refl, refl)

pub returns-in-Refused : goal.returns-in-Refused
returns-in-Refused c = λ room entered noted.
    subst (λ (r : NodeTurn). IsCame r room c.why.result) (sym c.in-Refused.is) (subst (λ (k : Came). IsCame (Refused c.in-Refused.refusal) room k) (sym c.why.ensures) (came_as c.in-Refused.refusal room))
