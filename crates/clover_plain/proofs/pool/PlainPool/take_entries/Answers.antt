use Rattle.std.proofs.Common.{◌≡◌, Bool, true, List, [], ◌++◌, ap, ◌∙◌, sym, subst}
use Rattle.clover_map.specs.declared.call.Entry.{Entry}
use Rattle.clover_plain.specs.Kept.{meaning}
use Rattle.clover_plain.specs.Plain.{Plain, Running, Stands, history}
use Rattle.clover_plain.proofs.pool.PlainPool.take_entries.Goals as goal

pub invariant_of-self : goal.invariant_of-self
invariant_of-self c =
    let b : c.self.inside.opened ≡ true = ap (λ (p : Plain). p.opened) c.self.view_is ∙ c.requires.opened in
    let r : Running (meaning c.self.inside) = subst (λ (t : Bool). Stands t (meaning c.self.inside)) b c.self.invariant.stands in
    let n : c.replace.new.dest.items ≡ [] = (λ k. (c.replace.ensures.after k).items) ∙ c.new-none.ensures.items in
    record {
      stands = subst (λ (t : Bool). Stands t (meaning record { setup = c.self.inside.setup; words = c.self.inside.words; seats = c.self.inside.seats; knowing = c.self.inside.knowing; begun = c.self.inside.begun; beginning = c.self.inside.beginning; entries = c.replace.new.dest; traced = c.self.inside.traced; trace = c.self.inside.trace; made = c.self.inside.made; opened = c.self.inside.opened; whole = c.self.inside.whole })) (sym b)
          (record { rule = r.rule; entered = (history (meaning c.self.inside), ap (λ (es : List Entry). es ++ history (meaning c.self.inside)) (sym n)); story = r.story; untraced = r.untraced; roles = r.roles });
      sized = c.self.invariant.sized;
      seated = c.self.invariant.seated;
      spare = c.self.invariant.spare;
      seats = c.self.invariant.seats;
      one = c.self.invariant.one;
      beginning = c.self.invariant.beginning;
    }
