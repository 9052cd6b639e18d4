use Rattle.std.proofs.Common.{◌≡◌, Bool, true, [], ◌∷◌, ◌++◌, append-nil, sym, ap, ◌∙◌, subst}
use Rattle.clover_plain.specs.Kept.{meaning}
use Rattle.clover_plain.specs.Plain.{Plain, Running, Stands, history}
use Rattle.clover_plain.proofs.pool.PlainPool.enter.Goals as goal

pub invariant_of-self : goal.invariant_of-self
invariant_of-self c =
    let b : c.self.inside.opened ≡ true = ap (λ (p : Plain). p.opened) c.self.view_is ∙ c.requires.opened in
    let r : Running (meaning c.self.inside) = subst (λ (t : Bool). Stands t (meaning c.self.inside)) b c.self.invariant.stands in
    let e : history (meaning c.self.inside) ≡ c.self.inside.entries.items ++ c.args.entry ∷ [] = subst (λ (p : Plain). history p ≡ p.entries ++ c.args.entry ∷ []) (sym c.self.view_is) c.requires.entry in
    let n : c.push.new.self.items ≡ c.self.inside.entries.items ++ c.args.entry ∷ [] = c.in-Ok.ensures.items in
    record {
      stands = subst (λ (t : Bool). Stands t (meaning record { setup = c.self.inside.setup; words = c.self.inside.words; seats = c.self.inside.seats; knowing = c.self.inside.knowing; begun = c.self.inside.begun; beginning = c.self.inside.beginning; entries = c.push.new.self; traced = c.self.inside.traced; trace = c.self.inside.trace; made = c.self.inside.made; opened = c.self.inside.opened; whole = c.self.inside.whole })) (sym b)
          (record { rule = r.rule; entered = ([], e ∙ sym n ∙ sym (append-nil c.push.new.self.items)); story = r.story; untraced = r.untraced; roles = r.roles });
      sized = c.self.invariant.sized;
      seated = c.self.invariant.seated;
      spare = c.self.invariant.spare;
      seats = c.self.invariant.seats;
      one = c.self.invariant.one;
      beginning = c.self.invariant.beginning;
    }
