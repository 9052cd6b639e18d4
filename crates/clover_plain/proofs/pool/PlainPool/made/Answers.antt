use Rattle.std.proofs.Common.{ℕ, sym, ap, subst}
use Rattle.clover_plain.specs.Plain.{Plain, Leads}
use Rattle.clover_plain.proofs.Standing.{story}
use Rattle.clover_plain.proofs.pool.PlainPool.made.Goals as goal

pub returns-clause-counted : goal.returns-clause-counted
returns-clause-counted c =
    let s = story c.self.inside c.args.self.now c.self.invariant c.self.view_is in
    (s.0, s.1, subst (λ (n : ℕ). Leads c.args.self.now.setup.pool c.args.self.now.start c.args.self.now.words n s.0 s.1) (sym (ap (λ (p : Plain). p.made) c.self.view_is)) s.2)
