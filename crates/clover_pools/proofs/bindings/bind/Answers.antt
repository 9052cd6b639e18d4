use Rattle.std.proofs.Common.{◌≡◌, ℕ, List, [], ◌∷◌, ap, ◌∙◌, sym, subst}
use Rattle.clover_rule.specs.declared.view.View.{View}
use Rattle.clover_dir.specs.Directory.{Bindings, nothing_bound}
use Rattle.clover_dir.specs.Holding.{BindHolds}
use Rattle.clover_dir.specs.Task.{UnderWay, made_bind}
use Rattle.clover_plain.specs.Plain.{view_at}
use Rattle.clover_pools.proofs.SmallPool.{begins, third, third_free}
use Rattle.clover_pools.proofs.bindings.bind.Goals as goal

pub loop-init : goal.loop-init
loop-init c =
    let p = c.args.pool.now in
    let made : c.make-task.result ≡ made_bind 0 (97 ∷ []) third = c.make-task.ensures.made ∙ ap (λ (k : List ℕ). made_bind 0 k third) c.in_ok-of.ensures.value in record {
      ready = c.requires.ready;
      small = c.requires.small;
      going = λ e. (let z = ap (λ (u : UnderWay). u.stage) made in cc);
      holds = subst (λ (u : UnderWay). BindHolds p.setup.pool u c.args.directory.now (view_at p 1)) (sym made)
          (subst (λ (d : Bindings). BindHolds p.setup.pool (made_bind 0 (97 ∷ []) third) d (view_at p 1)) (sym c.requires.directory)
          (subst (λ (v : View). BindHolds p.setup.pool (made_bind 0 (97 ∷ []) third) (nothing_bound p.setup.pool) v) (sym c.requires.server) (begins p.setup c.requires.small.numbers [] third_free)));
    }
