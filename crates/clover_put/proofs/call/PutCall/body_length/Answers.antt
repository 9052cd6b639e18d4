use Rattle.std.proofs.Common.{◌≡◌, sym, ap, ◌∙◌, ◌⊎◌, subst, length}
use Rattle.clover_words.specs.Tag.{TagParts}
use Rattle.clover_put.specs.Putting.{Putting}
use Rattle.clover_put.specs.declared.job.Job.{Job}
use Rattle.clover_put.specs.declared.job.Job.TheVariants.{Put, Swap}
use Rattle.clover_put.proofs.Body.{count_dead, count_value}
use Rattle.clover_put.proofs.call.PutCall.body_length.Goals as goal

pub returns-in-Delete : goal.returns-in-Delete
returns-in-Delete c = count_dead c.args.self.now.job c.args.self.now.value (ap (λ (z : Putting). z.job) (sym c.self.view_is) ∙ c.in-Delete.is)

pub returns-in-Put : goal.returns-in-Put
returns-in-Put c =
    let e : c.self.inside.job ≡ c.args.self.now.job = ap (λ (z : Putting). z.job) c.self.view_is in
    count_value c.args.self.now.job c.args.self.now.value (length c.value.result.now) (subst (λ (j : Job). (j ≡ Put) ⊎ ((t : TagParts) × (j ≡ Swap t))) e c.in-Put.is) (ap length c.value.ensures ∙ ap (λ (z : Putting). length z.value.bytes) c.self.view_is)
