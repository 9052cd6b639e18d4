use Rattle.clover_image.proofs.Shown.{next_broken}
use Rattle.clover_image.proofs.soundness.is_next_fine.Goals as goal

pub returns-in-None : goal.returns-in-None
returns-in-None c = (λ t. absurd (cc), λ h. absurd (next_broken c.args.image.now c.args.buffer (λ n is e. let q = c.in-None.ensures.only n c.requires is e in cc) h))
