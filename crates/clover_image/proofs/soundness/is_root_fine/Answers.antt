use Rattle.clover_image.proofs.Shown.{root_broken}
use Rattle.clover_image.proofs.soundness.is_root_fine.Goals as goal

pub returns-in-None : goal.returns-in-None
returns-in-None c = (λ t. absurd (cc), λ h. absurd (root_broken c.args.image.now c.args.slot (λ o is e. let q = c.in-None.ensures.only o c.requires is e in cc) h))
