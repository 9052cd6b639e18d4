use Rattle.clover_main.proofs.ImageLines.{there_is}
use Rattle.clover_main.proofs.image_text.word_there.Goals as goal

pub returns : goal.returns
returns c =
    let found = c.in-Some.ensures.found in
    there_is c.args.pool.now c.args.address c.requires c.in-Some.word c.in-Some.field-0-1 found.0 found.2
