use Rattle.std.proofs.Common.{ap}
use Rattle.clover_words.specs.declared.word.Word.{Word}
use Rattle.clover_image.specs.Text.{word_line}
use Rattle.clover_main.proofs.Printing.{same_said, same_fails}
use Rattle.clover_main.proofs.image_text.put_number.Goals as goal

pub returns-clause-ok : goal.returns-clause-ok
returns-clause-ok g c =
    same_said c.put_line.result _ _ _ _ _ _ (ap (λ (w : Word). word_line w c.args.number) c.word_there.ensures) c.put_line.ensures.ok

pub returns-clause-err : goal.returns-clause-err
returns-clause-err g c =
    same_fails c.put_line.result _ _ _ _ _ (ap (λ (w : Word). word_line w c.args.number) c.word_there.ensures) c.put_line.ensures.err
