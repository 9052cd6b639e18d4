use Rattle.std.proofs.Common.{◌<◌, ◌-◌, ap, ◌∙◌, arith}
use Rattle.clover_words.specs.declared.word.Buffer.{Buffer}
use Rattle.clover_words.specs.declared.word.Word.TheVariants.{Value as ValueOf}
use Rattle.clover_words.specs.Tag.{tag_number, home}
use Rattle.clover_words.proofs.Versions.{value_is}
use Rattle.clover_words.proofs.tag.Tag.content_word.Goals as goal

pub returns-else-place-eq0 : goal.returns-else-place-eq0
returns-else-place-eq0 c =
    let d = c.if-place-eq0.false in let less : 0 < c.args.place = omega arith in
    record { value = ap (λ (b : Buffer). ValueOf b (c.args.place - 1)) c.buffer-else-place-eq0.ensures.value ∙ value_is (home (tag_number c.args.self)) c.args.place less }
