use Rattle.std.proofs.Common.{◌≤◌, ℕ, List, length, sym, ◌∙◌, subst}
use Rattle.clover_map.specs.Key.{IsKey}
use Rattle.clover_rule.specs.Content.{Spells}
use Rattle.clover_restart.specs.Reading.{decoded}
use Rattle.clover_restart.proofs.KeyWords.{key_front, key_slice}
use Rattle.clover_restart.proofs.key.key_in.Goals as goal

pub unwrap-requires : goal.unwrap-requires
unwrap-requires c =
    let k = c.requires.key in let s = c.spelled_in-spelled in let f = (decoded c.args.image.now).key c.args.slot in
    let front = key_front c.value_from_words.ensures f k.0 s.result.bytes k.1 k.2 s.result.room.bytes s.result.room.size s.ensures in
    c.of.ensures.when.1 (subst (λ (l : List ℕ). (1 ≤ length l) × (length l ≤ 250)) (sym (key_slice k.0 s.result.bytes front)) (k.1.0, k.1.1))

pub returns-clause-is : goal.returns-clause-is
returns-clause-is c =
    let k = c.requires.key in let s = c.spelled_in-spelled in let f = (decoded c.args.image.now).key c.args.slot in
    let front = key_front c.value_from_words.ensures f k.0 s.result.bytes k.1 k.2 s.result.room.bytes s.result.room.size s.ensures in
    let is = rw c.unwrap.ensures at c.of.ensures.value in
    subst IsKey (sym (is ∙ key_slice k.0 s.result.bytes front)) k.1

pub returns-clause-spells : goal.returns-clause-spells
returns-clause-spells c =
    let k = c.requires.key in let s = c.spelled_in-spelled in let f = (decoded c.args.image.now).key c.args.slot in
    let front = key_front c.value_from_words.ensures f k.0 s.result.bytes k.1 k.2 s.result.room.bytes s.result.room.size s.ensures in
    let is = rw c.unwrap.ensures at c.of.ensures.value in
    subst (Spells f) (sym (is ∙ key_slice k.0 s.result.bytes front)) k.2
