use Rattle.std.proofs.Common.{ℕ, List, ◌<◌, sym}
use Rattle.clover_words.specs.Pack.{packed}
use Rattle.clover_map.specs.Key.{IsKey}
use Rattle.clover_rule.specs.Content.{Spells}
use Rattle.clover_image.specs.Reading.{HasKey, decoded}
use Rattle.clover_image.proofs.KeyBytes.{none_along, some_along, spells_along}
use Rattle.clover_image.proofs.content.key_of.Goals as goal

pub returns-clause-some : goal.returns-clause-some
returns-clause-some c =
    let m = c.args.image.now in let s = c.args.slot in let bytes = c.in_ok-key_words.field-0.bytes in let said = c.in_ok-key_words.ensures.some in
    some_along c.spelled_key.result (λ (k : List ℕ). IsKey k × Spells (packed bytes) k) (λ (k : List ℕ). (s < m.pool.slots) × IsKey k × Spells ((decoded m).key s) k)
    c.spelled_key.ensures.some
    (λ k h. (said.0, h.0, spells_along (packed bytes) ((decoded m).key s) k h.0 said.1 h.1))

pub returns-clause-none : goal.returns-clause-none
returns-clause-none c =
    let m = c.args.image.now in let s = c.args.slot in let bytes = c.in_ok-key_words.field-0.bytes in let said = c.in_ok-key_words.ensures.some in
    none_along c.spelled_key.result ((k : List ℕ) → IsKey k → Spells (packed bytes) k → ⊥) (s < m.pool.slots → HasKey (decoded m) s → ⊥)
    c.spelled_key.ensures.none
    (λ h lt has. h has.0 has.1 (spells_along ((decoded m).key s) (packed bytes) has.0 has.1 (λ j l. sym (said.1 j l)) has.2))
