use Rattle.std.proofs.Common.{◌<◌, ℕ, List}
use Rattle.clover_rule.specs.Cut.{IsSound}
use Rattle.clover_image.specs.declared.damage.Damage.{Damage}
use Rattle.clover_image.specs.Damage.{Breaks, ChainDamage}
use Rattle.clover_image.specs.Damage.Breaks.{chain}
use Rattle.clover_image.specs.Image.{PoolImage}
use Rattle.clover_image.specs.Walking.{AreWalked}
use Rattle.clover_image.proofs.Answered.{damage_on, fault_along, ok_along}
use Rattle.clover_image.proofs.Verdict.{is_sound, no_chain, no_next, no_root}
use Rattle.clover_image.proofs.soundness.sound.Goals as goal

-- some chain is damaged
abbrev Chained : PoolImage → Damage → Type 0
Chained m d = (slot : ℕ) × (slot < m.pool.slots) × ChainDamage m slot d

pub returns-in_err-next_words-clause-fault : goal.returns-in_err-next_words-clause-fault
returns-in_err-next_words-clause-fault c =
    let m = c.args.image.now in let d = c.in_err-next_words.field-0.0 in
    damage_on c.from_residual.result d (λ _. IsSound m.pool m.words → ⊥) c.from_residual.ensures.1
    (λ sound. no_next m sound d c.in_err-next_words.ensures.err)

pub returns-in_err-roots-clause-fault : goal.returns-in_err-roots-clause-fault
returns-in_err-roots-clause-fault c =
    let m = c.args.image.now in let d = c.in_err-roots.field-0.0 in
    damage_on c.from_residual-in_err-roots.result d (λ _. IsSound m.pool m.words → ⊥) c.from_residual-in_err-roots.ensures.1
    (λ sound. no_root m sound d c.in_err-roots.ensures.err)

pub returns-clause-sound : goal.returns-clause-sound
returns-clause-sound c =
    let m = c.args.image.now in
    ok_along c.chains.result (λ _. (tags : ℕ → List ℕ) × AreWalked m m.pool.slots tags) (λ _. IsSound m.pool m.words) c.chains.ensures.ok
    (λ _ w. is_sound m c.in_ok-next_words.ensures.ok c.in_ok-roots.ensures.ok c.in_ok-keys.ensures.ok w.0 w.1)

pub returns-clause-fault : goal.returns-clause-fault
returns-clause-fault c =
    let m = c.args.image.now in
    fault_along c.chains.result (Chained m) (λ _. IsSound m.pool m.words → ⊥) c.chains.ensures.err (λ d w sound. no_chain m sound w.0 d w.2)

pub returns-clause-first : goal.returns-clause-first
returns-clause-first c =
    let m = c.args.image.now in
    fault_along c.chains.result (Chained m) (Breaks m) c.chains.ensures.err
    (λ d w. chain c.in_ok-next_words.ensures.ok c.in_ok-roots.ensures.ok c.in_ok-keys.ensures.ok w.0 w.1 w.2)
