use Rattle.std.proofs.Common.{subst, arith}
use native.Mathlib.Decide.{ℕ_discrete}
use mathlib.Core.Logic.{dite}
use Rattle.std.proofs.Common.{ap, ◌∙◌, sym}
use Rattle.clover_map.specs.Key.{IsKey}
use Rattle.clover_rule.specs.Lists.{nth}
use Rattle.clover_rule.proofs.Tools.{nth_within}
use Rattle.clover_plain.proofs.Keys.{key_there}
use Rattle.clover_plain.proofs.pool.preset.are_keys.Goals as goal

pub loop-key-preserved : goal.loop-key-preserved
loop-key-preserved c = λ i k e h. dite (ℕ_discrete i c.loop-key.key-index)
    (λ d. subst IsKey (key_there c.args.keys.now c.loop-key.key-index c.key-item.result k c.key-item.is (ap (nth c.args.keys.now) (sym d) ∙ e)) c.is_key.ensures)
    (λ n. c.loop-key.invariant i k e (omega arith))

pub returns : goal.returns
returns c = λ i k e. c.loop-key.invariant i k e (let z = nth_within c.args.keys.now i k e in omega arith)
