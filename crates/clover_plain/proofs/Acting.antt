-- How an access that is meant as a step is listed, and where it is made.
use Rattle.std.proofs.Common.{◌≡◌, ℕ, Bool, refl, sym}
use Rattle.clover_words.specs.declared.setup.Setup.{Setup}
use Rattle.clover_rule.specs.Steps.{Step, act_of}
use Rattle.clover_rule.specs.declared.access.Act.{Act}
use Rattle.clover_rule.specs.declared.access.Actor.{Actor}
use Rattle.clover_rule.proofs.Acting.{act_word, act_side}
use Rattle.clover_port.specs.Asked.{act_by}
use Rattle.clover_port.specs.declared.op.Op.{Op}
use Rattle.clover_port.specs.declared.op.Op.TheVariants.{Load as ToLoad, Store as ToStore, Exchange as ToExchange, Raise as ToRaise}
use Rattle.clover_plain.specs.Plain.{access, actor_at, op_word, op_side}

-- the word of an access and the copy that it is on
pub op_place : (op : Op) → (op_word op ≡ act_word (act_by op 0)) × (op_side op ≡ act_side (act_by op 0))
op_place (ToLoad w) = (refl, refl)
op_place (ToStore w side y) = (refl, refl)
op_place (ToExchange w expected new) = (refl, refl)
op_place (ToRaise w y) = (refl, refl)

pub access_as : (a : Step) (act : ℕ → Act) → ((n : ℕ) → act_of a n ≡ act n) → (s : Setup) (who : Actor) (seat x : ℕ) (b : Bool) → who ≡ actor_at s seat → record { actor = who; act = act x; refused = b } ≡ access s seat (act_of a x) b
access_as a act is s who seat x b e = (λ k. record { actor = e k; act = sym (is x) k; refused = b })
