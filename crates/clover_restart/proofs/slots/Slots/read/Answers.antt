use Rattle.std.proofs.Common.{sym, subst}
use Rattle.clover_restart.specs.Chaining.{HasChain}
use Rattle.clover_restart.specs.Reading.{decoded}
use Rattle.clover_restart.proofs.ChainMarks.{slot_chain}
use Rattle.clover_restart.proofs.Slotwise.{read_bare}
use Rattle.clover_restart.proofs.slots.Slots.read.Goals as goal

pub read_chain-requires-clause-chain : goal.read_chain-requires-clause-chain
read_chain-requires-clause-chain c =
    let p = c.args.image.now.pool in let im = decoded c.args.image.now in
    subst (HasChain p im) (sym c.in-Some.ensures) (slot_chain p im c.requires.sound.reads c.args.slot)

pub returns-in-None : goal.returns-in-None
returns-in-None c = λ s. read_bare c.args.image.now.pool (decoded c.args.image.now) s c.args.slot c.args.self.now (sym c.in-None.ensures) (c.requires.read s)
