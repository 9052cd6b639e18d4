use Rattle.std.proofs.Common.{◌<◌, ◌/◌, ℕ, List, [], length, get_or, set, ap, ◌∙◌, arith}
use Rattle.std.proofs.lemmas.List.{get_or_read}
use Rattle.clover_plain.proofs.Blanks.{written, below_size}
use Rattle.clover_plain.proofs.blank.Blank.set.Goals as goal

pub index_mut-requires : goal.index_mut-requires
index_mut-requires c = let below = below_size c.self.inside.banks.items c.self.inside.size c.args.at c.args.self.now c.self.view_is c.requires in omega (arith, below, c.self.invariant, c.self.inside.banks.ok.0)

pub returns : goal.returns
returns c =
    let below = below_size c.self.inside.banks.items c.self.inside.size c.args.at c.args.self.now c.self.view_is c.requires in
    let there : c.args.at / 32768 < length c.self.inside.banks.items = omega (arith, below, c.self.invariant) in
    let old = get_or_read c.self.inside.banks.items (c.args.at / 32768) c.index_mut.result.now there c.index_mut.ensures.value [] in
    written c.self.inside.banks.items c.self.inside.size c.args.at c.args.number c.set.new.self below there c.set.ensures.set (λ i other. c.set.ensures.others i other ∙ ap (λ (b : List ℕ). get_or b i 0) old) ∙ ap (λ (l : List ℕ). set l c.args.at c.args.number) c.self.view_is
