use Rattle.std.proofs.Common.{◌<◌, ◌/◌, ◌%◌, ℕ, List, [], length, get_or, sym, ap, ◌∙◌, arith}
use Rattle.std.proofs.lemmas.List.{get_or_read}
use Rattle.clover_plain.proofs.Blanks.{at_place, below_size}
use Rattle.clover_plain.proofs.blank.Blank.get.Goals as goal

pub index-requires : goal.index-requires
index-requires c = let below = below_size c.self.inside.banks.items c.self.inside.size c.args.at c.args.self.now c.self.view_is c.requires in omega (arith, below, c.self.invariant, c.self.inside.banks.ok.0)

pub returns : goal.returns
returns c =
    let below = below_size c.self.inside.banks.items c.self.inside.size c.args.at c.args.self.now c.self.view_is c.requires in
    let there : c.args.at / 32768 < length c.self.inside.banks.items = omega (arith, below, c.self.invariant) in
    c.get.ensures ∙ ap (λ (b : List ℕ). get_or b (c.args.at % 32768) 0) (get_or_read c.self.inside.banks.items (c.args.at / 32768) c.index.result.now there c.index.ensures []) ∙ sym (at_place c.self.inside.banks.items c.self.inside.size c.args.at below) ∙ ap (λ (l : List ℕ). get_or l c.args.at 0) c.self.view_is
