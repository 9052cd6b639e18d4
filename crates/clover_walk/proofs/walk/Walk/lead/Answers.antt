use Rattle.std.proofs.Common.{◌≡◌, refl, sym, subst}
use Rattle.std.specs.Prelude.{Some, Option}
use Rattle.std.specs.Option.{IsSome}
use Rattle.clover_words.specs.Tag.{TagParts}
use Rattle.clover_walk.proofs.Codes.{root_tag}
use Rattle.clover_walk.proofs.walk.Walk.lead.Goals as goal

pub unwrap-requires : goal.unwrap-requires
unwrap-requires c =
    let u = root_tag c.args.self.now.pool c.args.self.now.slot c.args.word c.requires.bound.0 c.requires.number c.requires.bound.1 in
    let e : c.root_decode.result ≡ Some (Some u.0) = c.root_decode.ensures.only (Some u.0) u.1 u.2 in
    subst (λ (o : Option (Option TagParts)). IsSome o) (sym e) refl
