use Rattle.std.proofs.Common.{◌≡◌, sym, ap, ◌∙◌, subst}
use Rattle.std.specs.Prelude.{Some}
use Rattle.clover_words.specs.Tag.{TagParts, IsTag, tag_number, home}
use Rattle.clover_words.specs.Next.{NextParts}
use Rattle.clover_words.specs.Version.{buffer_at}
use Rattle.clover_rule.proofs.Codecs.{shown_next}
use Rattle.clover_walk.specs.Standing.{number_of}
use Rattle.clover_walk.specs.Walking.{Walking, Stand, hops, turned, next_start, begins}
use Rattle.clover_walk.specs.declared.start.Start.{Start}
use Rattle.clover_walk.proofs.Codes.{follow_own, follow_stale}
use Rattle.clover_walk.proofs.walk.Walk.follow.Goals as goal

pub unreachable-requires : goal.unreachable-requires
unreachable-requires c =
    let n = shown_next c.args.self.now.pool (buffer_at (home (tag_number c.args.tag))) c.args.word c.requires.number in
    let e : c.decode.result ≡ Some n.0 = c.decode.ensures.only n.0 n.1 n.2 in let q = c.in-None.is in absurd cc

pub returns-in-Some-clause-value : goal.returns-in-Some-clause-value
returns-in-Some-clause-value c =
    let seen = c.next.view_is in let tag = c.tag.view_is in
    c.advance.ensures.value
    ∙ ap (λ (n : NextParts). hops c.args.self.now (tag_number c.args.tag) (number_of n.link)) seen
    ∙ sym (follow_own c.args.self.now c.args.tag c.in-Some.next c.args.word (subst IsTag tag c.tag.invariant) c.in-Some.ensures.found.0 c.in-Some.ensures.found.1
    (ap (λ (n : NextParts). n.own) (sym seen) ∙ c.if-next-tag.true ∙ ap (λ (t : TagParts). t.generation) tag))

pub returns-in-Some-2-clause-value : goal.returns-in-Some-2-clause-value
returns-in-Some-2-clause-value c =
    let w = c.args.self.now in let seen = c.next.view_is in let tag = c.tag.view_is in
    let f : c.next-start.result ≡ next_start w.start = c.next-start.ensures ∙ ap (λ (z : Walking). next_start z.start) c.self.view_is in
    c.turn.ensures.value
    ∙ ap (λ (at : Stand). turned w c.next-start.result at) c.stand.ensures
    ∙ ap (λ (z : Start). turned w z (begins z)) f
    ∙ sym (follow_stale w c.args.tag c.in-Some.next c.args.word (subst IsTag tag c.tag.invariant) c.in-Some.ensures.found.0 c.in-Some.ensures.found.1
    (λ q. c.if-next-tag.false (ap (λ (n : NextParts). n.own) seen ∙ q ∙ ap (λ (t : TagParts). t.generation) (sym tag))))
