use Rattle.std.proofs.Common.{◌+◌, ◌≡◌, List, refl, sym, ap, ◌∙◌, subst, arith, length, length-append}
use Rattle.std.specs.Prelude.{Option, Some}
use Rattle.clover_words.specs.declared.word.Buffer.{Buffer}
use Rattle.clover_words.specs.Next.{NextParts}
use Rattle.clover_words.specs.Place.{IsBuffer}
use Rattle.clover_words.specs.Tag.{TagParts, tag_number, home}
use Rattle.clover_rule.proofs.Ties.{buffer_in}
use Rattle.clover_restart.specs.Chaining.{IsReadTo}
use Rattle.clover_restart.specs.Reading.{decoded}
use Rattle.clover_restart.proofs.Chains.{here_inside, link_read, one_more, read_all, read_none, read_on}
use Rattle.clover_restart.proofs.chain.read_chain.Goals as goal

pub loop-at-init : goal.loop-at-init
loop-at-init c = read_none c.args.image.now.pool (decoded c.args.image.now) (Some (tag_number c.args.root)) (Some c.args.root) c.clear.new.self.items refl c.clear.ensures.items c.requires.chain

pub next_in-requires-clause-within : goal.next_in-requires-clause-within
next_in-requires-clause-within c =
    let p = c.args.image.now.pool in let im = decoded c.args.image.now in let x = Some (tag_number c.args.root) in let t = c.in-Some.tag in
    let so = subst (λ (at : Option TagParts). IsReadTo p im x c.loop-at.chain.items at) c.in-Some.is c.loop-at.invariant in
    subst (λ (b : Buffer). IsBuffer p b) (sym c.buffer.ensures.value) (buffer_in p (home (tag_number t)) (here_inside p im x c.loop-at.chain.items t so))

pub loop-at-smaller : goal.loop-at-smaller
loop-at-smaller c =
    let p = c.args.image.now.pool in let im = decoded c.args.image.now in let x = Some (tag_number c.args.root) in let t = c.in-Some.tag in
    let so = subst (λ (at : Option TagParts). IsReadTo p im x c.loop-at.chain.items at) c.in-Some.is c.loop-at.invariant in
    let more = one_more p im x c.loop-at.chain.items t so in
    let e : length c.push.new.self.items ≡ length c.loop-at.chain.items + 1 = ap length c.in_ok-push.ensures.items ∙ length-append c.loop-at.chain.items _ in
    omega arith

pub loop-at-preserved : goal.loop-at-preserved
loop-at-preserved c =
    let p = c.args.image.now.pool in let im = decoded c.args.image.now in let x = Some (tag_number c.args.root) in let t = c.in-Some.tag in
    let so = subst (λ (at : Option TagParts). IsReadTo p im x c.loop-at.chain.items at) c.in-Some.is c.loop-at.invariant in
    let next = c.next_in.result in
    let l = link_read im c.buffer.result (tag_number t) next.own next.link c.buffer.ensures.value c.next_in.ensures in
    let on = read_on p im x c.loop-at.chain.items t so next.link l in
    let f = λ (at : Option TagParts). IsReadTo p im x c.push.new.self.items at in
    subst f (sym (ap (λ (n : NextParts). n.link) c.at.view_is)) (subst (λ (ts : List TagParts). IsReadTo p im x ts next.link) (sym c.in_ok-push.ensures.items) on)

pub returns : goal.returns
returns c = read_all c.args.image.now.pool (decoded c.args.image.now) (Some (tag_number c.args.root)) c.loop-at.at c.loop-at.chain.items c.in_default.is c.loop-at.invariant
