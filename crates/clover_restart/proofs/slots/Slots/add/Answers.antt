use Rattle.std.proofs.Common.{◌≡◌, ℕ, ◌-◌, ◌*◌, ◌<◌, List, length, get_or, cond, eqb, refl, sym, ap, ◌∙◌, subst, arith}
use Rattle.std.specs.Prelude.{map}
use Rattle.std.specs.Vec.{with_items}
use Rattle.std.proofs.lemmas.List.{with_items_is}
use Rattle.clover_words.specs.declared.pool.Pool.{Pool}
use Rattle.clover_words.specs.Tag.{tag_number, home}
use Rattle.clover_words.specs.declared.word.Side.TheVariants.{Current, Flushed}
use Rattle.clover_rule.specs.Content.{InRange}
use Rattle.clover_rule.specs.Lists.{Each}
use Rattle.clover_rule.specs.Restart.{stands_on}
use Rattle.clover_alloc.specs.declared.line.Place.{Place}
use Rattle.clover_alloc.specs.declared.line.Place.TheVariants.{Free, Bound, Out}
use Rattle.clover_restart.specs.Reading.{decoded, number_at}
use Rattle.clover_restart.specs.declared.store.Store.TheVariants.{Clear}
use Rattle.clover_image.proofs.Chains.{slot_range}
use Rattle.clover_restart.proofs.Lifts.{two_more}
use Rattle.clover_restart.proofs.Marking.{item_inside}
use Rattle.clover_restart.proofs.Slotwise.{chain_is, dead_by, not_bound, not_false, not_named, not_true, read_dead, read_kept, some_tag}
use Rattle.clover_restart.proofs.slots.Slots.add.Goals as goal

pub is_value-requires : goal.is_value-requires
is_value-requires c =
    let p = c.args.image.now.pool in let im = decoded c.args.image.now in let s = c.requires.sound.reads in let n = c.args.slot in let t = c.args.root in let ts = c.args.chain.now in
    let range = subst (Each (InRange p)) (chain_is p im s n t ts c.requires.root c.requires.chain) (slot_range p im s n) in
    let some = some_tag p im s n t ts c.requires.root c.requires.chain in
    record { within = item_inside p ts (length ts - 1) c.index-chain-chain.result range (omega arith) c.index-chain-chain.is }

pub mark-requires-clause-sized : goal.mark-requires-clause-sized
mark-requires-clause-sized c = ap (λ (ms : List _). length ms) c.deref_mut.ensures.value ∙ (c.requires.read c.requires.sound.reads).sized ∙ sym (ap (λ (q : Pool). q.nodes * q.buffers) c.pool.ensures)

pub mark-requires-clause-chain : goal.mark-requires-clause-chain
mark-requires-clause-chain c =
    let p = c.args.image.now.pool in let im = decoded c.args.image.now in let s = c.requires.sound.reads in let n = c.args.slot in let t = c.args.root in let ts = c.args.chain.now in
    subst (λ (q : Pool). Each (InRange q) (map tag_number ts)) (sym c.pool.ensures) (subst (Each (InRange p)) (chain_is p im s n t ts c.requires.root c.requires.chain) (slot_range p im s n))

pub enter-requires-clause-slot : goal.enter-requires-clause-slot
enter-requires-clause-slot c = subst (λ (q : Pool). c.args.slot < q.slots) (sym (c.requires.read c.requires.sound.reads).pool) c.requires.slot

pub enter-requires-clause-unbound : goal.enter-requires-clause-unbound
enter-requires-clause-unbound c = not_bound c.args.image.now.pool (decoded c.args.image.now) c.requires.sound.reads c.args.slot c.args.self.now.directory (c.requires.read c.requires.sound.reads).list

pub enter-requires-clause-new : goal.enter-requires-clause-new
enter-requires-clause-new c = not_named c.args.image.now.pool (decoded c.args.image.now) c.requires.sound.reads c.args.slot (tag_number c.args.root) c.key_in.result c.args.self.now.directory.list (c.requires.read c.requires.sound.reads).list c.requires.root c.key_in.ensures.spells

pub returns-in_ok-push-2 : goal.returns-in_ok-push-2
returns-in_ok-push-2 c =
    let p = c.args.image.now.pool in let im = decoded c.args.image.now in let n = c.args.slot in let t = c.args.root in let ts = c.args.chain.now in
    let more = two_more c.args.self.now.stores.items c.push.new.self.items c.push-else-is_value.new.self.items (Clear n Current) (Clear n Flushed) c.in_ok-push.ensures.items c.in_ok-push-2.ensures.items in
    λ s. read_dead p im s n c.args.self.now _ (dead_by p im s n t ts c.requires.root c.requires.chain c.index-chain-chain.result c.index-chain-chain.is ∙ not_false _ _ c.is_value.ensures c.if-is_value.false) more refl refl (c.requires.read s)

pub returns-then-is_value : goal.returns-then-is_value
returns-then-is_value c =
    let p = c.args.image.now.pool in let im = decoded c.args.image.now in let n = c.args.slot in let t = c.args.root in let ts = c.args.chain.now in
    let Marked : Pool → List Place → Type 0 = λ o ms. (q : ℕ) → q < o.nodes * o.buffers → get_or c.mark.new.marks q Free ≡ cond (eqb (home (tag_number t)) (number_at o q)) Bound (cond (stands_on (map tag_number ts) (number_at o q)) Out (get_or ms q Free)) in
    let marks = subst (λ (ms : List Place). Marked p ms) c.deref_mut.ensures.value (subst (λ (o : Pool). Marked o c.deref_mut.result.now) c.pool.ensures c.mark.ensures.marks) in
    let sized = c.mark.ensures.sized ∙ ap (λ (ms : List Place). length ms) c.deref_mut.ensures.value in
    let same = with_items_is c.args.self.now.marks c.mark.new.marks (sized ∙ sym c.args.self.now.marks.ok.0) in
    λ s. read_kept p im s n t ts c.requires.root c.requires.chain c.args.self.now (record { stores = c.args.self.now.stores; marks = with_items c.args.self.now.marks c.mark.new.marks; directory = c.enter.new.self })
    (dead_by p im s n t ts c.requires.root c.requires.chain c.index-chain-chain.result c.index-chain-chain.is ∙ not_true _ _ c.is_value.ensures c.if-is_value.true) (c.requires.read s)
    c.key_in.result c.requires.slot refl (ap (λ (ms : List Place). length ms) same ∙ sized) (λ q h. ap (λ (ms : List Place). get_or ms q Free) same ∙ marks q h) c.key_in.ensures.is c.key_in.ensures.spells c.stands.ensures c.enter.ensures
