use Rattle.std.proofs.Common.{ℕ, List, length, get_or, sym, ap, ◌∙◌, subst, arith}
use Rattle.std.specs.Prelude.{map}
use Rattle.std.proofs.lemmas.List.{length-map}
use Rattle.clover_words.specs.declared.pool.Pool.{Pool}
use Rattle.clover_alloc.specs.declared.line.Place.{Place}
use Rattle.clover_alloc.specs.declared.line.Place.TheVariants.{Free}
use Rattle.clover_dir.specs.Bindings.{pair_of}
use Rattle.clover_restart.specs.Kept.{AreWithin}
use Rattle.clover_restart.specs.Reading.{decoded}
use Rattle.clover_restart.specs.Stores.{store_of}
use Rattle.clover_restart.proofs.Begins.{plan_is, plan_within, restarts}
use Rattle.clover_restart.proofs.steps.Restart.of_sound.Goals as goal

pub read_buffers-requires-clause-sized : goal.read_buffers-requires-clause-sized
read_buffers-requires-clause-sized c = ap (λ (ms : List Place). length ms) c.deref.ensures.value ∙ (c.in_ok-slots.ensures c.requires.reads).sized

pub read_buffers-requires-clause-marks : goal.read_buffers-requires-clause-marks
read_buffers-requires-clause-marks c = λ s q h. ap (λ (ms : List Place). get_or ms q Free) c.deref.ensures.value ∙ (c.in_ok-slots.ensures s).marks q h

pub invariant_of-result : goal.invariant_of-result
invariant_of-result c =
    let p = c.args.image.now.pool in let im = decoded c.args.image.now in let s = c.requires.reads in let xs = c.list.result.now in
    let counted = sym (length-map xs pair_of) ∙ ap (λ (l : List (ℕ × List ℕ)). length l) c.list.ensures.pairs in
    let is = plan_is p im s c.in_ok-slots.slots c.read_buffers.new.stores.items c.push.new.self.items c.read_buffers.new.books (c.in_ok-slots.ensures s) (c.in_ok-read_buffers.ensures.read s) (length xs) counted c.in_ok-push.ensures.items in
    record {
      made = omega arith;
      within = subst (λ (o : Pool). AreWithin o (map store_of c.push.new.self.items)) (sym c.pool-pool.ensures) (subst (AreWithin p) (sym is) (plan_within p im s));
    }

pub returns-clause-restarts : goal.returns-clause-restarts
returns-clause-restarts c =
    let p = c.args.image.now.pool in let im = decoded c.args.image.now in let xs = c.list.result.now in
    let counted = sym (length-map xs pair_of) ∙ ap (λ (l : List (ℕ × List ℕ)). length l) c.list.ensures.pairs in
    λ s. let x = restarts p im s c.in_ok-slots.slots c.read_buffers.new.stores.items c.push.new.self.items c.read_buffers.new.books (c.in_ok-slots.ensures s) (c.in_ok-read_buffers.ensures.read s) (length xs) counted c.in_ok-push.ensures.items in
    record { rest = x.rest; stores = x.stores; lines = x.lines; list = x.list; roots = x.roots }

pub returns-clause-next : goal.returns-clause-next
returns-clause-next c = record { ledger = c.in_ok-read_buffers.ensures.whole; bindings = (c.stands.ensures, (c.in_ok-slots.ensures c.requires.reads).pool) }
