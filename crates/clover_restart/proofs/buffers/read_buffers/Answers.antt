use Rattle.std.proofs.Common.{◌≡◌, ℕ, ◌*◌, ◌<◌, refl, sym, ap, ◌∙◌, subst, arith}
use Rattle.clover_words.specs.declared.pool.Pool.{Pool}
use Rattle.clover_words.specs.declared.word.Buffer.{Buffer}
use Rattle.clover_words.specs.Place.{buffer_of}
use Rattle.clover_rule.specs.Memory.{gen}
use Rattle.clover_alloc.specs.Ledger.{Ledger}
use Rattle.clover_alloc.specs.declared.line.Place.{Place}
use Rattle.clover_restart.specs.Lifting.{AreLifted, IsMark}
use Rattle.clover_restart.specs.Reading.{decoded, number_at, number_of}
use Rattle.clover_restart.specs.Slots.{mark_at}
use Rattle.clover_restart.proofs.BufferSteps.{lifted_none, lifted_next}
use Rattle.clover_restart.proofs.ChainMarks.{mark_is}
use Rattle.clover_restart.proofs.buffers.read_buffers.Goals as goal

pub loop-number-init : goal.loop-number-init
loop-number-init c = lifted_none c.args.image.now.pool (decoded c.args.image.now) _ c.args.stores.now.items c.args.books.now refl (ap (λ (x : Ledger). x.pool) c.requires.new.0) (ap (λ (x : Ledger). x.fresh) c.requires.new.0) c.requires.new.1

pub read_buffer-requires-clause-mark : goal.read_buffer-requires-clause-mark
read_buffer-requires-clause-mark c =
    let p = c.args.image.now.pool in let im = decoded c.args.image.now in let s = c.requires.sound.reads in let n = c.loop-number.number in
    let is = c.buffer-buffer.ensures.value ∙ ap (λ (q : Pool). buffer_of q n) c.pool-pool.ensures in
    let lt = subst (λ (q : Pool). n < q.nodes * q.buffers) c.pool-pool.ensures (subst (λ (m : ℕ). n < m) c.total-number-end.ensures.value c.loop-number-test.true) in
    let mark = mark_at p im s p.slots (number_at p n) in
    subst (λ (m : Place). IsMark p.wear m (gen (im.next (number_of c.buffer-buffer.result)))) (sym (c.requires.marks s n lt))
    (subst (λ (b : Buffer). IsMark p.wear mark (gen (im.next (number_of b)))) (sym is) (mark_is p im s p.slots (number_at p n)))

pub loop-number-preserved : goal.loop-number-preserved
loop-number-preserved c =
    let p = c.args.image.now.pool in let im = decoded c.args.image.now in let n = c.loop-number.number in
    let is = c.buffer-buffer.ensures.value ∙ ap (λ (q : Pool). buffer_of q n) c.pool-pool.ensures in
    let lt = subst (λ (q : Pool). n < q.nodes * q.buffers) c.pool-pool.ensures (subst (λ (m : ℕ). n < m) c.total-number-end.ensures.value c.loop-number-test.true) in
    lifted_next p im n c.args.stores.now.items c.loop-number.stores.items c.read_buffer.new.stores.items c.loop-number.books c.read_buffer.new.books c.buffer-buffer.result _ c.loop-number.invariant is (λ s. c.requires.marks s n lt) c.in_ok-read_buffer.ensures.stores c.in_ok-read_buffer.ensures.books c.in_ok-read_buffer.ensures.whole

pub returns-clause-read : goal.returns-clause-read
returns-clause-read c =
    let p = c.args.image.now.pool in let im = decoded c.args.image.now in
    let total : c.total-number-end.result ≡ p.nodes * p.buffers = c.total-number-end.ensures.value ∙ ap (λ (q : Pool). q.nodes * q.buffers) c.pool-pool.ensures in
    let lo = c.loop-number-test.false in let hi = c.loop-number.auto.number-end in
    let all : c.loop-number.number ≡ p.nodes * p.buffers = omega arith in
    λ s. subst (λ (n : ℕ). AreLifted p im s n c.args.stores.now.items c.loop-number.stores.items c.loop-number.books) all (c.loop-number.invariant.read s)
