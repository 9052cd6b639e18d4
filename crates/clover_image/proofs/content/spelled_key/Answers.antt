use Rattle.std.proofs.Common.{◌≡◌, ℕ, List, ◌+◌, ◌-◌, take, drop, sym, ap, ◌∙◌, subst, arith}
use Rattle.std.specs.Prelude.{Option, IfSome}
use Rattle.clover_words.specs.Pack.{packed}
use Rattle.clover_map.specs.Key.{IsKey}
use Rattle.clover_rule.specs.Content.{Spells}
use Rattle.clover_image.proofs.KeyBytes.{key_first, key_last, key_spelled, ok_some}
use Rattle.clover_image.proofs.content.spelled_key.Goals as goal
use Rattle.clover_image.proofs.content.spelled_key.Goals.{then-length-eq0-via-then-length-eq0, then-length-eq0-via-else-length-eq0+then-length-gt-KEY_BYTES}

pub returns-then-length-eq0-clause-none : goal.returns-then-length-eq0-clause-none
returns-then-length-eq0-clause-none c = λ k is sp.
    let s = c.args.spelled.now in
    let first = key_first s.bytes s.room k is sp in let n = c.from-length.ensures in let some = is.0 in let most = is.1 in
    elim c.then-length-eq0.branch [
      | then-length-eq0-via-then-length-eq0 w ↦ let e = w.if-length-eq0.true in omega arith
      | then-length-eq0-via-else-length-eq0+then-length-gt-KEY_BYTES w ↦ let e = w.if-length-gt-KEY_BYTES.true in omega arith
    ]

pub returns-then-pack-clause-none : goal.returns-then-pack-clause-none
returns-then-pack-clause-none c = λ k is sp.
    let s = c.args.spelled.now in
    c.if-pack.true (c.pack.ensures.value ∙ key_last s.bytes s.room k is sp c.from-length.result (c.from-length.ensures ∙ key_first s.bytes s.room k is sp) ∙ sym c.pack-2.ensures.value)

pub returns-clause-some : goal.returns-clause-some
returns-clause-some c =
    let s = c.args.spelled.now in let n = c.from-length.result in let a = c.if-length-eq0.false in let b = c.if-length-gt-KEY_BYTES.false in
    let P : List ℕ → Type 0 = λ k. IsKey k × Spells (packed s.bytes) k in
    let spelled = key_spelled s.bytes s.room n (sym c.from-length.ensures) (omega arith) (omega arith) (sym c.pack.ensures.value ∙ c.if-pack.false ∙ c.pack-2.ensures.value) in
    let size : n + 1 - 1 ≡ n = omega arith in
    let long : take (n + 1 - 1) (drop 1 s.bytes) ≡ take n (drop 1 s.bytes) = ap (λ (i : ℕ). take i (drop 1 s.bytes)) size in
    subst (λ (o : Option (List ℕ)). IfSome o P) (sym c.ok.ensures.value) (ok_some c.of.result (take (n + 1 - 1) (drop 1 s.bytes)) P c.of.ensures.value (subst P (sym long) spelled))
