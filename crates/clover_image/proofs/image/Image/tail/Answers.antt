use Rattle.std.proofs.Common.{◌≡◌, ℕ, Bool, sym, ap, ◌∙◌, subst, Some}
use Rattle.std.specs.Prelude.{Option}
use Rattle.std.specs.Option.{option_map}
use Rattle.clover_words.specs.Meta.{MetaParts}
use Rattle.clover_words.specs.Tag.{tag_number}
use Rattle.clover_rule.specs.Image.{Chain}
use Rattle.clover_image.specs.Reading.{decoded, of_value, told_tail}
use Rattle.clover_image.proofs.Chains.{slot_range}
use Rattle.clover_image.proofs.Tails.{has_last, no_root, no_tail, root_said, tail_said}
use Rattle.clover_image.proofs.image.Image.tail.Goals as goal

pub returns-in_err-root_of : goal.returns-in_err-root_of
returns-in_err-root_of c = λ sound.
    let m = c.args.self.now in
    ap (option_map told_tail) c.from_residual.ensures ∙ sym (no_tail m sound c.args.slot (no_root m sound c.args.slot (λ o lt link e. let q = c.in_err-root_of.ensures.only o lt link e in absurd (cc))))

pub returns-in_err-root : goal.returns-in_err-root
returns-in_err-root c = λ sound.
    let m = c.args.self.now in let said = c.in_ok-root_of.ensures.some in
    let root = root_said m c.args.slot c.in_ok-root_of.field-0 said.0 said.2 in
    ap (option_map told_tail) c.from_residual-in_err-root.ensures ∙ sym (no_tail m sound c.args.slot (root ∙ ap (option_map tag_number) c.in_err-root.was))

pub returns-in_err-last : goal.returns-in_err-last
returns-in_err-last c = λ sound.
    let m = c.args.self.now in let s = c.args.slot in let said = c.in_ok-root_of.ensures.some in
    let root = root_said m s c.in_ok-root_of.field-0 said.0 said.2 ∙ ap (option_map tag_number) c.in_ok-root.was in
    let chain = subst (λ (x : Option ℕ). Chain (decoded m) x (sound.reads.chain s)) root (sound.reads.walk s) in
    absurd (has_last (decoded m) (tag_number c.in_ok-root.root) (sound.reads.chain s) chain (sym (c.in_err-last.ensures sound (sound.reads.chain s) chain (slot_range m.pool (decoded m) sound.reads s))))

pub returns-in_err-meta_of : goal.returns-in_err-meta_of
returns-in_err-meta_of c = λ sound.
    let m = c.args.self.now in let s = c.args.slot in let said = c.in_ok-root_of.ensures.some in
    let root = root_said m s c.in_ok-root_of.field-0 said.0 said.2 ∙ ap (option_map tag_number) c.in_ok-root.was in
    let chain = subst (λ (x : Option ℕ). Chain (decoded m) x (sound.reads.chain s)) root (sound.reads.walk s) in
    let last = sym (c.in_ok-last.ensures sound (sound.reads.chain s) chain (slot_range m.pool (decoded m) sound.reads s)) in
    let tail = tail_said m sound s (tag_number c.in_ok-last.last) last in
    absurd (let e = c.in_err-meta_of.ensures.only tail.0 tail.2 tail.1 tail.3 in cc)

pub returns : goal.returns
returns c = λ sound.
    let m = c.args.self.now in let s = c.args.slot in let t = tag_number c.in_ok-last.last in let said = c.in_ok-root_of.ensures.some in
    let root = root_said m s c.in_ok-root_of.field-0 said.0 said.2 ∙ ap (option_map tag_number) c.in_ok-root.was in
    let chain = subst (λ (x : Option ℕ). Chain (decoded m) x (sound.reads.chain s)) root (sound.reads.walk s) in
    let last = sym (c.in_ok-last.ensures sound (sound.reads.chain s) chain (slot_range m.pool (decoded m) sound.reads s)) in
    let tail = tail_said m sound s t last in
    let only = c.in_ok-meta_of.ensures.only tail.0 tail.2 tail.1 tail.3 in
    let meta : c.in_ok-meta_of.field-0 ≡ tail.0 = (let e : Some c.in_ok-meta_of.field-0 ≡ Some tail.0 = only in cc) in
    ap (λ (b : Bool). Some (t, b)) (c.is_value.ensures ∙ ap (λ (x : MetaParts). of_value x.kind) meta) ∙ sym tail.4
