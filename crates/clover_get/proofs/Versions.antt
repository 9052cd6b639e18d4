-- Where what is copied of the tail is one version's content, the loads of a get gave the value's packing, word for word.
use Prim.Native.Nat.{suc}
use Rattle.std.proofs.Common.{◌≡◌, ℕ, ◌<◌, ◌≤◌, ◌++◌, ◌∷◌, length, sym, ap, ◌∙◌, subst}
use Rattle.std.specs.Prelude.{Option, Some}
use Rattle.clover_words.specs.declared.bytes.ValueBuf.{ValueBuf}
use Rattle.clover_words.specs.declared.meta.Kind.TheVariants.{Value as IsValue}
use Rattle.clover_words.specs.declared.pool.Pool.{Pool}
use Rattle.clover_words.specs.declared.word.Word.TheVariants.{Meta, Value as ValueOf}
use Rattle.clover_words.specs.Meta.{meta_word}
use Rattle.clover_words.specs.Pack.{packed, words_of}
use Rattle.clover_words.specs.Tag.{home}
use Rattle.clover_words.specs.Version.{buffer_at}
use Rattle.clover_map.specs.declared.bytes.Value.{Value}
use Rattle.clover_rule.specs.Accesses.{SawWhole}
use Rattle.clover_rule.specs.Content.{content}
use Rattle.clover_rule.specs.Lists.{nth, Within}
use Rattle.clover_rule.specs.Told.{AreOneVersion}
use Rattle.clover_rule.specs.declared.access.Act.TheVariants.{Load}
use Rattle.clover_rule.specs.declared.view.View.{View}
use Rattle.clover_rule.proofs.Spelling.{nth_all, read_content}
use Rattle.clover_get.specs.Copying.{Copied}
use Rattle.clover_get.specs.Getting.{value_in}
use Rattle.clover_get.proofs.Copies.{value_length, value_meta_is, value_unpacks}

value_word : (x : Value) (k : ℕ) → k < words_of (length x.bytes) → nth (content (Some x)) (suc k) ≡ Some (packed x.bytes k)
unfolding content
value_word x k h = nth_all x.bytes k h

pub saw_whole : (p : Pool) (s t f : ℕ) (v : View) (into : ValueBuf) → Copied p s t f (words_of into.length) v into → AreOneVersion p s t v → SawWhole t (value_in f into) v.pass.since
saw_whole p s t f v into c one =
    let x : Value = value_in f into in
    let below : (k : ℕ) → k < words_of (length x.bytes) → k < words_of into.length = λ k h. subst (λ (n : ℕ). k < words_of n) (value_length f into) h in
    let is : one.value ≡ Some x = read_content p one.value x one.fits c.flags (subst (λ (n : ℕ). n ≤ 1024) (sym (value_length f into)) into.length_fits)
    (λ y q. one.words 0 (meta_word (record { kind = IsValue; flags = f; length = into.length })) y c.meta q ∙ value_meta_is f into)
    (λ k h. (packed into.bytes k, λ z q. one.words (suc k) (packed into.bytes k) z (c.words k (below k h)) q, value_unpacks f into k)) in (
      c.loads.before,
      c.loads.after,
      c.loads.split ∙ ap (λ (y : ℕ). c.loads.before ++ Load (Meta (buffer_at (home t))) y ∷ c.loads.after) (value_meta_is f into),
      λ k h. let q : packed x.bytes k ≡ packed into.bytes k = one.words (suc k) (packed into.bytes k) (packed x.bytes k) (c.words k (below k h)) (ap (λ (o : Option Value). nth (content o) (suc k)) is ∙ value_word x k h) in
          subst (λ (y : ℕ). Within (Load (ValueOf (buffer_at (home t)) k) y) c.loads.after) (sym q) (c.loads.words k (below k h)),
    )
