-- No step lets a copy of a next word fall.
use Rattle.std.proofs.Common.{◌≡◌, ◌≢◌, ℕ, suc, ◌<◌, List, Bool, true, false, cond, ltb, refl, sym, ap, ◌∙◌, inl, inr, arith, subst}
use prog.Atomic.{either}
use native.Mathlib.Decide.{ℕ_discrete}
use mathlib.Core.Logic.{dite}
use Rattle.std.specs.Prelude.{Some, None, slice_index, slice_set}
use Rattle.std.proofs.lemmas.Bool.Decides.{nat_tests}
use Rattle.std.proofs.lemmas.List.{set-get_or}
use Rattle.clover_words.specs.declared.pool.Pool.{Pool}
use Rattle.clover_words.specs.declared.word.Side.TheVariants.{Current}
use Rattle.clover_words.specs.Place.{IsWithin, address_of}
use Rattle.clover_words.specs.Tag.{home, age}
use Rattle.clover_words.specs.Version.{unlinked, linked}
use Rattle.clover_map.specs.declared.call.Call.{Call}
use Rattle.clover_map.specs.declared.call.Entry.{Entry}
use Rattle.clover_map.specs.Tagged.{Tagged}
use Rattle.clover_rule.specs.Asks.{Asks, IsAt, MayCommit}
use Rattle.clover_rule.specs.Changes.{raised_mem}
use Rattle.clover_rule.specs.Content.{inside}
use Rattle.clover_rule.specs.Laws.{RiseLaw, Rises}
use Rattle.clover_rule.specs.Learned.{found, words_after_step}
use Rattle.clover_rule.specs.Lists.{Within, nth, upd}
use Rattle.clover_rule.specs.Memory.{Mem, Next, word, order, greater}
use Rattle.clover_rule.specs.Meets.{Meets}
use Rattle.clover_rule.specs.Steps.{Step, LoadNext, DecideNext, RaiseNext, LinkNext, StoreContent, FlushContent, LoadContent, ReadVersion, FlushLink, PassRoot, FreeRoot, Restart, word_of, side_of, next_word_of}
use Rattle.clover_rule.specs.Story.{Story}
use Rattle.clover_rule.specs.Words.{mem_of, next_of}
use Rattle.clover_rule.specs.declared.view.Link.{Link}
use Rattle.clover_rule.specs.declared.view.Recycling.{Recycling}
use Rattle.clover_rule.specs.declared.view.ServerTask.TheVariants.{Both}
use Rattle.clover_rule.specs.declared.view.View.{View}
use Rattle.clover_rule.proofs.Acting.{step_side}
use Rattle.clover_rule.proofs.AllKeeps.{no_restart}
use Rattle.clover_rule.proofs.Keeping.{inside_of, link_code}
use Rattle.clover_rule.proofs.Keeps.{at_tail, by_test, own_range, raised_words, room}
use Rattle.clover_rule.proofs.RaiseLaw.{known}
use Rattle.clover_rule.proofs.ServerKeeps.{flushed_link_words, freed_words, link_stood, passed_words}
use Rattle.clover_rule.proofs.Ties.{kind_of, content_kind, next_else, fnext_else, next_again, write_next}
use Rattle.clover_rule.proofs.Tools.{upd_same, upd_else}

module _ (p : Pool) (first : Tagged) (used : List ℕ) (ws : List ℕ) (vs : List View) (st : Story) (h : List Entry) (r : Meets p first used ws vs st h) (id : ℕ) (v : View) (at : nth vs id ≡ Some v) where
  abbrev m : Mem
  m = mem_of p ws

  -- both copies of each next word stay or rise
  abbrev Rose : Mem → Type 0
  Rose m1 = (b : ℕ) → Rises (m.next b) (m1.next b) × Rises (m.fnext b) (m1.fnext b)

  rose_to : (ws1 : List ℕ) (m1 : Mem) → mem_of p ws1 ≡ m1 → Rose m1 → Rose (mem_of p ws1)
  rose_to ws1 m1 e q = subst Rose (sym e) q

  same : (i : ℕ) → Rose (mem_of p (slice_set ws i (slice_index ws i)))
  same i b = let e : mem_of p (slice_set ws i (slice_index ws i)) ≡ m = ap (mem_of p) (set-get_or ws i 0) in (inl (ap (λ (z : Mem). z.next b) e), inl (ap (λ (z : Mem). z.fnext b) e))

  -- a step on a word of another kind
  elsewhere : (a : Step) → kind_of (word_of a) ≢ 0 → IsWithin p (word_of a) → (n : ℕ) → Rose (mem_of p (slice_set ws (address_of p (word_of a) (side_of a)) n))
  elsewhere a k hw n b = (inl (next_else p ws (word_of a) (side_of a) n hw (step_side a) b (λ e z. k (ap kind_of (sym e)))), inl (fnext_else p ws (word_of a) (side_of a) n hw (step_side a) b (λ e z. k (ap kind_of (sym e)))))

  -- a current copy that rose
  current : (b0 : ℕ) (n : Next) → order (m.next b0) < order n → Rose (record m { next = upd m.next b0 n })
  current b0 n l b = (dite (ℕ_discrete b b0) (λ d. inr (let x = ap order (ap (upd m.next b0 n) d ∙ upd_same m.next b0 n) in let y = ap (λ (z : ℕ). order (m.next z)) d in omega arith)) (λ d. inl (upd_else m.next b0 b n d)), inl refl)

  greater_rises : (o n : Next) → Rises o (greater o n)
  greater_rises o n = go (ltb (order o) (order n)) refl
    where
      go : (t : Bool) → ltb (order o) (order n) ≡ t → Rises o (cond t n o)
      go true e = inr (grind (arith, nat_tests))
      go false e = inl refl

  -- a flushed copy that was raised
  flushed : (b0 : ℕ) (n : Next) → Rose (record m { fnext = upd m.fnext b0 (greater (m.fnext b0) n) })
  flushed b0 n b = (
    inl refl,
    dite (ℕ_discrete b b0)
        (λ d. let e : upd m.fnext b0 (greater (m.fnext b0) n) b ≡ greater (m.fnext b) n = ap (upd m.fnext b0 (greater (m.fnext b0) n)) d ∙ upd_same m.fnext b0 (greater (m.fnext b0) n) ∙ ap (λ (z : ℕ). greater (m.fnext z) n) (sym d) in subst (Rises (m.fnext b)) (sym e) (greater_rises (m.fnext b) n))
        (λ d. inl (upd_else m.fnext b0 b (greater (m.fnext b0) n) d)),
  )

  link : (s u t : ℕ) (c : Call) → IsWithin p (next_word_of u) → MayCommit p v s u t c → Rose (mem_of p (words_after_step p (LinkNext s u t c) ws))
  link s u t c hw may =
      let a : Step = LinkNext s u t c in
      let x : ℕ = found p a ws in
      let i : inside p (home u) ≡ true = inside_of p (home u) hw in
      let code : next_of (linked u t) ≡ word (age u) (Some t) = next_again (age u) (Some t) (link_code p (age u) t (own_range p first used ws vs st h r id v at t may.rest may.stock)) in
      by_test x (unlinked u) (λ (z : Bool). Rose (mem_of p (slice_set ws (address_of p (next_word_of u) Current) (either z (linked u t) x))))
      (λ e. let was : m.next (home u) ≡ word (age u) None = at_tail p first used ws vs st h r id v at u x i refl e in
      let mem = write_next p ws (linked u t) (home u) i (room p first used ws vs st h r id v at (next_word_of u) Current hw tt) ∙ ap (λ (q : Next). record m { next = upd m.next (home u) q }) code in
      rose_to _ (record m { next = upd m.next (home u) (word (age u) (Some t)) }) mem (current (home u) (word (age u) (Some t)) (let y = ap order was in omega arith)))
      (λ n. same (address_of p (next_word_of u) Current))

  raise : (l : Link) → IsWithin p (next_word_of l.from) → Within l v.pass.links → Rose (mem_of p (words_after_step p (RaiseNext l) ws))
  raise l hw d = rose_to _ (raised_mem m l.from l.to) (raised_words p first used ws vs st h r id v at l (known first used m vs st h r.whole.basis id v at l d) hw (found p (RaiseNext l) ws) refl).0 (flushed (home l.from) (word (age l.from) (Some l.to)))

  pass : (c : Recycling) → IsWithin p (next_word_of c.root) → IsAt v (Both c) → Rose (mem_of p (words_after_step p (PassRoot c) ws))
  pass c hw i = rose_to _ (record m { next = upd m.next (home c.root) (word (suc (age c.root)) None) }) (passed_words p first used ws vs st h r id v at c hw i)
      (current (home c.root) (word (suc (age c.root)) None) (let y = ap order (link_stood p first used ws vs st h r id v at c i) in omega arith))

  pub rose : (a : Step) → Asks p a v → Rose (mem_of p (words_after_step p a ws))
  rose (LoadNext s t) asks = same (address_of p (next_word_of t) Current)
  rose (DecideNext s t c y) asks = same (address_of p (next_word_of t) Current)
  rose (RaiseNext l) (hw, (cl, d)) = raise l hw d
  rose (LinkNext s u t c) (hw, may) = link s u t c hw may
  rose (StoreContent t j x) asks = elsewhere (StoreContent t j x) (let z = content_kind (home t) j in omega arith) asks.0 x
  rose (FlushContent t j x) asks = elsewhere (FlushContent t j x) (let z = content_kind (home t) j in omega arith) asks.0 x
  rose (ReadVersion s q) asks = same (address_of p (next_word_of q) Current)
  rose (FlushLink c) (hw, i) = rose_to _ (raised_mem m c.root c.next) (flushed_link_words p first used ws vs st h r id v at c hw i).0 (flushed (home c.root) (word (age c.root) (Some c.next)))
  rose (PassRoot c) (hw, i) = pass c hw i
  rose (FreeRoot c) (hw, i) = rose_to _ (record m { fnext = upd m.fnext (home c.root) (greater (m.fnext (home c.root)) (word (suc (age c.root)) None)) }) (freed_words p first used ws vs st h r id v at c hw (found p (FreeRoot c) ws) refl).0 (flushed (home c.root) (word (suc (age c.root)) None))
  rose (LoadContent s t j) asks = elsewhere (LoadContent s t j) (let z = content_kind (home t) j in omega arith) asks.0 _
  rose (Restart x) (hw, n) = absurd (no_restart p first used ws vs st h r id v at x n)
  rose a asks = elsewhere a (λ e. omega arith) asks.0 _

pub rise_law : RiseLaw
rise_law p first used ws vs h id v a r at asks = rose p first used ws vs r.story h r.helped id v at a asks
