-- The laws of the stores of a binding before its root.
use Rattle.std.proofs.Common.{◌≡◌, ℕ, ◌+◌, ◌≤◌, ◌≢◌, List, ◌∷◌, length, append-nil, refl, sym, ap, ◌∙◌, ⊎_elim, arith, subst}
use native.Mathlib.Decide.{ℕ_discrete}
use mathlib.Core.Logic.{dite}
use Rattle.std.specs.Prelude.{Option, Some, None}
use Rattle.clover_words.specs.Meta.{tombstone}
use Rattle.clover_words.specs.Tag.{home, age}
use Rattle.clover_map.specs.declared.call.Entry.{Entry}
use Rattle.clover_map.specs.Tagged.{Tagged}
use Rattle.clover_rule.specs.Content.{spelling}
use Rattle.clover_rule.specs.Lists.{nth, upd, Within}
use Rattle.clover_rule.specs.Memory.{word, gen, link, Mem}
use Rattle.clover_rule.specs.Server.{Ready, IsStoring, Stage, book_of, Serves, Whole}
use Rattle.clover_rule.specs.Asks.{MayBegin}
use Rattle.clover_rule.specs.Learned.{at_task, begun}
use Rattle.clover_rule.specs.Story.{Place, Free, Taken, Loose, Story, Stocked}
use Rattle.clover_rule.specs.Views.{book, renewed, book_at, line}
use Rattle.clover_rule.specs.declared.view.BufferState.TheVariants.{Out as IsOut}
use Rattle.clover_rule.specs.declared.view.Role.TheVariants.{Serving}
use Rattle.clover_rule.specs.declared.view.NewBinding.{NewBinding}
use Rattle.clover_rule.specs.declared.view.ServerTask.{ServerTask}
use Rattle.clover_rule.specs.declared.view.ServerTask.TheVariants.{Idle, Storing}
use Rattle.clover_rule.specs.declared.view.View.{View}
use Rattle.clover_words.specs.declared.pool.Pool.{Pool}
use Rattle.clover_rule.proofs.Standings.{word_is}
use Rattle.clover_rule.proofs.Tools.{upd_same, upd_else, nth_within}
use Rattle.clover_rule.proofs.ServerTools.{IsServed, whole, same_known, free_place, no_stock}
use Rattle.clover_rule.proofs.Contents.{content_moves, storing_stage, storing_serves}

module _ (l : Pool) (m0 : Tagged) (used : List ℕ) (m : Mem) (vs : List View) (id : ℕ) (v : View) (st : Story) (h : List Entry) (w : Whole l m0 used m vs st h) (at : nth vs id ≡ Some v) (role : v.pass.role ≡ Serving) where
  served : Serves l m st st.task v.server
  served = w.serves id v at role

  pub stage_at : (T : ServerTask) → v.server.task ≡ T → Stage l m st T
  stage_at T e = subst (Stage l m st) (sym served.task_is ∙ e) w.help.stage

  pub serves_at : (T : ServerTask) → v.server.task ≡ T → Serves l m st T v.server
  serves_at T e = subst (λ (x : ServerTask). Serves l m st x v.server) (sym served.task_is ∙ e) served

  module _ (bind : NewBinding) where
    abbrev s : ℕ
    s = bind.slot

    abbrev k : List ℕ
    k = bind.key

    abbrev t : ℕ
    t = bind.tag

    only_held : (n : ℕ) → Stage l m st (Storing bind n) → (b : ℕ) → st.place b ≡ Taken → b ≡ home t
    only_held n g b e = let q : Some (home t) ≡ Some b = g.holds b e in cc

    -- one more store of a binding under way
    module _ (n n' : ℕ) (e : v.server.task ≡ Storing bind n) (B FB K FK : ℕ → ℕ → ℕ) (be : (b : ℕ) → b ≢ home t → B b ≡ m.body b) (fe : (b : ℕ) → b ≢ home t → FB b ≡ m.fbody b)
        (ke : (s1 : ℕ) → s1 ≢ s → K s1 ≡ m.key s1) (ge : (s1 : ℕ) → s1 ≢ s → FK s1 ≡ m.fkey s1)
        (b1 : 1 ≤ n' → B (home t) 0 ≡ tombstone) (b2 : 2 ≤ n' → FB (home t) 0 ≡ tombstone)
        (b3 : (j x : ℕ) → nth (spelling k) j ≡ Some x → 3 + j ≤ n' → K s j ≡ x) (b4 : (j x : ℕ) → nth (spelling k) j ≡ Some x → 3 + j + length (spelling k) ≤ n' → FK s j ≡ x) where
      abbrev m1 : Mem
      m1 = record m { body = B; fbody = FB; key = K; fkey = FK }

      abbrev st1 : Story
      st1 = record st { place = upd st.place (home t) Taken; task = Storing bind n' }

      g : Stage l m st (Storing bind n)
      g = stage_at (Storing bind n) e

      is : IsStoring l m st bind n
      is = g.here

      is1 : IsStoring l m1 st1 bind n'
      is1 = record { place = upd_same st.place (home t) Taken; now = is.now; safe = is.safe; range = is.range; slot = is.slot; bare = is.bare; unnamed = is.unnamed; absent = is.absent; valid = is.valid; body = b1; fbody = b2; key = b3; fkey = b4 }

      unbound : (s1 : ℕ) (k1 : List ℕ) → st.keys s1 ≡ Some k1 → s1 ≢ s
      unbound s1 k1 q z = absurd (cc (ap st.keys z, q, is.bare))

      pub storing_whole : IsServed l m0 used m1 (renewed vs id (at_task v (Storing bind n'))) st h
      storing_whole = (
        st1,
        whole l m0 used m vs st h w id v at role (at_task v (Storing bind n')) refl refl refl m1 st1
            (content_moves l m0 used m vs st h w (home t) (ap link is.now) (λ s1 q. absurd (cc (q, is.place))) (λ j q. absurd (cc (q, is.place))) B FB K FK (Storing bind n') be fe (λ s1 k1 q. ke s1 (unbound s1 k1 q)) (λ s1 k1 q. ge s1 (unbound s1 k1 q))
            (storing_stage l m m1 st (Storing bind n) bind n' g (λ s1 q. absurd cc) refl (λ b q. let z : Some (home t) ≡ Some b = q in cc) is1))
            (same_known m1 st1 h id v (at_task v (Storing bind n')).server)
            (storing_serves l m m1 st (Storing bind n) bind n' v.server (serves_at (Storing bind n) e) (λ s1. refl) refl (only_held n g) (λ b. refl) v.server.books (λ b q. refl)
            (let i = is.range in (serves_at (Storing bind n) e).books (home t) i.0 ∙ ap (λ (p : Place). book_of (Storing bind n) st p (gen (m.next (home t))) (home t)) is.place)),
        no_stock st.place (home t) Taken (λ i z. absurd (let y : Taken ≡ Stocked i = z in cc)),
      )

    -- the flushed copy of the tombstone's meta word
    pub flush_tombstone_whole : v.server.task ≡ Storing bind 1 → IsServed l m0 used (record m { fbody = upd m.fbody (home t) (upd (m.fbody (home t)) 0 tombstone) }) (renewed vs id (at_task v (Storing bind 2))) st h
    flush_tombstone_whole e =
        let is : IsStoring l m st bind 1 = (stage_at (Storing bind 1) e).here in
        storing_whole 1 2 e m.body (upd m.fbody (home t) (upd (m.fbody (home t)) 0 tombstone)) m.key m.fkey
        (λ b n. refl) (λ b n. upd_else m.fbody (home t) b (upd (m.fbody (home t)) 0 tombstone) n) (λ s1 n. refl) (λ s1 n. refl)
        (λ q. is.body (omega arith)) (λ q. ap (λ (f : ℕ → ℕ). f 0) (upd_same m.fbody (home t) (upd (m.fbody (home t)) 0 tombstone)))
        (λ j x q i. absurd (omega arith)) (λ j x q i. absurd (omega arith))

    -- a word of the key
    pub store_key_whole : (j x : ℕ) → v.server.task ≡ Storing bind (2 + j) → nth (spelling k) j ≡ Some x → IsServed l m0 used (record m { key = upd m.key s (upd (m.key s) j x) }) (renewed vs id (at_task v (Storing bind (3 + j)))) st h
    store_key_whole j x e f =
        let is : IsStoring l m st bind (2 + j) = (stage_at (Storing bind (2 + j)) e).here in
        storing_whole (2 + j) (3 + j) e m.body m.fbody (upd m.key s (upd (m.key s) j x)) m.fkey
        (λ b n. refl) (λ b n. refl) (λ s1 n. upd_else m.key s s1 (upd (m.key s) j x) n) (λ s1 n. refl)
        (λ q. is.body (omega arith)) (λ q. is.fbody (omega arith))
        (λ i y q b. ap (λ (g : ℕ → ℕ). g i) (upd_same m.key s (upd (m.key s) j x)) ∙ dite (ℕ_discrete i j)
        (λ d. ap (upd (m.key s) j x) d ∙ upd_same (m.key s) j x ∙ (let z : Some x ≡ Some y = sym f ∙ ap (nth (spelling k)) (sym d) ∙ q in cc))
        (λ d. upd_else (m.key s) j i x d ∙ is.key i y q (omega arith)))
        (λ i y q b. is.fkey i y q (let z = nth_within (spelling k) j x f in omega arith))

    -- and its flushed copy
    pub flush_key_whole : (j x : ℕ) → v.server.task ≡ Storing bind (2 + j + length (spelling k)) → nth (spelling k) j ≡ Some x → IsServed l m0 used (record m { fkey = upd m.fkey s (upd (m.fkey s) j x) }) (renewed vs id (at_task v (Storing bind (3 + j + length (spelling k))))) st h
    flush_key_whole j x e f =
        let is : IsStoring l m st bind (2 + j + length (spelling k)) = (stage_at (Storing bind (2 + j + length (spelling k))) e).here in
        storing_whole (2 + j + length (spelling k)) (3 + j + length (spelling k)) e m.body m.fbody m.key (upd m.fkey s (upd (m.fkey s) j x))
        (λ b n. refl) (λ b n. refl) (λ s1 n. refl) (λ s1 n. upd_else m.fkey s s1 (upd (m.fkey s) j x) n)
        (λ q. is.body (omega arith)) (λ q. is.fbody (omega arith))
        (λ i y q b. is.key i y q (let z = nth_within (spelling k) i y q in omega arith))
        (λ i y q b. ap (λ (g : ℕ → ℕ). g i) (upd_same m.fkey s (upd (m.fkey s) j x)) ∙ dite (ℕ_discrete i j)
        (λ d. ap (upd (m.fkey s) j x) d ∙ upd_same (m.fkey s) j x ∙ (let z : Some x ≡ Some y = sym f ∙ ap (nth (spelling k)) (sym d) ∙ q in cc))
        (λ d. upd_else (m.fkey s) j i x d ∙ is.fkey i y q (omega arith)))

    -- the first store of a binding
    module _ (may : MayBegin l v bind) where
      g0 : Stage l m st Idle
      g0 = stage_at Idle may.idle.task_is

      sv0 : Serves l m st Idle v.server
      sv0 = serves_at Idle may.idle.task_is

      fr : (st.place (home t) ≡ Free) × (gen (m.next (home t)) ≡ age t)
      fr = free_place Idle st (st.place (home t)) (gen (m.next (home t))) (home t) (age t) (sym (sv0.books (home t) may.buffer) ∙ may.free)

      lo : (link (m.next (home t)) ≡ None) × (m.fnext (home t) ≡ m.next (home t))
      lo = w.basis.core.loose (home t) (subst Loose (sym fr.0) tt)

      nw : m.next (home t) ≡ word (age t) None
      nw = word_is (m.next (home t)) (age t) None fr.1 lo.0

      dir : v.server.directory ≡ st.bindings
      dir = sv0.directory ∙ append-nil st.bindings

      named_there : (s1 : ℕ) (k1 : List ℕ) → st.keys s1 ≡ Some k1 → Within (s1, k1) v.server.directory
      named_there s1 k1 q = subst (Within (s1, k1)) (sym dir) (w.help.naming.listed s1 k1 q (⊎_elim (λ d. d) (λ d. absurd cc) (g0.names s1 k1 q)))

      bare : st.keys s ≡ None
      bare = go (st.keys s) refl
        where
          go : (x : Option (List ℕ)) → st.keys s ≡ x → x ≡ None
          go None q = refl
          go (Some k1) q = absurd (may.unbound k1 (named_there s k1 q))

      abbrev mb : Mem
      mb = record m { body = upd m.body (home t) (upd (m.body (home t)) 0 tombstone) }

      abbrev sb : Story
      sb = record st { place = upd st.place (home t) Taken; task = Storing bind 1 }

      isb : IsStoring l mb sb bind 1
      isb = record {
        place = upd_same st.place (home t) Taken;
        now = nw;
        safe = lo.1 ∙ nw;
        range = (may.buffer, let q = fr.1 in let q2 = (w.help.ranged.ready (home t) (subst Ready (sym fr.0) tt)).1 in omega arith);
        slot = may.slot;
        bare = bare;
        unnamed = w.help.keyed.nameless s bare;
        absent = λ s1 q. may.unnamed s1 (named_there s1 k q);
        valid = may.key;
        body = λ q. ap (λ (f1 : ℕ → ℕ). f1 0) (upd_same m.body (home t) (upd (m.body (home t)) 0 tombstone));
        fbody = λ q. absurd (omega arith);
        key = λ j1 x1 q b. absurd (omega arith);
        fkey = λ j1 x1 q b. absurd (omega arith);
      }

      pub begin_whole : IsServed l m0 used mb (renewed vs id (begun v bind)) st h
      begin_whole = (
        sb,
        whole l m0 used m vs st h w id v at role (begun v bind) refl refl refl mb sb
            (content_moves l m0 used m vs st h w (home t) lo.0 (λ s1 q. absurd (cc (q, fr.0))) (λ j1 q. absurd (cc (q, fr.0))) (upd m.body (home t) (upd (m.body (home t)) 0 tombstone)) m.fbody m.key m.fkey (Storing bind 1)
            (λ b n. upd_else m.body (home t) b (upd (m.body (home t)) 0 tombstone) n) (λ b n. refl) (λ s1 k1 q. refl) (λ s1 k1 q. refl)
            (storing_stage l m mb st Idle bind 1 g0 (λ s1 q. absurd cc) refl (λ b q. absurd cc) isb))
            (same_known mb sb h id v (begun v bind).server)
            (storing_serves l m mb st Idle bind 1 v.server sv0 (λ s1. refl) refl (λ b q. absurd (cc (g0.holds b q))) (λ b. refl) (line (home t) (age t) IsOut ∷ v.server.books) (λ b n. upd_else (book_at v.server) (home t) b (book (age t) IsOut) n)
            (upd_same (book_at v.server) (home t) (book (age t) IsOut) ∙ ap (λ (x : ℕ). book x IsOut) (sym fr.1))),
        no_stock st.place (home t) Taken (λ i z. absurd (let y : Taken ≡ Stocked i = z in cc)),
      )
