-- The law: each step of the server keeps the helping facts over the words, and what it tells.
use Rattle.std.proofs.Common.{◌≡◌, ℕ, suc, ◌+◌, ◌<◌, List, [], ◌∷◌, ◌++◌, length, Bool, true, false, cond, max, refl, sym, ap, ◌∙◌, arith, subst, eq-eqb, eqb}
use prog.Atomic.{either}
use Rattle.std.specs.Prelude.{Option, Some, None, slice_set}
use Rattle.std.proofs.lemmas.List.{set-get_or, length-append}
use Rattle.std.proofs.lemmas.Bool.{lt-ltb}
use Rattle.clover_words.specs.declared.pool.Pool.{Pool}
use Rattle.clover_words.specs.declared.word.Word.TheVariants.{Root, Key}
use Rattle.clover_words.specs.declared.word.Side.TheVariants.{Current, Flushed}
use Rattle.clover_words.specs.Meta.{tombstone}
use Rattle.clover_words.specs.Next.{root_code}
use Rattle.clover_words.specs.Place.{IsWithin, HasSide, address_of, copy_in}
use Rattle.clover_words.specs.Tag.{home, age}
use Rattle.clover_words.specs.Version.{linked, content_at}
use Rattle.clover_map.specs.declared.bytes.Value.{Value}
use Rattle.clover_map.specs.declared.call.Entry.{Entry}
use Rattle.clover_map.specs.Tagged.{Tagged}
use Rattle.clover_rule.specs.Asks.{IsAt, MayBegin}
use Rattle.clover_rule.specs.Changes.{raised_mem, recycled_mem}
use Rattle.clover_rule.specs.Content.{inside, content, spelling}
use Rattle.clover_rule.specs.History.{Version}
use Rattle.clover_rule.specs.Learned.{learned, at_task, looked, link_flushed, root_passed, root_freed, begun, root_bound, entered, next_view, turn_of, counted, found, words_after_step}
use Rattle.clover_rule.specs.Lists.{nth, upd, Within}
use Rattle.clover_rule.specs.Meets.{IsCode, IsMet, Meets}
use Rattle.clover_rule.specs.Memory.{Mem, Next, word, gen, greater}
use Rattle.clover_rule.specs.Server.{IsWaiting, Serves, Stage, Whole, book_of, is_home, root_in}
use Rattle.clover_rule.specs.Steps.{Step, ReadVersion, FlushLink, StoreRoot, FlushRoot, PassRoot, FreeRoot, StoreTombstone, FlushTombstone, StoreKey, FlushKey, BindRoot, FlushBoundRoot, StoreCount, word_of, side_of, becomes, act_of, moved_on, next_word_of}
use Rattle.clover_rule.specs.Story.{Place, Story, tag_at, tag_in_version, now_at}
use Rattle.clover_rule.specs.Told.{IsGivenBack, IsDurableBinding}
use Rattle.clover_rule.specs.Views.{free_or_worn, book, book_at, renewed, root_at}
use Rattle.clover_rule.specs.Words.{mem_of, next_code, next_of}
use Rattle.clover_rule.specs.declared.view.BufferState.TheVariants.{Bound as IsBound, Free as IsFree, Out as IsOut, Worn as IsWorn}
use Rattle.clover_rule.specs.declared.view.NewBinding.{NewBinding}
use Rattle.clover_rule.specs.declared.view.Recycling.{Recycling}
use Rattle.clover_rule.specs.declared.view.ServerTask.{ServerTask}
use Rattle.clover_rule.specs.declared.view.ServerTask.TheVariants.{Idle, Storing, Rooted, Waiting, Loaded, Raised, Led, Both, Exchanged}
use Rattle.clover_rule.specs.declared.view.View.{View}
use Rattle.clover_rule.proofs.AfterCuts.{nowhere}
use Rattle.clover_rule.proofs.BindLaws.{bind_root_whole}
use Rattle.clover_rule.proofs.Codes.{raise_on_codes, OneLink, Small}
use Rattle.clover_rule.proofs.Freeing.{exchange_finds, exchange_whole, free_old_whole}
use Rattle.clover_rule.proofs.Keeping.{stepped, SameRun, inside_of, read_next, read_fnext}
use Rattle.clover_rule.proofs.Keeps.{again, greater_case, raised_words, room, small_of}
use Rattle.clover_rule.proofs.ServerLaws.{serves_at, stage_at, begin_whole, flush_tombstone_whole, store_key_whole, flush_key_whole}
use Rattle.clover_rule.proofs.ServerTools.{IsServed}
use Rattle.clover_rule.proofs.Stages.{root_shows, read_unlinked, read_linked, flush_link_whole, store_root_whole, store_flushed_whole, bind_flushed_whole, store_count_whole}
use Rattle.clover_rule.proofs.Steps.{set_here}
use Rattle.clover_rule.proofs.Ties.{write_next, write_fnext, write_body, write_fbody, write_root, write_froot, write_key, write_fkey, write_count, next_again, root_again}
use Rattle.clover_rule.proofs.Tools.{upd_same}

first_word : nth (content None) 0 ≡ Some tombstone
unfolding content
first_word = refl

one_none : (a : ℕ) (o : Next) → OneLink (word a None) o
one_none a (word b None) = tt
one_none a (word b (Some t)) = tt

module _ (p : Pool) (first : Tagged) (used : List ℕ) (ws : List ℕ) (vs : List View) (st : Story) (h : List Entry) (r : Meets p first used ws vs st h) (id : ℕ) (v : View) (at : nth vs id ≡ Some v) where
  abbrev m : Mem
  m = mem_of p ws

  -- the law of one step
  abbrev pub After : Step → Bool → Type 0
  After a b = IsMet p first used (words_after_step p a ws) (renewed vs id (next_view b a h v (found p a ws))) h

  -- the words with another number at the step's word
  abbrev pub words_with : Step → ℕ → List ℕ
  words_with a n = slice_set ws (address_of p (word_of a) (side_of a)) n

  -- a step follows from the helping facts over the words after it, decoded
  lifted : (a : Step) → HasSide (word_of a) (side_of a) → IsWithin p (word_of a) → (n : ℕ) → becomes a (found p a ws) ≡ n → IsCode (word_of a) n → (y : View) → learned a h v (found p a ws) ≡ y → SameRun v y → y.pass.stock ≡ v.pass.stock
      → (m' : Mem) → mem_of p (words_with a n) ≡ m' → IsServed p first used m' (renewed vs id y) st h → (b : Bool) → After a b
  lifted a hs hw n en code y ey run stock m' em (st', w, places) b =
      let x : ℕ = found p a ws in
      subst (λ (z : ℕ). IsMet p first used (words_with a z) (renewed vs id (next_view b a h v x)) h) (sym en)
      (subst (λ (z : View). IsMet p first used (words_with a n) (renewed vs id (counted b (act_of a x) (turn_of a x) z)) h) (sym ey) (
        st',
        stepped p first used ws vs st h r id v at (word_of a) (side_of a) n hw hs code y run st' h places (λ t e q. subst (Within t) (sym stock) q)
            (subst (λ (z : Mem). Whole p first used z (renewed vs id y) st' h) (sym em) w) b (act_of a x) (turn_of a x),
      ))

  room_for : (a : Step) → IsWithin p (word_of a) → HasSide (word_of a) (side_of a) → address_of p (word_of a) (side_of a) < length ws
  room_for a hw hs = room p first used ws vs st h r id v at (word_of a) (side_of a) hw hs

  same_run : (y : View) → y.pass.role ≡ v.pass.role → y.pass.pool ≡ v.pass.pool → y.pass.map ≡ v.pass.map → y.pass.used ≡ v.pass.used → y.plan ≡ v.plan → SameRun v y
  same_run y a b c d e = record { role = a; pool = b; map = c; used = d; plan = e }

  stage_of : (T : ServerTask) → IsAt v T → Stage p m st T
  stage_of T i = stage_at p first used m vs id v st h r.whole at i.server T i.task_is

  serves_of : (T : ServerTask) → IsAt v T → Serves p m st T v.server
  serves_of T i = serves_at p first used m vs id v st h r.whole at i.server T i.task_is

  -- the root version's next word
  module _ (s q : ℕ) (hw : IsWithin p (next_word_of q)) (i : IsAt v Idle) (root : root_at v.server s ≡ Some q) where
    shown_at : m.next (home q) ≡ next_of (found p (ReadVersion s q) ws)
    shown_at = read_next p ws (home q) (inside_of p (home q) hw)

    shows_own : m.next (home q) ≡ now_at st s (st.gone s) q
    shows_own = root_shows p first used m vs id v st h r.whole at i.server s q i.task_is root

    unchanged : mem_of p (words_with (ReadVersion s q) (found p (ReadVersion s q) ws)) ≡ m
    unchanged = ap (mem_of p) (set-get_or ws (address_of p (next_word_of q) Current) 0)

    version_with : (b : Bool) (y : View) → SameRun v y → y.pass.stock ≡ v.pass.stock → (n : Next) → m.next (home q) ≡ n → looked s q v n ≡ y → IsServed p first used m (renewed vs id y) st h → After (ReadVersion s q) b
    version_with b y run stock n e ey served = lifted (ReadVersion s q) tt hw (found p (ReadVersion s q) ws) refl (r.decodes (next_word_of q) Current hw tt) y (ap (λ (z : Next). looked s q v z) (sym shown_at ∙ e) ∙ ey) run stock m unchanged served b

    pub keeps_version : (b : Bool) → After (ReadVersion s q) b
    keeps_version b = go (tag_at st s (suc (st.gone s))) refl
      where
        go : (o : Option ℕ) → tag_at st s (suc (st.gone s)) ≡ o → After (ReadVersion s q) b
        go None e = let z : m.next (home q) ≡ word (age q) None = shows_own ∙ ap (word (age q)) e in
            version_with b (looked s q v (word (age q) None)) (same_run (looked s q v (word (age q) None)) refl refl refl refl refl) refl (word (age q) None) z refl (st, read_unlinked p first used m vs id v st h r.whole at i.server s q i.task_is root z, λ c j f. f)
        go (Some t) e = let z : m.next (home q) ≡ word (age q) (Some t) = shows_own ∙ ap (word (age q)) e in
            version_with b (looked s q v (word (age q) (Some t))) (same_run (looked s q v (word (age q) (Some t))) refl refl refl refl refl) refl (word (age q) (Some t)) z refl (read_linked p first used m vs id v st h r.whole at i.server s q i.task_is root t z)

    pub version_says : gen (next_of (found p (ReadVersion s q) ws)) ≡ age q
    version_says = ap gen (sym shown_at ∙ shows_own)

  -- a recycling's steps
  module _ (c : Recycling) where
    pub flushed_link_words : IsWithin p (next_word_of c.root) → IsAt v (Loaded c) → (mem_of p (words_after_step p (FlushLink c) ws) ≡ raised_mem m c.root c.next) × IsCode (next_word_of c.root) (becomes (FlushLink c) (found p (FlushLink c) ws))
    flushed_link_words hw i =
        let g : Stage p m st (Loaded c) = stage_of (Loaded c) i in
        raised_words p first used ws vs st h r id v at (record { slot = c.slot; from = c.root; to = c.next }) (st.gone c.slot, g.here.root, g.here.next) hw (found p (FlushLink c) ws) refl

    pub keeps_flush_link : IsWithin p (next_word_of c.root) → IsAt v (Loaded c) → (b : Bool) → After (FlushLink c) b
    keeps_flush_link hw i b =
        let z = flushed_link_words hw i in
        lifted (FlushLink c) tt hw (max (found p (FlushLink c) ws) (linked c.root c.next)) refl z.1 (link_flushed v c) refl (same_run (link_flushed v c) refl refl refl refl refl) refl (raised_mem m c.root c.next) z.0
        (flush_link_whole p first used m vs id v st h r.whole at i.server c i.task_is) b

    pub keeps_store_root : IsWithin p (Root c.slot) → IsAt v (Raised c) → (b : Bool) → After (StoreRoot c) b
    keeps_store_root hw i b =
        lifted (StoreRoot c) tt hw (root_code (Some c.next)) refl (ap root_code (root_again (Some c.next))) (at_task v (Led c)) refl (same_run (at_task v (Led c)) refl refl refl refl refl) refl (record m { root = upd m.root c.slot (Some c.next) })
        (write_root p ws (root_code (Some c.next)) c.slot hw (room_for (StoreRoot c) hw tt) ∙ ap (λ (q : Option ℕ). record m { root = upd m.root c.slot q }) (root_again (Some c.next)))
        (store_root_whole p first used m vs id v st h r.whole at i.server c i.task_is) b

    pub keeps_flush_root : IsWithin p (Root c.slot) → IsAt v (Led c) → (b : Bool) → After (FlushRoot c) b
    keeps_flush_root hw i b =
        lifted (FlushRoot c) tt hw (root_code (Some c.next)) refl (ap root_code (root_again (Some c.next))) (at_task v (Both c)) refl (same_run (at_task v (Both c)) refl refl refl refl refl) refl (record m { froot = upd m.froot c.slot (Some c.next) })
        (write_froot p ws (root_code (Some c.next)) c.slot hw (room_for (FlushRoot c) hw tt) ∙ ap (λ (q : Option ℕ). record m { froot = upd m.froot c.slot q }) (root_again (Some c.next)))
        (store_flushed_whole p first used m vs id v st h r.whole at i.server c i.task_is) b

    -- the exchange finds the link
    pub pass_says : IsWithin p (next_word_of c.root) → IsAt v (Both c) → found p (PassRoot c) ws ≡ linked c.root c.next
    pass_says hw i = sym (r.decodes (next_word_of c.root) Current hw tt) ∙ ap next_code (sym (read_next p ws (home c.root) (inside_of p (home c.root) hw)) ∙ exchange_finds p first used m vs id v st h r.whole at i.server c i.task_is)

    pass_writes : IsWithin p (next_word_of c.root) → IsAt v (Both c) → becomes (PassRoot c) (found p (PassRoot c) ws) ≡ moved_on c.root
    pass_writes hw i = ap (λ (z : Bool). either z (moved_on c.root) (found p (PassRoot c) ws)) (eq-eqb (found p (PassRoot c) ws) (linked c.root c.next) (pass_says hw i))

    next_generation : next_of (moved_on c.root) ≡ word (suc (age c.root)) None
    next_generation = next_again (suc (age c.root)) None (omega arith)

    moved_words : IsWithin p (next_word_of c.root) → mem_of p (words_with (PassRoot c) (moved_on c.root)) ≡ recycled_mem m c.root
    moved_words hw = write_next p ws (moved_on c.root) (home c.root) (inside_of p (home c.root) hw) (room_for (PassRoot c) hw tt) ∙ ap (λ (z : Next). record m { next = upd m.next (home c.root) z }) next_generation

    pub passed_words : IsWithin p (next_word_of c.root) → IsAt v (Both c) → mem_of p (words_after_step p (PassRoot c) ws) ≡ recycled_mem m c.root
    passed_words hw i = ap (λ (z : ℕ). mem_of p (words_with (PassRoot c) z)) (pass_writes hw i) ∙ moved_words hw

    pub link_stood : IsAt v (Both c) → m.next (home c.root) ≡ word (age c.root) (Some c.next)
    link_stood i = exchange_finds p first used m vs id v st h r.whole at i.server c i.task_is

    pub keeps_pass_root : IsWithin p (next_word_of c.root) → IsAt v (Both c) → (b : Bool) → After (PassRoot c) b
    keeps_pass_root hw i b =
        lifted (PassRoot c) tt hw (moved_on c.root) (pass_writes hw i) (ap next_code next_generation) (root_passed v c) refl (same_run (root_passed v c) refl refl refl refl refl) refl (recycled_mem m c.root) (moved_words hw)
        (exchange_whole p first used m vs id v st h r.whole at i.server c i.task_is) b

    abbrev pub freed_mem : Mem
    freed_mem = record m { fnext = upd m.fnext (home c.root) (greater (m.fnext (home c.root)) (word (suc (age c.root)) None)) }

    -- the decoded words after the last raise, and that the raised number is a code
    pub freed_words : IsWithin p (next_word_of c.root) → (x : ℕ) → x ≡ copy_in p ws (next_word_of c.root) Flushed
        → (mem_of p (words_with (FreeRoot c) (max x (moved_on c.root))) ≡ freed_mem) × (next_code (next_of (max x (moved_on c.root))) ≡ max x (moved_on c.root))
    freed_words hw x is =
        let i : inside p (home c.root) ≡ true = inside_of p (home c.root) hw in
        let n : Next = word (suc (age c.root)) None in
        let o : Next = next_of x in
        let was : m.fnext (home c.root) ≡ o = read_fnext p ws (home c.root) i ∙ ap next_of (sym is) in
        let xc : next_code o ≡ x = ap (λ (z : ℕ). next_code (next_of z)) is ∙ r.decodes (next_word_of c.root) Flushed hw tt ∙ sym is in
        let top : max x (moved_on c.root) ≡ next_code (greater o n) = ap (λ (z : ℕ). max z (moved_on c.root)) (sym xc) ∙ raise_on_codes n o tt (small_of x) (one_none (suc (age c.root)) o) in
        let value : next_of (max x (moved_on c.root)) ≡ greater o n = ap next_of top ∙ again (greater o n) (greater_case o n Small (small_of x) tt) in (
          write_fnext p ws (max x (moved_on c.root)) (home c.root) i (room_for (FreeRoot c) hw tt)
              ∙ ap (λ (z : Next). record m { fnext = upd m.fnext (home c.root) z }) (value ∙ ap (λ (z : Next). greater z n) (sym was)),
          ap next_code value ∙ sym top,
        )

    pub keeps_free_root : IsWithin p (next_word_of c.root) → IsAt v (Exchanged c) → (b : Bool) → After (FreeRoot c) b
    keeps_free_root hw i b =
        let z = freed_words hw (found p (FreeRoot c) ws) refl in
        lifted (FreeRoot c) tt hw (max (found p (FreeRoot c) ws) (moved_on c.root)) refl z.1 (root_freed p.wear v c) (ap (λ (q : Pool). root_freed q.wear v c) (r.same id v at).of_pool) (same_run (root_freed p.wear v c) refl refl refl refl refl) refl freed_mem z.0
        (free_old_whole p first used m vs id v st h r.whole at i.server c i.task_is) b

    -- a buffer that is free or worn stands on no chain
    unchained : (x y : Bool) (a g : ℕ) → book a (cond x IsWorn IsFree) ≡ book g (cond y IsBound IsOut) → ⊥
    unchained true true a g e = absurd cc
    unchained true false a g e = absurd cc
    unchained false true a g e = absurd cc
    unchained false false a g e = absurd cc

    pub free_says : IsWithin p (next_word_of c.root) → IsAt v (Exchanged c) → IsGivenBack p (words_after_step p (FreeRoot c) ws) c.root
    free_says hw i =
        let a : Step = FreeRoot c in
        let x : ℕ = found p a ws in
        let b : ℕ = home c.root in
        let y : View = next_view true a h v x in
        let met = keeps_free_root hw i true in
        let m1 : Mem = mem_of p (words_after_step p a ws) in
        let sv : Serves p m1 met.0 met.0.task y.server = met.1.whole.serves id y (set_here vs id y v at) i.server in
        let line : book_at y.server b ≡ book (suc (age c.root)) (free_or_worn v.pass.pool.wear (suc (age c.root))) = upd_same (upd (book_at v.server) (home c.next) (book (age c.next) IsBound)) b (book (suc (age c.root)) (free_or_worn v.pass.pool.wear (suc (age c.root)))) in
        let g : Stage p m st (Exchanged c) = stage_of (Exchanged c) i in
        let raised : greater (m.fnext b) (word (suc (age c.root)) None) ≡ word (suc (age c.root)) None = ap (λ (z : Next). greater z (word (suc (age c.root)) None)) g.here.safe ∙ ap (λ (z : Bool). cond z (word (suc (age c.root)) None) (word (age c.root) (Some c.next))) (lt-ltb (suc (age c.root + age c.root)) (suc (age c.root) + suc (age c.root)) (omega arith)) in
        record {
          flushed = ap (λ (z : Mem). z.fnext b) (freed_words hw x refl).0 ∙ upd_same m.fnext b (greater (m.fnext b) (word (suc (age c.root)) None)) ∙ raised;
          gone = nowhere p first used (words_after_step p a ws) (renewed vs id y) met.0 h met.1 b (λ s z. unchained (eqb (suc (age c.root)) v.pass.pool.wear) (is_home (root_in met.0.task met.0 s) b) (suc (age c.root)) (gen (m1.next b))
              (sym line ∙ sv.books b (inside_of p b hw) ∙ ap (λ (k : Place). book_of met.0.task met.0 k (gen (m1.next b)) b) z));
        }

  -- a binding's steps
  module _ (n : NewBinding) where
    pub keeps_store_tombstone : IsWithin p (content_at (home n.tag) 0) → MayBegin p v n → (b : Bool) → After (StoreTombstone n) b
    keeps_store_tombstone hw may b =
        lifted (StoreTombstone n) tt hw tombstone refl tt (begun v n) refl (same_run (begun v n) refl refl refl refl refl) refl (record m { body = upd m.body (home n.tag) (upd (m.body (home n.tag)) 0 tombstone) })
        (write_body p ws tombstone (home n.tag) 0 may.buffer (omega arith) (room_for (StoreTombstone n) hw tt))
        (begin_whole p first used m vs id v st h r.whole at may.idle.server n may) b

    pub keeps_flush_tombstone : IsWithin p (content_at (home n.tag) 0) → IsAt v (Storing n 1) → (b : Bool) → After (FlushTombstone n) b
    keeps_flush_tombstone hw i b =
        lifted (FlushTombstone n) tt hw tombstone refl tt (at_task v (Storing n 2)) refl (same_run (at_task v (Storing n 2)) refl refl refl refl refl) refl (record m { fbody = upd m.fbody (home n.tag) (upd (m.fbody (home n.tag)) 0 tombstone) })
        (write_fbody p ws tombstone (home n.tag) 0 (inside_of p (home n.tag) hw) (omega arith) (room_for (FlushTombstone n) hw tt))
        (flush_tombstone_whole p first used m vs id v st h r.whole at i.server n i.task_is) b

    pub keeps_store_key : (j x : ℕ) → IsWithin p (Key n.slot j) → IsAt v (Storing n (2 + j)) → nth (spelling n.key) j ≡ Some x → (b : Bool) → After (StoreKey n j x) b
    keeps_store_key j x hw i e b =
        lifted (StoreKey n j x) tt hw x refl tt (at_task v (Storing n (3 + j))) refl (same_run (at_task v (Storing n (3 + j))) refl refl refl refl refl) refl (record m { key = upd m.key n.slot (upd (m.key n.slot) j x) })
        (write_key p ws x n.slot j hw.0 hw.1 (room_for (StoreKey n j x) hw tt))
        (store_key_whole p first used m vs id v st h r.whole at i.server n j x i.task_is e) b

    pub keeps_flush_key : (j x : ℕ) → IsWithin p (Key n.slot j) → IsAt v (Storing n (2 + j + length (spelling n.key))) → nth (spelling n.key) j ≡ Some x → (b : Bool) → After (FlushKey n j x) b
    keeps_flush_key j x hw i e b =
        lifted (FlushKey n j x) tt hw x refl tt (at_task v (Storing n (3 + j + length (spelling n.key)))) refl (same_run (at_task v (Storing n (3 + j + length (spelling n.key)))) refl refl refl refl refl) refl (record m { fkey = upd m.fkey n.slot (upd (m.fkey n.slot) j x) })
        (write_fkey p ws x n.slot j hw.0 hw.1 (room_for (FlushKey n j x) hw tt))
        (flush_key_whole p first used m vs id v st h r.whole at i.server n j x i.task_is e) b

    pub keeps_bind_root : IsWithin p (Root n.slot) → IsAt v (Storing n (2 + length (spelling n.key) + length (spelling n.key))) → (b : Bool) → After (BindRoot n) b
    keeps_bind_root hw i b =
        lifted (BindRoot n) tt hw (root_code (Some n.tag)) refl (ap root_code (root_again (Some n.tag))) (root_bound v n) refl (same_run (root_bound v n) refl refl refl refl refl) refl (record m { root = upd m.root n.slot (Some n.tag) })
        (write_root p ws (root_code (Some n.tag)) n.slot hw (room_for (BindRoot n) hw tt) ∙ ap (λ (q : Option ℕ). record m { root = upd m.root n.slot q }) (root_again (Some n.tag)))
        (bind_root_whole p first used m vs id v st h r.whole at i.server n i.task_is) b

    pub keeps_flush_bound : IsWithin p (Root n.slot) → IsAt v (Rooted n) → (b : Bool) → After (FlushBoundRoot n) b
    keeps_flush_bound hw i b =
        lifted (FlushBoundRoot n) tt hw (root_code (Some n.tag)) refl (ap root_code (root_again (Some n.tag))) (at_task v (Waiting n)) refl (same_run (at_task v (Waiting n)) refl refl refl refl refl) refl (record m { froot = upd m.froot n.slot (Some n.tag) })
        (write_froot p ws (root_code (Some n.tag)) n.slot hw (room_for (FlushBoundRoot n) hw tt) ∙ ap (λ (q : Option ℕ). record m { froot = upd m.froot n.slot q }) (root_again (Some n.tag)))
        (bind_flushed_whole p first used m vs id v st h r.whole at i.server n i.task_is) b

    -- the count that a binding's last store leaves
    counted_now : (x : ℕ) → IsAt v (Waiting n) → x ≡ length v.server.directory → x ≡ suc m.count
    counted_now x i e =
        let sv : Serves p m st (Waiting n) v.server = serves_of (Waiting n) i in
        e ∙ ap (λ (xs : List (ℕ × List ℕ)). length xs) sv.directory ∙ (let z : length (st.bindings ++ (n.slot, n.key) ∷ []) ≡ suc (length st.bindings) = omega (arith, length-append st.bindings ((n.slot, n.key) ∷ [])) in z) ∙ ap suc (sym r.whole.help.naming.counted)

    count_words : (x : ℕ) → mem_of p (words_with (StoreCount n x) x) ≡ record m { count = x }
    count_words x = write_count p ws x (room_for (StoreCount n x) tt tt)

    pub keeps_store_count : (x : ℕ) → IsAt v (Waiting n) → x ≡ length v.server.directory → (b : Bool) → After (StoreCount n x) b
    keeps_store_count x i e b =
        lifted (StoreCount n x) tt tt x refl tt (entered v n) refl (same_run (entered v n) refl refl refl refl refl) refl (record m { count = suc m.count })
        (count_words x ∙ ap (λ (z : ℕ). record m { count = z }) (counted_now x i e))
        (store_count_whole p first used m vs id v st h r.whole at i.server n i.task_is) b

    pub count_says : (x : ℕ) → IsAt v (Waiting n) → IsDurableBinding (mem_of p (words_after_step p (StoreCount n x) ws)) n
    count_says x i =
        let g = stage_of (Waiting n) i in
        subst (λ (z : Mem). IsDurableBinding z n) (sym (count_words x)) (record { key = r.whole.help.keyed.flushed n.slot n.key g.here.0.key; root = g.here.1; tombstone = tomb g.here.0 })
      where
        tomb : IsWaiting m st n → m.fbody (home n.tag) 0 ≡ tombstone
        tomb a = go (nth (st.log n.slot) 0) refl a.tag
          where
            go : (o : Option Version) → nth (st.log n.slot) 0 ≡ o → tag_in_version o ≡ Some n.tag → m.fbody (home n.tag) 0 ≡ tombstone
            go None x y = absurd (let z : ◌≡◌ {A = Option ℕ} None (Some n.tag) = y in cc)
            go (Some w) x y =
                let is : w.tag ≡ n.tag = (let z : Some w.tag ≡ Some n.tag = y in cc) in
                let dead : w.value ≡ None = r.whole.help.naming.waiting n.slot n.key a.key a.unnamed 0 w x in
                ap (λ (z : ℕ). m.fbody (home z) 0) (sym is) ∙ (r.whole.basis.bodies n.slot 0 w x (omega (arith, a.gone)) 0 tombstone (ap (λ (z : Option Value). nth (content z) 0) dead ∙ first_word)).1
