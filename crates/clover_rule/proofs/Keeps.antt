-- The law: each step that a client may make keeps the helping facts over the words.
use Rattle.std.proofs.Common.{◌≡◌, ℕ, zero, suc, ◌+◌, ◌-◌, ◌/◌, ◌%◌, ◌<◌, ◌≢◌, ◌⊎◌, ◌==◌, List, [], ◌∷◌, ◌++◌, length, Bool, true, false, cond, max, refl, sym, ap, ◌∙◌, inl, inr, ⊎_elim, arith, subst, eq-eqb, ne_eqb, nat_lt, ltb}
use native.Mathlib.Decide.{ℕ_discrete, dec_le}
use mathlib.Core.Logic.{dite}
use prog.Atomic.{either}
use Rattle.std.specs.Prelude.{Option, Some, None, slice_set, slice_index}
use Rattle.std.proofs.lemmas.List.{set-get_or}
use Rattle.clover_words.specs.declared.pool.Pool.{Pool}
use Rattle.clover_words.specs.declared.word.Word.{Word}
use Rattle.clover_words.specs.declared.word.Word.TheVariants.{Next as NextOf, Short}
use Rattle.clover_words.specs.declared.word.Side.{Side}
use Rattle.clover_words.specs.declared.word.Side.TheVariants.{Current, Flushed}
use Rattle.clover_words.specs.Place.{IsWithin, HasSide, address_of, copy_in}
use Rattle.clover_words.proofs.Places.{address_below}
use Rattle.clover_words.specs.Tag.{home, age}
use Rattle.clover_words.specs.Version.{unlinked, linked, buffer_at, content_at}
use Rattle.clover_words.specs.Next.{root_code}
use Rattle.clover_map.specs.declared.call.Call.{Call}
use Rattle.clover_map.specs.declared.call.Call.TheVariants.{Get, Put, Delete, Swap}
use Rattle.clover_map.specs.declared.call.Reply.{Reply}
use Rattle.clover_map.specs.declared.call.Reply.TheVariants.{Stored, Found, Absent, Deleted, Differs}
use Rattle.clover_map.specs.declared.call.Entry.{Entry}
use Rattle.clover_map.specs.History.{key_of}
use Rattle.clover_map.specs.Tagged.{Tagged}
use Rattle.clover_map.specs.declared.bytes.Value.{Value}
use Rattle.clover_rule.specs.Changes.{linked_mem, linked_story, raised_mem}
use Rattle.clover_rule.specs.Content.{inside, InRange, Fits}
use Rattle.clover_map.specs.Legal.{used_by}
use Rattle.clover_rule.specs.History.{committed}
use Rattle.clover_rule.specs.Knowing.{link_view, link_entry, stored_view, flushed_view, MayLink}
use Rattle.clover_rule.specs.Lists.{Within, upd, nth, Each}
use Rattle.clover_rule.specs.Meets.{IsCode, Meets, IsMet}
use Rattle.clover_rule.specs.Memory.{Next, word, gen, link, order, greater, Mem}
use Rattle.clover_rule.specs.Server.{Whole, Ready}
use Rattle.clover_rule.specs.Asks.{MayDecide, MayReply, MayCommit, MayCall, MayMiss}
use Rattle.clover_rule.specs.Learned.{seen, decided, started, counts, missed, rest_of, learned, turn_at, counted, next_history, found}
use Rattle.clover_rule.specs.Steps.{IsClient, client, Step, DecideNext, RaiseNext, LinkNext, StoreContent, FlushContent, LoadContent, StoreShort, ReadCount, AbsentCount, word_of, side_of, becomes, act_of, value_of, reply_of}
use Rattle.clover_rule.specs.Story.{Chained, Stocked, Durable, Story, tag_at, only}
use Rattle.clover_rule.specs.Views.{IsLink, renewed, raise_view, Owned}
use Rattle.clover_rule.specs.Words.{next_code, root_of, next_of, mem_of}
use Rattle.clover_rule.specs.declared.view.Link.{Link}
use Rattle.clover_rule.specs.declared.view.View.{View}
use Rattle.clover_map.specs.declared.bytes.Value.{Value}
use Rattle.clover_rule.proofs.KeyMaps.{shows, leads}
use Rattle.clover_rule.proofs.TaggedMaps.{Permits}
use Rattle.clover_rule.proofs.Tools.{upd_same, upd_else}
use Rattle.clover_rule.proofs.Ties.{write_next, write_fnext, write_body, write_fbody, write_short, next_again, root_again, content_side}
use Rattle.clover_rule.proofs.Codes.{raise_on_codes, OneLink, Small}
use Rattle.clover_rule.proofs.Keeping.{stepped, SameRun, tag_small, link_code, inside_of, read_next, read_fnext, read_body}
use Rattle.clover_rule.proofs.Learning.{seen_whole, started_whole, copied_whole, counts_whole, lead_whole}
use Rattle.clover_rule.proofs.Calls.{put_decides, delete_decides, swap_decides, load_whole, found_get, absent_get, absent_delete, absent_swap, differs}
use Rattle.clover_rule.proofs.CountLaw.{count_whole, absent_now}
use Rattle.clover_rule.proofs.ClientLaws.{raise_whole}
use Rattle.clover_rule.proofs.StoreLaw.{store_whole, flush_whole}
use Rattle.clover_rule.proofs.RaiseLaw.{known}

-- a test of two numbers
pub by_test : (x c : ℕ) (P : Bool → Type 0) → (x ≡ c → P true) → (x ≢ c → P false) → P (x == c)
by_test x c P f g = dite (ℕ_discrete x c) (λ e. subst P (sym (eq-eqb x c e)) (f e)) (λ n. subst P (sym (ne_eqb x c n)) (g n))

same_self : (v : View) → SameRun v v
same_self v = record { role = refl; pool = refl; map = refl; used = refl; plan = refl }

seen_run : (s t : ℕ) (v : View) (n : Next) → SameRun v (seen s t v n)
seen_run s t v (word a None) = record { role = refl; pool = refl; map = refl; used = refl; plan = refl }
seen_run s t v (word a (Some u)) = record { role = refl; pool = refl; map = refl; used = refl; plan = refl }

seen_stock : (s t : ℕ) (v : View) (n : Next) (z : ℕ) → Within z v.pass.stock → Within z (seen s t v n).pass.stock
seen_stock s t v (word a None) z w = w
seen_stock s t v (word a (Some u)) z w = w

started_stock : (s : ℕ) (v : View) (o : Option ℕ) (z : ℕ) → Within z v.pass.stock → Within z (started s v o).pass.stock
started_stock s v None z w = w
started_stock s v (Some t) z w = w

started_run : (s : ℕ) (v : View) (o : Option ℕ) → SameRun v (started s v o)
started_run s v None = same_self v
started_run s v (Some t) = record { role = refl; pool = refl; map = refl; used = refl; plan = refl }

content_code : (b j n : ℕ) → IsCode (content_at b j) n
content_code b zero n = tt
content_code b (suc j) n = tt

content_buffer : (p : Pool) (b j : ℕ) → IsWithin p (content_at b j) → (inside p b ≡ true) × (j < 1 + p.words)
content_buffer p b zero h = (inside_of p b h, omega arith)
content_buffer p b (suc j) h = (inside_of p b h.0, let q = h.1 in omega arith)

max_case : (x k : ℕ) (P : ℕ → Type 0) → P x → P k → P (max x k)
max_case x k P a b = dite (dec_le x k) (λ h. subst P (let e : k ≡ max x k = omega arith in e) b) (λ h. subst P (let e : x ≡ max x k = omega arith in e) a)

-- the flushed copy and a link of one generation have one link
pub one_link : (a t : ℕ) (n : Next) → (gen n ≡ a → (n ≡ word a None) ⊎ (n ≡ word a (Some t))) → OneLink (word a (Some t)) n
one_link a t (word b None) f = tt
one_link a t (word b (Some u)) f = λ e. ⊎_elim {C = t ≡ u} (λ q. absurd (let z : Some u ≡ None = ap link q in cc)) (λ q. let z : Some u ≡ Some t = ap link q in cc) (f (sym e))

pub greater_case : (o n : Next) (P : Next → Type 0) → P o → P n → P (greater o n)
greater_case o n P a b = elim (ltb (order o) (order n)) as (λ t. P (cond t n o)) [ true ↦ b | false ↦ a ]

small_code : (w : Next) → Small w → root_code (link w) < 8796093022208
small_code (word a None) s = omega arith
small_code (word a (Some t)) s = omega arith

pub again : (w : Next) → Small w → next_of (next_code w) ≡ w
again (word a None) s = next_again a None (omega arith)
again (word a (Some t)) s = next_again a (Some t) (omega arith)

-- what a number says is small
pub small_of : (n : ℕ) → Small (next_of n)
small_of n = go (nat_lt (n % 8796093022208) 4398046511104)
  where
    go : (b : Bool) → Small (word (n / 8796093022208) (cond b None (Some ((n % 8796093022208) - 4398046511104))))
    go true = tt
    go false = omega arith

module _ (p : Pool) (first : Tagged) (used : List ℕ) (ws : List ℕ) (vs : List View) (st : Story) (h : List Entry) (r : Meets p first used ws vs st h) (id : ℕ) (v : View) (at : nth vs id ≡ Some v) where
  abbrev m : Mem
  m = mem_of p ws

  -- what is to be shown of a step that leaves this number, this view and this history
  abbrev After : Step → Bool → ℕ → View → ℕ → List Entry → Type 0
  After a b n y k h' = IsMet p first used (slice_set ws (address_of p (word_of a) (side_of a)) n) (renewed vs id (counted b (act_of a (found p a ws)) k y)) h'

  pub room : (w0 : Word) (s0 : Side) → IsWithin p w0 → HasSide w0 s0 → address_of p w0 s0 < length ws
  room w0 s0 hw hs = let q = address_below p w0 s0 hw hs in let e = r.sized in omega arith

  -- a step that leaves its word
  pub quiet_step : (a : Step) → HasSide (word_of a) (side_of a) → IsWithin p (word_of a) → (b : Bool) (y : View) → SameRun v y → ((t : ℕ) → Within t v.pass.stock → Within t y.pass.stock) → (k : ℕ) (h' : List Entry) → Whole p first used m (renewed vs id y) st h' → After a b (found p a ws) y k h'
  quiet_step a hs hw b y run sk k h' w =
      let same : slice_set ws (address_of p (word_of a) (side_of a)) (found p a ws) ≡ ws = set-get_or ws (address_of p (word_of a) (side_of a)) 0 in (
        st,
        stepped p first used ws vs st h r id v at (word_of a) (side_of a) (found p a ws) hw hs (r.decodes (word_of a) (side_of a) hw hs) y run st h' (λ c i e. e) (λ t e z. sk t z)
            (subst (λ (q : List ℕ). Whole p first used (mem_of p q) (renewed vs id y) st h') (sym same) w) b (act_of a (found p a ws)) k,
      )

  pub load_next : (b : Bool) (a : Step) (s t : ℕ) → side_of a ≡ Current → word_of a ≡ NextOf (buffer_at (home t)) → IsWithin p (word_of a) → HasSide (word_of a) (side_of a) → IsClient v → Within (s, t) v.pass.durable → (k : ℕ) → After a b (found p a ws) (seen s t v (next_of (found p a ws))) k h
  load_next b a s t es ew hw hs cl d k =
      let i : inside p (home t) ≡ true = inside_of p (home t) (subst (IsWithin p) ew hw) in
      let x : ℕ = found p a ws in
      let is : x ≡ copy_in p ws (NextOf (buffer_at (home t))) Current = ap (λ (z : Word). slice_index ws (address_of p z (side_of a))) ew ∙ ap (λ (z : Side). slice_index ws (address_of p (NextOf (buffer_at (home t))) z)) es in
      quiet_step a hs hw b (seen s t v (next_of x)) (seen_run s t v (next_of x)) (seen_stock s t v (next_of x)) k h
      (seen_whole p first used m vs st h r.whole id v at cl s t d (next_of x) (read_next p ws (home t) i ∙ ap next_of (sym is)))

  pub at_tail : (t x : ℕ) → inside p (home t) ≡ true → x ≡ copy_in p ws (NextOf (buffer_at (home t))) Current → x ≡ unlinked t → m.next (home t) ≡ word (age t) None
  at_tail t x i is e = read_next p ws (home t) i ∙ ap next_of (sym is ∙ e) ∙ next_again (age t) None (omega arith)

  -- the reply that the client read is one that the map gives
  reply_does : (s t : ℕ) (c : Call) (y : Reply) → Within (s, t) v.pass.durable → Within (s, key_of c) v.pass.names → m.next (home t) ≡ word (age t) None → IsClient v → MayReply v s t c y → (committed c y ≡ None) × Permits (leads (shows first) h (key_of c)) (used_by used h) c y
  reply_does s t (Get k) (Found u x) d n f cl (e, q) = (refl, subst (λ (z : ℕ). Permits (leads (shows first) h k) (used_by used h) (Get k) (Found z x)) (sym e) (found_get p first used m vs st h r.whole id v at s k t d n f (client v) cl x q))
  reply_does s t (Get k) Absent d n f cl q = (refl, absent_get p first used m vs st h r.whole id v at s k t d n f (client v) cl q)
  reply_does s t (Delete k) Absent d n f cl q = (refl, absent_delete p first used m vs st h r.whole id v at s k t d n f (client v) cl q)
  reply_does s t (Swap k e x) Absent d n f cl q = (refl, absent_swap p first used m vs st h r.whole id v at s k t d n f (client v) cl e x q)
  reply_does s t (Swap k e x) (Differs u) d n f cl (z, ne, q) = (refl, subst (λ (y : ℕ). Permits (leads (shows first) h k) (used_by used h) (Swap k e x) (Differs y)) (sym z) (differs p first used m vs st h r.whole id v at s k t d n f (client v) cl e x ne q))
  reply_does s t (Get k) (Stored u) d n f cl q = absurd q
  reply_does s t (Get k) (Deleted u) d n f cl q = absurd q
  reply_does s t (Get k) (Differs u) d n f cl q = absurd q
  reply_does s t (Put k x) y d n f cl q = absurd q
  reply_does s t (Delete k) (Stored u) d n f cl q = absurd q
  reply_does s t (Delete k) (Found u x) d n f cl q = absurd q
  reply_does s t (Delete k) (Deleted u) d n f cl q = absurd q
  reply_does s t (Delete k) (Differs u) d n f cl q = absurd q
  reply_does s t (Swap k e x) (Stored u) d n f cl q = absurd q
  reply_does s t (Swap k e x) (Found u z) d n f cl q = absurd q
  reply_does s t (Swap k e x) (Deleted u) d n f cl q = absurd q

  pub decide_next : (b : Bool) (s t : ℕ) (c : Call) (y : Reply) → IsWithin p (NextOf (buffer_at (home t))) → MayDecide v s t c y
      → After (DecideNext s t c y) b (found p (DecideNext s t c y) ws) (learned (DecideNext s t c y) h v (found p (DecideNext s t c y) ws)) (turn_at t (found p (DecideNext s t c y) ws)) (next_history (DecideNext s t c y) h v (found p (DecideNext s t c y) ws))
  decide_next b s t c y hw may =
      let a : Step = DecideNext s t c y in
      let x : ℕ = found p a ws in
      by_test x (unlinked t) (λ (z : Bool). After a b x (cond z (decided v h t c y) (seen s t v (next_of x))) (cond z 0 1) (cond z (h ++ link_entry v (client v) c y ∷ []) h))
      (λ e. let f : m.next (home t) ≡ word (age t) None = at_tail t x (inside_of p (home t) hw) refl e in
      let d = reply_does s t c y may.tail may.name f may.client may.reply in
      quiet_step a tt hw b (decided v h t c y) (record { role = refl; pool = refl; map = refl; used = refl; plan = refl }) (λ z q. q) 0 (h ++ link_entry v (client v) c y ∷ [])
      (load_whole p first used m vs st h r.whole id v at s (key_of c) t may.tail may.name f (client v) may.client c y refl d.0 d.1))
      (λ n. load_next b a s t refl refl hw tt may.client may.tail 1)

  pub own_range : (t : ℕ) (rest : List ℕ) → v.pass.stock ≡ t ∷ rest → InRange p t
  own_range t rest e = let o = (subst (Each (Owned m st id)) e (r.whole.basis.views id v at).stocked).0 in let g = r.whole.help.ranged.ready (home t) (subst Ready (sym o.0) tt) in (g.0, let q = o.1 in let z = g.1 in omega arith)

  -- the exchange that wrote
  link_wrote : (s u t : ℕ) (c : Call) (rest : List ℕ) → MayLink v (client v) s (key_of c) u t (value_of c) rest → Fits p (value_of c) → MayCall v s u c → m.next (home u) ≡ word (age u) None
      → Whole p first used (linked_mem m u t) (renewed vs id (link_view v h (client v) s u t c (reply_of t c) rest)) (linked_story st s (record { tag = t; value = value_of c })) (h ++ link_entry v (client v) c (reply_of t c) ∷ [])
  link_wrote s u t (Put k x) rest p1 fits may f = put_decides p first used m vs st h r.whole id v at (client v) s k u t x rest p1 fits f
  link_wrote s u t (Delete k) rest p1 fits may f = delete_decides p first used m vs st h r.whole id v at (client v) s k u t rest p1 may f
  link_wrote s u t (Swap k e x) rest p1 fits may f = subst (λ (z : ℕ). Whole p first used (linked_mem m u t) (renewed vs id (link_view v h (client v) s u t (Swap k z x) (Stored t) rest)) (linked_story st s (record { tag = t; value = Some x })) (h ++ link_entry v (client v) (Swap k z x) (Stored t) ∷ []))
      (sym may.0) (swap_decides p first used m vs st h r.whole id v at (client v) s k u t x rest p1 may.1 fits f)
  link_wrote s u t (Get k) rest p1 fits may f = absurd may

  -- the linked buffer leaves the stock, and no other one does
  link_places : (s t : ℕ) (y : Option Value) (c i : ℕ) → (linked_story st s (record { tag = t; value = y })).place c ≡ Stocked i → st.place c ≡ Stocked i
  link_places s t y c i e = dite (ℕ_discrete c (home t))
      (λ d. absurd (let z : Chained s ≡ Stocked i = sym (ap (upd st.place (home t) (Chained s)) d ∙ upd_same st.place (home t) (Chained s)) ∙ e in cc))
      (λ d. sym (upd_else st.place (home t) c (Chained s) d) ∙ e)

  link_stocks : (s t : ℕ) (y : Option Value) (rest : List ℕ) → v.pass.stock ≡ t ∷ rest → (z : ℕ) → (linked_story st s (record { tag = t; value = y })).place (home z) ≡ Stocked id → Within z v.pass.stock → Within z (rest_of v.pass.stock)
  link_stocks s t y rest q z e w = subst (λ (l : List ℕ). Within z (rest_of l)) (sym q) (⊎_elim
      (λ d. absurd (let f : Chained s ≡ Stocked id = sym (ap (λ (a : ℕ). upd st.place (home t) (Chained s) (home a)) (sym d) ∙ upd_same st.place (home t) (Chained s)) ∙ e in cc))
      (λ d. d) (subst (Within z) q w))

  pub link_next : (b : Bool) (s u t : ℕ) (c : Call) → IsWithin p (NextOf (buffer_at (home u))) → MayCommit p v s u t c
      → After (LinkNext s u t c) b (becomes (LinkNext s u t c) (found p (LinkNext s u t c) ws)) (learned (LinkNext s u t c) h v (found p (LinkNext s u t c) ws)) (turn_at u (found p (LinkNext s u t c) ws)) (next_history (LinkNext s u t c) h v (found p (LinkNext s u t c) ws))
  link_next b s u t c hw may =
      let a : Step = LinkNext s u t c in
      let x : ℕ = found p a ws in
      let i : inside p (home u) ≡ true = inside_of p (home u) hw in
      let own : InRange p t = own_range t may.rest may.stock in
      let code : next_of (linked u t) ≡ word (age u) (Some t) = next_again (age u) (Some t) (link_code p (age u) t own) in
      by_test x (unlinked u) (λ (z : Bool). After a b (either z (linked u t) x) (cond z (link_view v h (client v) s u t c (reply_of t c) (rest_of v.pass.stock)) (seen s u v (next_of x))) (cond z 0 1) (cond z (h ++ link_entry v (client v) c (reply_of t c) ∷ []) h))
      (λ e. let f : m.next (home u) ≡ word (age u) None = at_tail u x i refl e in
      let w0 = link_wrote s u t c may.rest (record { client = may.client; stock = may.stock; tail = may.tail; name = may.name; stored = may.stored }) may.fits may.call f in
      let y : View = link_view v h (client v) s u t c (reply_of t c) (rest_of v.pass.stock) in
      let st1 : Story = linked_story st s (record { tag = t; value = value_of c }) in
      let h1 : List Entry = h ++ link_entry v (client v) c (reply_of t c) ∷ [] in
      let w1 : Whole p first used (linked_mem m u t) (renewed vs id y) st1 h1 = subst (λ (q : List ℕ). Whole p first used (linked_mem m u t) (renewed vs id (link_view v h (client v) s u t c (reply_of t c) q)) st1 h1) (sym (ap rest_of may.stock)) w0 in
      let places = link_places s t (value_of c) in
      let stocks = link_stocks s t (value_of c) may.rest may.stock in
      let mem : mem_of p (slice_set ws (address_of p (NextOf (buffer_at (home u))) Current) (linked u t)) ≡ linked_mem m u t =
      write_next p ws (linked u t) (home u) i (room (NextOf (buffer_at (home u))) Current hw tt) ∙ ap (λ (q : Next). record m { next = upd m.next (home u) q }) code in (
        st1,
        stepped p first used ws vs st h r id v at (NextOf (buffer_at (home u))) Current (linked u t) hw tt (ap next_code code) y (record { role = refl; pool = refl; map = refl; used = refl; plan = refl }) st1 h1 places stocks
            (subst (λ (q : Mem). Whole p first used q (renewed vs id y) st1 h1) (sym mem) w1) b (act_of a x) 0,
      ))
      (λ n. load_next b a s u refl refl hw tt may.client may.tail 1)

  flushed_link : (l : Link) (i : ℕ) → tag_at st l.slot i ≡ Some l.from → tag_at st l.slot (suc i) ≡ Some l.to → gen (m.fnext (home l.from)) ≡ age l.from → (m.fnext (home l.from) ≡ word (age l.from) None) ⊎ (m.fnext (home l.from) ≡ word (age l.from) (Some l.to))
  flushed_link l i e f g = dite (dec_le (st.gone l.slot) i)
      (λ d. let x = (r.whole.basis.core.standing l.slot i l.from e d).safe in either_way (ltb (suc i) (st.sure l.slot)) x)
      (λ d. let x = (r.whole.basis.core.passed l.slot i l.from e (omega arith)).safe in ⊎_elim (λ q. absurd (omega arith)) (λ q. inr (q ∙ ap (word (age l.from)) f)) x)
    where
      either_way : (b : Bool) → m.fnext (home l.from) ≡ word (age l.from) (only b (tag_at st l.slot (suc i))) → (m.fnext (home l.from) ≡ word (age l.from) None) ⊎ (m.fnext (home l.from) ≡ word (age l.from) (Some l.to))
      either_way true x = inr (x ∙ ap (word (age l.from)) f)
      either_way false x = inl x

  -- the decoded words after a raise to a link of a slot's list, and that the raised number is a code
  pub raised_words : (l : Link) → IsLink st l → IsWithin p (NextOf (buffer_at (home l.from))) → (x : ℕ) → x ≡ copy_in p ws (NextOf (buffer_at (home l.from))) Flushed
      → (mem_of p (slice_set ws (address_of p (NextOf (buffer_at (home l.from))) Flushed) (max x (linked l.from l.to))) ≡ raised_mem m l.from l.to) × (next_code (next_of (max x (linked l.from l.to))) ≡ max x (linked l.from l.to))
  raised_words l k hw x is =
      let i : inside p (home l.from) ≡ true = inside_of p (home l.from) hw in
      let target : InRange p l.to = r.whole.help.ranged.tags l.slot (suc k.0) l.to k.2 in
      let n : Next = word (age l.from) (Some l.to) in
      let o : Next = next_of x in
      let was : m.fnext (home l.from) ≡ o = read_fnext p ws (home l.from) i ∙ ap next_of (sym is) in
      let xc : next_code o ≡ x = ap (λ (z : ℕ). next_code (next_of z)) is ∙ r.decodes (NextOf (buffer_at (home l.from))) Flushed hw tt ∙ sym is in
      let one : OneLink n o = one_link (age l.from) l.to o (λ g. subst (λ (z : Next). (z ≡ word (age l.from) None) ⊎ (z ≡ word (age l.from) (Some l.to))) was (flushed_link l k.0 k.1 k.2 (ap gen was ∙ g))) in
      let sn : Small n = tag_small p l.to target in
      let top : max x (linked l.from l.to) ≡ next_code (greater o n) = ap (λ (z : ℕ). max z (linked l.from l.to)) (sym xc) ∙ raise_on_codes n o sn (small_of x) one in
      let value : next_of (max x (linked l.from l.to)) ≡ greater o n = ap next_of top ∙ again (greater o n) (greater_case o n Small (small_of x) sn) in (
        write_fnext p ws (max x (linked l.from l.to)) (home l.from) i (room (NextOf (buffer_at (home l.from))) Flushed hw tt)
            ∙ ap (λ (q : Next). record m { fnext = upd m.fnext (home l.from) q }) (value ∙ ap (λ (z : Next). greater z n) (sym was)),
        ap next_code value ∙ sym top,
      )

  pub raise_next : (b : Bool) (l : Link) → IsWithin p (NextOf (buffer_at (home l.from))) → IsClient v → Within l v.pass.links
      → After (RaiseNext l) b (becomes (RaiseNext l) (found p (RaiseNext l) ws)) (raise_view v l) 0 h
  raise_next b l hw cl d =
      let x : ℕ = found p (RaiseNext l) ws in
      let k : IsLink st l = known first used m vs st h r.whole.basis id v at l d in
      let z = raised_words l k hw x refl in
      let w = raise_whole p first used m vs st h r.whole id v at (client v) cl l d in (
        w.0,
        stepped p first used ws vs st h r id v at (NextOf (buffer_at (home l.from))) Flushed (max x (linked l.from l.to)) hw tt z.1 (raise_view v l) (record { role = refl; pool = refl; map = refl; used = refl; plan = refl }) w.0 h (λ c j e. sym (w.2 c) ∙ e) (λ z e q. q)
            (subst (λ (q : Mem). Whole p first used q (renewed vs id (raise_view v l)) w.0 h) (sym z.0) w.1) b (act_of (RaiseNext l) x) 0,
      )

  pub store_content : (b : Bool) (t j x : ℕ) → IsWithin p (content_at (home t) j) → IsClient v → Within t v.pass.stock → After (StoreContent t j x) b x (stored_view v t j x) 0 h
  store_content b t j x hw cl own =
      let q = content_buffer p (home t) j hw in
      let hs : HasSide (content_at (home t) j) Current = content_side (home t) j Current in
      let mem = write_body p ws x (home t) j q.0 q.1 (room (content_at (home t) j) Current hw hs) in (
        st,
        stepped p first used ws vs st h r id v at (content_at (home t) j) Current x hw hs (content_code (home t) j x) (stored_view v t j x) (record { role = refl; pool = refl; map = refl; used = refl; plan = refl }) st h (λ c i e. e) (λ z e q. q)
            (subst (λ (z : Mem). Whole p first used z (renewed vs id (stored_view v t j x)) st h) (sym mem) (store_whole p first used m vs st h r.whole id v at (client v) cl t own j x)) b (act_of (StoreContent t j x) (found p (StoreContent t j x) ws)) 0,
      )

  pub flush_content : (b : Bool) (t j x : ℕ) → IsWithin p (content_at (home t) j) → IsClient v → Within t v.pass.stock → After (FlushContent t j x) b x (flushed_view v t j x) 0 h
  flush_content b t j x hw cl own =
      let q = content_buffer p (home t) j hw in
      let hs : HasSide (content_at (home t) j) Flushed = content_side (home t) j Flushed in
      let mem = write_fbody p ws x (home t) j q.0 q.1 (room (content_at (home t) j) Flushed hw hs) in (
        st,
        stepped p first used ws vs st h r id v at (content_at (home t) j) Flushed x hw hs (content_code (home t) j x) (flushed_view v t j x) (record { role = refl; pool = refl; map = refl; used = refl; plan = refl }) st h (λ c i e. e) (λ z e q. q)
            (subst (λ (z : Mem). Whole p first used z (renewed vs id (flushed_view v t j x)) st h) (sym mem) (flush_whole p first used m vs st h r.whole id v at (client v) cl t own j x)) b (act_of (FlushContent t j x) (found p (FlushContent t j x) ws)) 0,
      )

  pub load_content : (b : Bool) (s t j : ℕ) → IsWithin p (content_at (home t) j) → IsClient v → Within (s, t) v.pass.durable → After (LoadContent s t j) b (found p (LoadContent s t j) ws) (learned (LoadContent s t j) h v (found p (LoadContent s t j) ws)) 0 h
  load_content b s t j hw cl d =
      let q = content_buffer p (home t) j hw in
      let x : ℕ = found p (LoadContent s t j) ws in
      quiet_step (LoadContent s t j) (content_side (home t) j Current) hw b (learned (LoadContent s t j) h v x) (record { role = refl; pool = refl; map = refl; used = refl; plan = refl }) (λ z q. q) 0 h
      (subst (λ (z : ℕ). Whole p first used m (renewed vs id (record v { pass = record v.pass { copied = (s, record { tag = t; place = j; word = z }) ∷ v.pass.copied } })) st h) (read_body p ws (home t) j q.0 q.1) (copied_whole p first used m vs st h r.whole id v at cl s t j d))

  pub read_slot : (b : Bool) (a : Step) (s : ℕ) → HasSide (word_of a) (side_of a) → IsWithin p (word_of a) → IsClient v → ((t : ℕ) → root_of (found p a ws) ≡ Some t → Durable st s t) → After a b (found p a ws) (started s v (root_of (found p a ws))) 0 h
  read_slot b a s hs hw cl f = quiet_step a hs hw b (started s v (root_of (found p a ws))) (started_run s v (root_of (found p a ws))) (started_stock s v (root_of (found p a ws))) 0 h (started_whole p first used m vs st h r.whole id v at cl s (root_of (found p a ws)) f)

  pub store_short : (b : Bool) (s t : ℕ) → s < p.slots → IsClient v → Within (s, t) v.pass.durable → After (StoreShort s t) b (root_code (Some t)) v 0 h
  store_short b s t hw cl d =
      let mem : mem_of p (slice_set ws (address_of p (Short s) Current) (root_code (Some t))) ≡ record m { short = upd m.short s (Some t) } =
      write_short p ws (root_code (Some t)) s hw (room (Short s) Current hw tt) ∙ ap (λ (q : Option ℕ). record m { short = upd m.short s q }) (root_again (Some t)) in (
        st,
        stepped p first used ws vs st h r id v at (Short s) Current (root_code (Some t)) hw tt (ap root_code (root_again (Some t))) v (same_self v) st h (λ c i e. e) (λ z e q. q)
            (subst (λ (z : Mem). Whole p first used z (renewed vs id v) st h) (sym mem) (lead_whole p first used m vs st h r.whole id v at cl s t d)) b (act_of (StoreShort s t) (found p (StoreShort s t) ws)) 0,
      )

  pub read_count : (b : Bool) → IsClient v → After ReadCount b (found p ReadCount ws) (counts v (found p ReadCount ws)) 0 h
  read_count b cl = quiet_step ReadCount tt tt b (counts v (found p ReadCount ws)) (record { role = refl; pool = refl; map = refl; used = refl; plan = refl }) (λ z q. q) 0 h (counts_whole p first used m vs st h r.whole id v at cl)

  pub absent_count : (b : Bool) (c : Call) → IsClient v → MayMiss c → ((s : ℕ) → Within (s, key_of c) v.pass.names → ⊥)
      → After (AbsentCount c) b (found p (AbsentCount c) ws) (learned (AbsentCount c) h v (found p (AbsentCount c) ws)) 0 (next_history (AbsentCount c) h v (found p (AbsentCount c) ws))
  absent_count b c cl mc away =
      let a : Step = AbsentCount c in
      let x : ℕ = found p a ws in
      by_test x (length v.pass.names) (λ (z : Bool). After a b x (cond z (missed v h c x) (counts v x)) 0 (cond z (h ++ link_entry v (client v) c Absent ∷ []) h))
      (λ e. quiet_step a tt tt b (missed v h c x) (record { role = refl; pool = refl; map = refl; used = refl; plan = refl }) (λ z q. q) 0 (h ++ link_entry v (client v) c Absent ∷ [])
      (let d = miss_does c mc (absent_now p first used m vs st h r.whole id v at (key_of c) away e) in count_whole p first used m vs st h r.whole id v at (key_of c) away e (client v) cl c Absent refl d.0 d.1))
      (λ n. quiet_step a tt tt b (counts v x) (record { role = refl; pool = refl; map = refl; used = refl; plan = refl }) (λ z q. q) 0 h (counts_whole p first used m vs st h r.whole id v at cl))
    where
      miss_does : (c : Call) → MayMiss c → leads (shows first) h (key_of c) ≡ None → (committed c Absent ≡ None) × Permits (leads (shows first) h (key_of c)) (used_by used h) c Absent
      miss_does (Get k) q e = (refl, e)
      miss_does (Delete k) q e = (refl, e)
      miss_does (Swap k y x) q e = (refl, e)
      miss_does (Put k x) q e = absurd q
