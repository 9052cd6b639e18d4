-- The deciding steps of put, delete and swap over the whole rule.
use Rattle.std.proofs.Common.{◌≡◌, ℕ, suc, ◌<◌, ◌≤◌, ◌≢◌, List, [], ◌∷◌, ◌++◌, refl, sym, ap, ◌∙◌, arith, subst}
use Rattle.std.specs.Prelude.{Option, Some, None}
use Rattle.clover_words.specs.Meta.{tombstone, meta_word}
use Rattle.clover_words.specs.Tag.{home, age}
use Rattle.clover_map.specs.declared.bytes.Value.{Value}
use Rattle.clover_map.specs.declared.call.Entry.{Entry}
use Rattle.clover_map.specs.declared.call.Call.{Call}
use Rattle.clover_map.specs.declared.call.Call.TheVariants.{Delete, Get, Swap}
use Rattle.clover_map.specs.declared.call.Call.TheVariants.{Put}
use Rattle.clover_map.specs.declared.call.Reply.{Reply}
use Rattle.clover_map.specs.declared.call.Reply.TheVariants.{Absent, Deleted, Differs, Stored}
use Rattle.clover_map.specs.History.{key_of}
use Rattle.clover_map.specs.Does.{held}
use Rattle.clover_map.specs.declared.call.Reply.TheVariants.{Found}
use Rattle.clover_map.specs.Tagged.{Tagged}
use Rattle.clover_map.specs.Tags.{IsFresh}
use Rattle.clover_rule.specs.Changes.{linked_mem, linked_story}
use Rattle.clover_rule.specs.Content.{Fits, value_meta}
use Rattle.clover_map.specs.Legal.{used_by}
use Rattle.clover_rule.specs.History.{Version, committed, pair_of, paired}
use Rattle.clover_rule.specs.Knowing.{MayLink, link_entry, link_view, SawValue, SawTombstone, CopiedValue}
use Rattle.clover_rule.specs.Lists.{Each, nth, Within}
use Rattle.clover_rule.specs.Memory.{word, gen, Mem}
use Rattle.clover_rule.specs.Server.{Ready, Whole}
use Rattle.clover_rule.specs.Story.{Loose, Story}
use Rattle.clover_rule.specs.Views.{Basis, renewed}
use Rattle.clover_rule.specs.declared.view.Role.TheVariants.{Client}
use Rattle.clover_rule.specs.declared.view.View.{View}
use Rattle.clover_words.specs.declared.pool.Pool.{Pool}
use Rattle.clover_words.specs.declared.meta.Kind.TheVariants.{Value as IsValue}
use Rattle.clover_rule.proofs.Tools.{each_both}
use Rattle.clover_rule.proofs.KeyMaps.{tag_in, leads, shows}
use Rattle.clover_rule.proofs.TaggedMaps.{Permits, new_some, new_none}
use Rattle.clover_rule.proofs.Spelling.{meta_dead, meta_live, first_word, read_content}
use Rattle.clover_rule.proofs.Commit.{can as commit_can, grows as commit_grows, rule' as commit_rule, owned as commit_owned, slot_bound as commit_bound, tail_durable as commit_durable}
use Rattle.clover_rule.proofs.Decide.{version, tail_durable, map_at, copied_word, decide_rule, decided_view}
use Rattle.clover_rule.proofs.ClientSteps.{client_whole, link_help, link_serves}
use Rattle.clover_rule.proofs.Snocs.{each_used}

tag_of_pair : (w : Version) (x : Value) → w.value ≡ Some x → tag_in (pair_of w) ≡ Some w.tag
tag_of_pair w x e = rw e refl

module _ (l : Pool) (m0 : Tagged) (used : List ℕ) (m : Mem) (vs : List View) (st : Story) (h : List Entry) (w : Whole l m0 used m vs st h) (id : ℕ) (v : View) (at : nth vs id ≡ Some v) where
  abbrev r : Basis m0 used m vs st h
  r = w.basis

  -- any deciding exchange
  pub commit_whole : (n s : ℕ) (k : List ℕ) (u t : ℕ) (y : Option Value) (call : Call) (reply : Reply) (rest : List ℕ) → MayLink v n s k u t y rest → key_of call ≡ k → committed call reply ≡ Some (record { tag = t; value = y }) → (IsFresh (used_by used h) t → Permits (leads (shows m0) h k) (used_by used h) call reply)
      → Fits l y → m.next (home u) ≡ word (age u) None
      → Whole l m0 used (linked_mem m u t) (renewed vs id (link_view v h n s u t call reply rest)) (linked_story st s (record { tag = t; value = y })) (h ++ link_entry v n call reply ∷ [])
  commit_whole n s k u t y call reply rest p nm cm does fits found =
      let c = commit_can m0 used m vs st h r id v at n s k u t y call reply rest p nm cm does found in
      let o = commit_owned m0 used m vs st h r id v at n s k u t y call reply rest p nm cm does found in
      let i = (commit_durable m0 used m vs st h r id v at n s k u t y call reply rest p nm cm does found).0 in
      let lo = r.core.loose (home t) (subst Loose (sym o.0) tt) in
      let rg = w.help.ranged.ready (home t) (subst Ready (sym o.0) tt) in
      let key = (commit_bound m0 used m vs st h r id v at n s k u t y call reply rest p nm cm does found).0 in
      let g = commit_grows m0 used m vs st h r id v at n s k u t y call reply rest p nm cm does found in
      client_whole l m0 used m vs st h w id v (link_view v h n s u t call reply rest) at n p.client refl (linked_mem m u t) (linked_story st s (record { tag = t; value = y })) (h ++ link_entry v n call reply ∷ [])
      (commit_rule m0 used m vs st h r id v at n s k u t y call reply rest p nm cm does found)
      (link_help l m st r.core w.help s u i id (record { tag = t; value = y }) c k key fits h (h ++ link_entry v n call reply ∷ []) g)
      (link_serves l m st r.core w.help s u i id (record { tag = t; value = y }) c k key fits h (h ++ link_entry v n call reply ∷ []) g)
      (each_used (λ (x : ℕ). (age x < l.wear) × (age x ≤ gen (m.fnext (home x)))) used h (link_entry v n call reply) w.safe (subst (Each (λ (x : ℕ). (age x < l.wear) × (age x ≤ gen (m.fnext (home x))))) (sym (new_some call reply (record { tag = t; value = y }) cm)) ((let a = o.1 in let b = rg.1 in omega arith, let a = o.1 in let b = ap gen lo.1 in omega arith), tt)))
      (λ cs a b. each_both (λ (e : Entry). Within e.client cs) h (link_entry v n call reply ∷ []) b (a, tt))

  -- what the tail's meta word says of the map
  live_map : (s : ℕ) (k : List ℕ) (u : ℕ) (tail : Within (s, u) v.pass.durable) (name : Within (s, k) v.pass.names) (found : m.next (home u) ≡ word (age u) None) → SawValue v s u → tag_in (leads (shows m0) h k) ≡ Some u
  live_map s k u tail name found q = let x = version m0 used m vs st h r id v at s k u tail name found in
      let a = meta_live x.0.value q.flags q.size q.flags_fit q.size_fits (let y = first_word x.0.value in y.1 ∙ ap Some (copied_word m0 used m vs st h r id v at s k u tail name found 0 (meta_word (record { kind = IsValue; flags = q.flags; length = q.size })) y.0 q.copied y.1)) in
      ap tag_in (map_at m0 used m vs st h r id v at s k u tail name found) ∙ tag_of_pair x.0 a.0 a.1 ∙ ap Some x.2

  dead_map : (s : ℕ) (k : List ℕ) (u : ℕ) (tail : Within (s, u) v.pass.durable) (name : Within (s, k) v.pass.names) (found : m.next (home u) ≡ word (age u) None) → SawTombstone v s u → leads (shows m0) h k ≡ None
  dead_map s k u tail name found q = let x = version m0 used m vs st h r id v at s k u tail name found in
      map_at m0 used m vs st h r id v at s k u tail name found ∙ ap (paired x.0.tag) (meta_dead l x.0.value (w.help.ranged.fits s (tail_durable m0 used m vs st h r id v at s k u tail name found).0 x.0 x.1) (let y = first_word x.0.value in y.1 ∙ ap Some (copied_word m0 used m vs st h r id v at s k u tail name found 0 tombstone y.0 q y.1)))

  -- Stored by a put, Deleted, and Stored by a swap
  pub put_decides : (n s : ℕ) (k : List ℕ) (u t : ℕ) (x : Value) (rest : List ℕ) → MayLink v n s k u t (Some x) rest → Fits l (Some x) → m.next (home u) ≡ word (age u) None
      → Whole l m0 used (linked_mem m u t) (renewed vs id (link_view v h n s u t (Put k x) (Stored t) rest)) (linked_story st s (record { tag = t; value = Some x })) (h ++ link_entry v n (Put k x) (Stored t) ∷ [])
  put_decides n s k u t x rest p fits found = commit_whole n s k u t (Some x) (Put k x) (Stored t) rest p refl refl (λ f. f) fits found

  pub delete_decides : (n s : ℕ) (k : List ℕ) (u t : ℕ) (rest : List ℕ) → MayLink v n s k u t None rest → SawValue v s u → m.next (home u) ≡ word (age u) None
      → Whole l m0 used (linked_mem m u t) (renewed vs id (link_view v h n s u t (Delete k) (Deleted t) rest)) (linked_story st s (record { tag = t; value = None })) (h ++ link_entry v n (Delete k) (Deleted t) ∷ [])
  delete_decides n s k u t rest p q found = commit_whole n s k u t None (Delete k) (Deleted t) rest p refl refl (λ f. ((λ z. absurd (let a = live_map s k u p.tail p.name found q in cc)), f)) tt found

  pub swap_decides : (n s : ℕ) (k : List ℕ) (u t : ℕ) (x : Value) (rest : List ℕ) → MayLink v n s k u t (Some x) rest → SawValue v s u → Fits l (Some x) → m.next (home u) ≡ word (age u) None
      → Whole l m0 used (linked_mem m u t) (renewed vs id (link_view v h n s u t (Swap k u x) (Stored t) rest)) (linked_story st s (record { tag = t; value = Some x })) (h ++ link_entry v n (Swap k u x) (Stored t) ∷ [])
  swap_decides n s k u t x rest p q fits found = commit_whole n s k u t (Some x) (Swap k u x) (Stored t) rest p refl refl (λ f. (live_map s k u p.tail p.name found q, f)) fits found

  -- any deciding load at the tail
  module _ (s : ℕ) (k : List ℕ) (u : ℕ) (tail : Within (s, u) v.pass.durable) (name : Within (s, k) v.pass.names) (found : m.next (home u) ≡ word (age u) None) (n : ℕ) (role : v.pass.role ≡ Client n) where
    pub load_whole : (call : Call) (reply : Reply) (nm : key_of call ≡ k) (cm : committed call reply ≡ None) (does : Permits (leads (shows m0) h k) (used_by used h) call reply)
        → Whole l m0 used m (renewed vs id (decided_view m0 used m vs st h r id v at s k u tail name found n call reply)) st (h ++ link_entry v n call reply ∷ [])
    load_whole call reply nm cm does = client_whole l m0 used m vs st h w id v (decided_view m0 used m vs st h r id v at s k u tail name found n call reply) at n role refl m st (h ++ link_entry v n call reply ∷ [])
        (decide_rule m0 used m vs st h r id v at s k u tail name found n role call reply nm cm does) w.help (λ sv e. e)
        (each_used (λ (x : ℕ). (age x < l.wear) × (age x ≤ gen (m.fnext (home x)))) used h (link_entry v n call reply) w.safe (subst (Each (λ (x : ℕ). (age x < l.wear) × (age x ≤ gen (m.fnext (home x))))) (sym (new_none (leads (shows m0) h k) (used_by used h) call reply does cm)) tt))
        (λ cs a b. each_both (λ (e : Entry). Within e.client cs) h (link_entry v n call reply ∷ []) b (a, tt))

    -- Found
    pub found_get : (x : Value) → CopiedValue v s u x → Permits (leads (shows m0) h k) (used_by used h) (Get k) (Found u x)
    found_get x q =
        let y = version m0 used m vs st h r id v at s k u tail name found in
        let fits = w.help.ranged.fits s (tail_durable m0 used m vs st h r id v at s k u tail name found).0 y.0 y.1 in
        let is : y.0.value ≡ Some x = read_content l y.0.value x fits q.flags_fit q.size_fits
        (λ z e. copied_word m0 used m vs st h r id v at s k u tail name found 0 (value_meta x) z q.meta e)
        (λ j b. let a = q.words j b in (a.0, (λ z e. copied_word m0 used m vs st h r id v at s k u tail name found (suc j) a.0 z a.1 e), a.2)) in
        map_at m0 used m vs st h r id v at s k u tail name found ∙ ap (paired y.0.tag) is ∙ ap (λ (t : ℕ). Some (held t x)) y.2

    -- Absent at a tombstone, for get, delete and swap, and Differs
    pub absent_get : SawTombstone v s u → Permits (leads (shows m0) h k) (used_by used h) (Get k) Absent
    absent_get q = dead_map s k u tail name found q

    pub absent_delete : SawTombstone v s u → Permits (leads (shows m0) h k) (used_by used h) (Delete k) Absent
    absent_delete q = dead_map s k u tail name found q

    pub absent_swap : (e : ℕ) (x : Value) → SawTombstone v s u → Permits (leads (shows m0) h k) (used_by used h) (Swap k e x) Absent
    absent_swap e x q = dead_map s k u tail name found q

    pub differs : (e : ℕ) (x : Value) → u ≢ e → SawValue v s u → Permits (leads (shows m0) h k) (used_by used h) (Swap k e x) (Differs u)
    differs e x d q = (live_map s k u tail name found q, d)
