-- A client's load that decides its call with a reply that commits nothing: the entry joins the history, and the
-- view has what the load taught it, next words or the count.
use Rattle.std.proofs.Common.{◌≡◌, ℕ, ◌≤◌, ◌≢◌, ◌⊎◌, List, [], ◌∷◌, ◌++◌, append-nil, Bool, true, false, cond, refl, sym, ap, ◌∙◌, inl, inr, arith, subst}
use Rattle.std.specs.Prelude.{Option, Some, None}
use Rattle.clover_map.specs.declared.call.Call.{Call}
use Rattle.clover_map.specs.declared.call.Reply.{Reply}
use Rattle.clover_map.specs.declared.call.Entry.{Entry}
use Rattle.std.specs.Str.{bytes_eq}
use Rattle.clover_map.specs.History.{key_of}
use Rattle.clover_map.proofs.Parts.{own_push, own_push_other}
use Rattle.clover_map.specs.Tagged.{Tagged}
use Rattle.clover_map.specs.Legal.{used_by}
use Rattle.std.specs.List.{cons_option}
use Rattle.clover_rule.specs.History.{Version, commits_at, entry_key, commit_of, lost_in, committed}
use Rattle.clover_rule.specs.Knowing.{link_entry}
use Rattle.clover_rule.specs.Lists.{Each, nth, Within}
use Rattle.clover_rule.specs.Memory.{word, Mem}
use Rattle.clover_rule.specs.Story.{Story, Tale, unsure}
use Rattle.clover_rule.specs.Views.{OwnCalls, Past, ViewOk, Spent, Basis, renewed}
use Rattle.clover_rule.specs.declared.view.Role.{Role}
use Rattle.clover_rule.specs.declared.view.Role.TheVariants.{Client}
use Rattle.clover_rule.specs.declared.view.Shown.{Shown}
use Rattle.clover_rule.specs.declared.view.View.{View}
use Rattle.clover_rule.proofs.KeyMaps.{leads, shows}
use Rattle.clover_rule.proofs.TaggedMaps.{Permits, new_none}
use Rattle.clover_rule.proofs.Histories.{legal_snoc, commits_snoc, commits_first}
use Rattle.clover_rule.proofs.Snocs.{unread_snoc, each_used}
use Rattle.clover_rule.proofs.Steps.{prefix_self, Grows, view_kept, nth_set, set_here, role_was}

-- the view of a client that loaded this, and counts the call among its own the and history's
abbrev pub answered : View → List Entry → ℕ → List Shown → ℕ → Call → Reply → View
answered v h n words most call reply = record v {
  pass = record v.pass { calls = v.pass.calls ++ link_entry v n call reply ∷ []; history = h ++ link_entry v n call reply ∷ []; words = words; most = most };
}

module _ (m0 : Tagged) (used : List ℕ) (m : Mem) (vs : List View) (st : Story) (h : List Entry) (r : Basis m0 used m vs st h) (id : ℕ) (v : View) (at : nth vs id ≡ Some v) (n : ℕ) (role : v.pass.role ≡ Client n)
    (k : List ℕ) (unread_after : (x : Entry) → Within x h → lost_in (unsure st) (commit_of x) ≡ true → k ≢ entry_key x)
    (words : List Shown) (words_ok : Each (λ (p : Shown). Past m st p.buffer (word p.own p.link)) words) (most : ℕ) (most_ok : most ≤ m.count)
    (call : Call) (reply : Reply) (nm : key_of call ≡ k) (cm : committed call reply ≡ None) (does : Permits (leads (shows m0) h k) (used_by used h) call reply) where
  ok : ViewOk m st h id v
  ok = r.views id v at

  abbrev e : Entry
  e = link_entry v n call reply

  abbrev h' : List Entry
  h' = h ++ e ∷ []

  abbrev v' : View
  v' = answered v h n words most call reply

  none_more : (k1 : List ℕ) → commits_at k1 (e ∷ []) ≡ []
  none_more k1 = commits_first k1 e [] ∙ ap (λ (o : Option Version). cond (bytes_eq (key_of call) k1) (cons_option o []) []) cm ∙ both (bytes_eq (key_of call) k1)
    where
      both : (b : Bool) → ◌≡◌ {A = List Version} (cond b (cons_option None []) []) []
      both true = refl
      both false = refl

  told' : (s1 : ℕ) (k1 : List ℕ) → st.keys s1 ≡ Some k1 → st.log s1 ≡ st.first s1 ++ commits_at k1 h'
  told' s1 k1 q = r.tale.told s1 k1 q ∙ ap (λ (ws : List Version). st.first s1 ++ ws) (sym (commits_snoc k1 h e ∙ ap (λ (ws : List Version). commits_at k1 h ++ ws) (none_more k1) ∙ append-nil (commits_at k1 h)))

  tale' : Tale st m0 used h'
  tale' = record {
    legal = legal_snoc m0 used h e r.tale.legal (subst (λ (j : List ℕ). Permits (leads (shows m0) h j) (used_by used h) call reply) (sym nm) does);
    told = told';
    began = r.tale.began;
    unread = unread_snoc (unsure st) (unsure st) h e r.tale.unread (λ x1 a b. (b, λ q. unread_after x1 a b (sym nm ∙ q)));
    settled = r.tale.settled;
    unbound = λ k1 f. let z = r.tale.unbound k1 f in (z.0, commits_snoc k1 h e ∙ ap (λ (ws : List Version). commits_at k1 h ++ ws) (none_more k1) ∙ append-nil (commits_at k1 h) ∙ z.1);
  }

  grows : Grows m st h m st h'
  grows = record { versions = λ s1 i1 w1 q. q; sure = λ j. omega arith; gone = λ j. omega arith; gens = λ b. omega arith; names = prefix_self st.bindings; count = omega arith; history = (e ∷ [], refl) }

  new_ok : ViewOk m st h' id v'
  new_ok = record {
    stocked = ok.stocked;
    apart = ok.apart;
    knows = record { durable = ok.knows.durable; links = ok.knows.links; words = words_ok; copied = ok.knows.copied };
    written = ok.written;
    flushed = ok.flushed;
    named = record { names = ok.named.names; added = ok.named.added; most = most_ok };
    history = prefix_self h';
    calls = subst (λ (o : Role). OwnCalls o v.pass.calls h → OwnCalls o (v.pass.calls ++ e ∷ []) h') (sym role) (λ q. ap (λ (xs : List Entry). xs ++ e ∷ []) q ∙ sym (own_push h e)) ok.calls;
  }

  views' : (i1 : ℕ) (v1 : View) → nth (renewed vs id v') i1 ≡ Some v1 → ViewOk m st h' i1 v1
  views' i1 v1 q = go (nth_set vs id i1 v' v1 q)
    where
      go : ((i1 ≡ id) × (v' ≡ v1)) ⊎ ((i1 ≢ id) × (nth vs i1 ≡ Some v1)) → ViewOk m st h' i1 v1
      go (inl a) = rw (a.0, ← a.1) new_ok
      go (inr a) = view_kept m st h m st h' grows i1 v1 (λ b o. record { place = o; next = refl; body = λ y. refl; fbody = λ y. refl })
          (λ c f. own_push_other h e c (λ g. a.0 (r.numbered i1 id n v1 v a.1 at (f ∙ ap Client (sym g)) role))) (r.views i1 v1 a.1)

  pub answered_rule : Basis m0 used m (renewed vs id v') st h'
  answered_rule = record {
    core = r.core;
    tale = tale';
    bodies = r.bodies;
    spent = each_used (Spent m st) used h e r.spent (subst (Each (Spent m st)) (sym (new_none (leads (shows m0) h k) (used_by used h) call reply does cm)) tt);
    bound = r.bound;
    keyed = r.keyed;
    views = views';
    numbered = λ i1 j1 c a b qa qb ra rb. let x1 = role_was vs id v v' at refl i1 a qa in let y1 = role_was vs id v v' at refl j1 b qb in r.numbered i1 j1 c x1.0 y1.0 x1.1 y1.1 (x1.2 ∙ ra) (y1.2 ∙ rb);
    longest = (id, v', set_here vs id v' v at, refl);
  }
