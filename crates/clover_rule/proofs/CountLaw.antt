-- A load of the count that equals the length of a copy without the key decides that the key is absent.
use Rattle.std.proofs.Common.{◌≡◌, ℕ, ◌<◌, ◌≤◌, ◌≢◌, List, [], ◌∷◌, ◌++◌, length, true, false, leb, refl, sym, ap, ◌∙◌, ⊎_elim, arith, subst, true≢false}
use Rattle.std.specs.Prelude.{Option, Some, None, max}
use Rattle.std.proofs.lemmas.Bool.Decides.{nat_tests}
use Rattle.clover_words.specs.Tag.{home, age}
use Rattle.clover_map.specs.declared.call.Call.{Call}
use Rattle.clover_map.specs.declared.call.Reply.{Reply}
use Rattle.clover_map.specs.declared.call.Entry.{Entry}
use Rattle.clover_map.specs.History.{key_of}
use Rattle.clover_map.specs.Tagged.{Tagged}
use Rattle.clover_map.specs.Legal.{used_by}
use Rattle.clover_rule.specs.History.{Version, commits_at, entry_key, commit_of, lost_in, committed}
use Rattle.clover_rule.specs.Knowing.{link_entry}
use Rattle.clover_rule.specs.Lists.{Each, nth, Within}
use Rattle.clover_rule.specs.Memory.{gen, Mem}
use Rattle.clover_rule.specs.Server.{Whole, Stage, unnamed}
use Rattle.clover_rule.specs.Story.{Story, tag_in_version, unsure}
use Rattle.clover_rule.specs.Views.{ViewOk, Basis, renewed}
use Rattle.clover_rule.specs.declared.view.Role.TheVariants.{Client}
use Rattle.clover_rule.specs.declared.view.ServerTask.{ServerTask}
use Rattle.clover_rule.specs.declared.view.ServerTask.TheVariants.{Idle, Storing, Rooted, Waiting, Loaded, Raised, Led, Both, Exchanged}
use Rattle.clover_rule.specs.declared.view.View.{View}
use Rattle.clover_words.specs.declared.pool.Pool.{Pool}
use Rattle.clover_rule.proofs.Tools.{each_both}
use Rattle.clover_rule.proofs.KeyMaps.{leads, shows}
use Rattle.clover_rule.proofs.TaggedMaps.{Permits, new_none}
use Rattle.clover_rule.proofs.Tools.{nth_within}
use Rattle.clover_rule.proofs.Snocs.{within_nth, within_commits, within_back, each_used}
use Rattle.clover_rule.proofs.AbsentLaw.{same_option, absent_map, whole_prefix}
use Rattle.clover_rule.proofs.Uncommitted.{answered, answered_rule}
use Rattle.clover_rule.proofs.ClientSteps.{client_whole}

module _ (l : Pool) (m0 : Tagged) (used : List ℕ) (m : Mem) (vs : List View) (st : Story) (h : List Entry) (w : Whole l m0 used m vs st h)
    (id : ℕ) (v : View) (at : nth vs id ≡ Some v) (k : List ℕ) (missing : (s : ℕ) → Within (s, k) v.pass.names → ⊥) (found : m.count ≡ length v.pass.names) where
  abbrev r : Basis m0 used m vs st h
  r = w.basis

  ok : ViewOk m st h id v
  ok = r.views id v at

  -- the map has nothing at the key
  pub absent_now : leads (shows m0) h k ≡ None
  absent_now = absent_map m st st.slot_named m0 used h v.pass.names k w.help.naming r.tale ok.named.names found missing

  all_named : st.bindings ≡ v.pass.names
  all_named = whole_prefix v.pass.names st.bindings ok.named.names (sym w.help.naming.counted ∙ found)

  -- where the key is being bound, its slot has the tombstone alone, which is durable
  alone : (T : ServerTask) → Stage l m st T → (s : ℕ) → unnamed T ≡ Some s → length (st.log s) ≡ 1
  alone (Rooted bind) g s1 e = let q : bind.slot ≡ s1 = cc in ap (λ (j : ℕ). length (st.log j)) (sym q) ∙ g.here.0.alone
  alone (Waiting bind) g s1 e = let q : bind.slot ≡ s1 = cc in ap (λ (j : ℕ). length (st.log j)) (sym q) ∙ g.here.0.alone
  alone Idle g s1 e = absurd cc
  alone (Storing bind n) g s1 e = absurd cc
  alone (Loaded cycle) g s1 e = absurd cc
  alone (Raised cycle) g s1 e = absurd cc
  alone (Led cycle) g s1 e = absurd cc
  alone (Both cycle) g s1 e = absurd cc
  alone (Exchanged cycle) g s1 e = absurd cc

  unread_after : (x1 : Entry) → Within x1 h → lost_in (unsure st) (commit_of x1) ≡ true → k ≢ entry_key x1
  unread_after x1 in_h q f = go (commit_of x1) refl q (sym f)
    where
      go : (o : Option Version) → commit_of x1 ≡ o → lost_in (unsure st) o ≡ true → entry_key x1 ≡ k → ⊥
      go None c q f = true≢false (sym q)
      go (Some y) c q f = bound (same_option (st.keys (st.slot_named k)) k)
        where
          a : Within y (commits_at k h)
          a = subst (λ (j : List ℕ). Within y (commits_at j h)) f (within_commits h x1 y in_h c)

          bound : Dec (st.keys (st.slot_named k) ≡ Some k) → ⊥
          bound (no d) = subst (Within y) (r.tale.unbound k (λ s z. d (ap st.keys (w.help.naming.found s k z) ∙ z))).1 a
          bound (yes z) = ⊎_elim (λ e. missing (st.slot_named k) (subst (Within (st.slot_named k, k)) all_named (w.help.naming.listed (st.slot_named k) k z e)))
              (λ e. let b : Within y (st.log (st.slot_named k)) = subst (Within y) (sym (r.tale.told (st.slot_named k) k z)) (within_back y (st.first (st.slot_named k)) (commits_at k h) a) in
              let d = within_nth y (st.log (st.slot_named k)) b in
              let g = r.core.spotted (st.slot_named k) d.0 y.tag (ap tag_in_version d.1) in
              let n1 = nth_within (st.log (st.slot_named k)) d.0 y d.1 in let n2 = alone st.task w.help.stage (st.slot_named k) e in let n3 = r.core.rooted (st.slot_named k) (omega arith) in
              let test : leb (st.sure (st.slot_named k)) d.0 ≡ false = grind (arith, nat_tests) in
              true≢false (sym q ∙ ap (λ (j : ℕ). leb (st.sure j) (st.rank y.tag)) g.0 ∙ ap (leb (st.sure (st.slot_named k))) g.1 ∙ test))
              (w.help.stage.names (st.slot_named k) k z)

  abbrev counted_view : ℕ → Call → Reply → View
  counted_view n call reply = answered v h n v.pass.words (max v.pass.most m.count) call reply

  pub count_whole : (n : ℕ) → v.pass.role ≡ Client n → (call : Call) (reply : Reply) → key_of call ≡ k → committed call reply ≡ None → Permits (leads (shows m0) h k) (used_by used h) call reply
      → Whole l m0 used m (renewed vs id (counted_view n call reply)) st (h ++ link_entry v n call reply ∷ [])
  count_whole n role call reply nm cm does = client_whole l m0 used m vs st h w id v (counted_view n call reply) at n role refl m st (h ++ link_entry v n call reply ∷ [])
      (answered_rule m0 used m vs st h r id v at n role k unread_after v.pass.words ok.knows.words (max v.pass.most m.count) (let q = ok.named.most in omega arith) call reply nm cm does) w.help (λ sv e. e)
      (each_used (λ (x : ℕ). (age x < l.wear) × (age x ≤ gen (m.fnext (home x)))) used h (link_entry v n call reply) w.safe (subst (Each (λ (x : ℕ). (age x < l.wear) × (age x ≤ gen (m.fnext (home x))))) (sym (new_none (leads (shows m0) h k) (used_by used h) call reply does cm)) tt))
      (λ cs a b. each_both (λ (x : Entry). Within x.client cs) h (link_entry v n call reply ∷ []) b (a, tt))
