-- What the tail's unlinked next word says of the map, and the law of any deciding load at the tail.
use Rattle.std.proofs.Common.{◌≡◌, ℕ, suc, ◌≤◌, ◌≢◌, List, [], ◌∷◌, ◌++◌, length, true, false, leb, refl, sym, ap, ◌∙◌, inl, ⊎_elim, arith, subst, true≢false}
use native.Mathlib.Decide.{dec_le}
use mathlib.Core.Logic.{dite}
use Rattle.std.specs.Prelude.{Option, Some, None}
use Rattle.std.proofs.lemmas.Bool.Decides.{nat_tests}
use Rattle.clover_words.specs.Tag.{home, age}
use Rattle.clover_map.specs.declared.call.Call.{Call}
use Rattle.clover_map.specs.declared.call.Reply.{Reply}
use Rattle.clover_map.specs.declared.call.Entry.{Entry}
use Rattle.clover_map.specs.declared.bytes.Held.{Held}
use Rattle.clover_map.specs.History.{key_of}
use Rattle.clover_map.specs.Tagged.{Tagged}
use Rattle.clover_rule.specs.Content.{content}
use Rattle.clover_map.specs.Legal.{used_by}
use Rattle.clover_rule.specs.History.{pair_of, Version, commits_at, ends, entry_key, commit_of, lost_in, committed}
use Rattle.clover_rule.specs.Knowing.{link_entry}
use Rattle.clover_rule.specs.Lists.{nth, Within}
use Rattle.clover_rule.specs.Memory.{word, gen, Mem}
use Rattle.clover_rule.specs.Story.{Story, tag_in_version, tag_at, Durable, unsure}
use Rattle.clover_rule.specs.Views.{IsCopied, ViewOk, Basis, renewed, shown}
use Rattle.clover_rule.specs.declared.view.Role.TheVariants.{Client}
use Rattle.clover_rule.specs.declared.view.View.{View}
use Rattle.clover_rule.proofs.KeyMaps.{leads, shows}
use Rattle.clover_rule.proofs.TaggedMaps.{Permits}
use Rattle.clover_rule.proofs.Histories.{ends_more, ends_last}
use Rattle.clover_rule.proofs.Tools.{nth_within}
use Rattle.clover_rule.proofs.Uncommitted.{answered, answered_rule}
use Rattle.clover_rule.proofs.Standings.{tag_there, tag_within, tag_past}
use Rattle.clover_rule.proofs.Histories.{leads_commits}
use Rattle.clover_rule.proofs.Snocs.{within_nth, within_commits, within_back}
use Rattle.clover_rule.proofs.Steps.{each_within, within_prefix}

module _ (m0 : Tagged) (used : List ℕ) (m : Mem) (vs : List View) (st : Story) (h : List Entry) (r : Basis m0 used m vs st h)
    (id : ℕ) (v : View) (at : nth vs id ≡ Some v) (s : ℕ) (k : List ℕ) (t : ℕ) (tail : Within (s, t) v.pass.durable) (name : Within (s, k) v.pass.names) (found : m.next (home t) ≡ word (age t) None) where
  pub ok : ViewOk m st h id v
  ok = r.views id v at

  pub tail_durable : Durable st s t
  tail_durable = each_within (λ (q : ℕ × ℕ). Durable st q.0 q.1) (s, t) v.pass.durable ok.knows.durable tail

  abbrev i : ℕ
  i = tail_durable.0

  pub slot_bound : (st.keys s ≡ Some k) × (st.named s ≡ true)
  slot_bound = r.bound s k (subst (Within (s, k)) (sym ok.named.names.1) (within_prefix (s, k) v.pass.names ok.named.names.0 name))

  pub stands : st.gone s ≤ i
  stands = dite (dec_le (st.gone s) i) (λ d. d) (λ d. let q = (r.core.passed s i t tail_durable.1 (omega arith)).later in let f = ap gen found in absurd (omega arith))

  pub last : length (st.log s) ≡ suc i
  last = let q = r.core.standing s i t tail_durable.1 stands in let f : tag_at st s (suc i) ≡ None = cc (q.now, found) in let a = tag_past st s (suc i) f in let b = tag_within st s i t tail_durable.1 in omega arith

  pub sure_all : st.sure s ≡ suc i
  sure_all = let a = r.core.sure_most s in let b = last in let c = tail_durable.2 in omega arith

  pub version : (w : Version) × (nth (st.log s) i ≡ Some w) × (w.tag ≡ t)
  version = tag_there st s i t tail_durable.1

  -- a word copied under the tail is its version's
  pub copied_word : (j y z : ℕ) → Within (s, record { tag = t; place = j; word = y }) v.pass.copied → nth (content version.0.value) j ≡ Some z → z ≡ y
  copied_word j y z q there = go (each_within (IsCopied st) (s, record { tag = t; place = j; word = y }) v.pass.copied ok.knows.copied q)
    where
      go : IsCopied st (s, record { tag = t; place = j; word = y }) → z ≡ y
      go d =
          let q = r.core.spotted s i t tail_durable.1 in
          let q2 = r.core.spotted s d.0 t (ap tag_in_version d.2 ∙ ap Some d.3) in
          let f : d.0 ≡ i = sym q2.1 ∙ q.1 in
          let g : d.1 ≡ version.0 = let a : Some d.1 ≡ Some version.0 = sym d.2 ∙ ap (nth (st.log s)) f ∙ version.1 in cc in
          ⊎_elim (λ a. a z (ap (λ (w : Version). nth (content w.value) j) g ∙ there)) (λ a. let b = stands in absurd (omega arith)) d.4

  pub map_at : leads (shows m0) h k ≡ pair_of version.0
  map_at = leads_commits (shows m0) h k ∙ ap (λ (y : Option Held). ends y (commits_at k h)) (sym (r.tale.began s k slot_bound.0)) ∙ sym (ends_more None (st.first s) (commits_at k h)) ∙ ap (ends None) (sym (r.tale.told s k slot_bound.0)) ∙ ends_last None (st.log s) i version.0 version.1 last

  -- behind an unflushed commit nobody reads: this entry's slot has none
  unread_after : (x1 : Entry) → Within x1 h → lost_in (unsure st) (commit_of x1) ≡ true → k ≢ entry_key x1
  unread_after x1 in_h q f = go (commit_of x1) refl q (sym f)
    where
      go : (o : Option Version) → commit_of x1 ≡ o → lost_in (unsure st) o ≡ true → entry_key x1 ≡ k → ⊥
      go None c q f = true≢false (sym q)
      go (Some y) c q f =
          let a : Within y (commits_at k h) = subst (λ (j : List ℕ). Within y (commits_at j h)) f (within_commits h x1 y in_h c) in
          let b : Within y (st.log s) = subst (Within y) (sym (r.tale.told s k slot_bound.0)) (within_back y (st.first s) (commits_at k h) a) in
          let d = within_nth y (st.log s) b in
          let g = r.core.spotted s d.0 y.tag (ap tag_in_version d.1) in
          let z = nth_within (st.log s) d.0 y d.1 in let z2 = last in let z3 = sure_all in
          let test : leb (st.sure s) d.0 ≡ false = grind (arith, nat_tests) in
          true≢false (sym q ∙ ap (λ (j : ℕ). leb (st.sure j) (st.rank y.tag)) g.0 ∙ ap (leb (st.sure s)) g.1 ∙ test)

  -- the load of the tail's unlinked word
  abbrev pub decided_view : ℕ → Call → Reply → View
  decided_view n call reply = answered v h n (shown (home t) (age t) None ∷ v.pass.words) v.pass.most call reply

  pub decide_rule : (n : ℕ) → v.pass.role ≡ Client n → (call : Call) (reply : Reply) → key_of call ≡ k → committed call reply ≡ None → Permits (leads (shows m0) h k) (used_by used h) call reply
      → Basis m0 used m (renewed vs id (decided_view n call reply)) st (h ++ link_entry v n call reply ∷ [])
  decide_rule n role = answered_rule m0 used m vs st h r id v at n role k unread_after (shown (home t) (age t) None ∷ v.pass.words) ((let a = ap gen found in omega arith, inl refl), ok.knows.words) v.pass.most ok.named.most
