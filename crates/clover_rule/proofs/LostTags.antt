-- The tags that an image of a cut has lost are those that end a slot's chain in the current copies and not in the image.
use Rattle.std.proofs.Common.{◌≡◌, ◌≢◌, ℕ, zero, suc, ◌<◌, ◌≤◌, ◌⊎◌, List, [], ◌∷◌, ◌++◌, length, nat_lt, Bool, true, false, cond, leb, ◌&&◌, refl, sym, ap, ◌∙◌, inl, inr, ⊎_elim, arith, subst, true≢false}
use Rattle.std.specs.List.{cons_option}
use Rattle.std.specs.Prelude.{Option, Some, None, slice_index}
use Rattle.std.specs.Str.{bytes_eq}
use Rattle.std.proofs.lemmas.Bool.Decides.{nat_tests}
use Rattle.std.proofs.lemmas.List.{get_or-take, length-take-le}
use Rattle.std.proofs.lemmas.Option.{same_Some}
use Rattle.clover_words.specs.declared.pool.Pool.{Pool}
use Rattle.clover_words.specs.declared.word.Word.TheVariants.{Next as NextOf, Root}
use Rattle.clover_words.specs.Place.{durable_words, place, pool_words}
use Rattle.clover_words.specs.Version.{buffer_at}
use Rattle.clover_words.proofs.Places.{durable_below}
use Rattle.clover_map.specs.declared.call.Entry.{Entry}
use Rattle.clover_map.specs.Tagged.{Tagged}
use Rattle.clover_rule.specs.Content.{inside}
use Rattle.clover_rule.specs.Cut.{IsCut, image_of}
use Rattle.clover_rule.specs.History.{Version, commit_of, commits_at, entry_key}
use Rattle.clover_rule.specs.Image.{Image, IsImage, is_none, leads_to, missing, tags}
use Rattle.clover_rule.specs.Lists.{Within, nth}
use Rattle.clover_rule.specs.Marks.{IsCommitted, current_copies, last_tag}
use Rattle.clover_rule.specs.Meets.{Meets}
use Rattle.clover_rule.specs.Memory.{Mem, word}
use Rattle.clover_rule.specs.Sound.{Sound}
use Rattle.clover_rule.specs.Story.{Story, tag_in_version, unsure}
use Rattle.clover_rule.specs.Words.{mem_of, next_of, root_of}
use Rattle.clover_rule.specs.declared.view.View.{View}
use Rattle.clover_rule.proofs.AbsentLaw.{same_option}
use Rattle.clover_rule.proofs.ChainEnds.{at_last, current_ends, image_ends, last_at, last_kept, last_left}
use Rattle.clover_rule.proofs.CutImages.{decoded_image}
use Rattle.clover_rule.proofs.Histories.{commits_first}
use Rattle.clover_rule.proofs.Snocs.{within_back, within_commits, within_nth}
use Rattle.clover_rule.proofs.Ties.{below, buffer_in, guard}
use Rattle.clover_rule.proofs.Tools.{nth_within}

-- each commit at a key is that of an entry
committed_by : (k : List ℕ) (h : List Entry) (w : Version) → Within w (commits_at k h) → (e : Entry) × Within e h × (commit_of e ≡ Some w)
committed_by k [] w a = absurd a
committed_by k (x ∷ h) w a = go (committed_by k h w) (bytes_eq (entry_key x) k) (commit_of x) refl (subst (Within w) (commits_first k x h) a)
  where
    Found : Type 0
    Found = (e : Entry) × Within e (x ∷ h) × (commit_of e ≡ Some w)

    later : ((e : Entry) × Within e h × (commit_of e ≡ Some w)) → (e : Entry) × Within e (x ∷ h) × (commit_of e ≡ Some w)
    later q = (q.0, inr q.1, q.2)

    go : (Within w (commits_at k h) → (e : Entry) × Within e h × (commit_of e ≡ Some w)) → (b : Bool) (o : Option Version) → commit_of x ≡ o → Within w (cond b (cons_option o (commits_at k h)) (commits_at k h)) → (e : Entry) × Within e (x ∷ h) × (commit_of e ≡ Some w)
    go rest true None q d = later (rest d)
    go rest true (Some v) q d = ⊎_elim (λ z. (x, inl refl, q ∙ ap Some z)) (λ z. later (rest z)) d
    go rest false o q d = later (rest d)

-- what stands at a place of two lists
nth_parts : (xs ys : List Version) (i : ℕ) (w : Version) → nth (xs ++ ys) i ≡ Some w → (nth xs i ≡ Some w) ⊎ Within w ys
nth_parts [] [] i w e = absurd cc
nth_parts [] (y ∷ ys) zero w e = inr (inl (same_Some y w e))
nth_parts [] (y ∷ ys) (suc i) w e = inr (⊎_elim (λ q. absurd cc) (λ q. inr q) (nth_parts [] ys i w e))
nth_parts (x ∷ xs) ys zero w e = inl e
nth_parts (x ∷ xs) ys (suc i) w e = nth_parts xs ys i w e

-- the current copies are an image of a cut themselves
module _ (p : Pool) (ws : List ℕ) (sized : length ws ≡ pool_words p) where
  current_index : (i : ℕ) → i < durable_words p → slice_index (current_copies p ws) i ≡ slice_index ws i
  current_index i h = get_or-take (durable_words p) ws i 0 h

  pub current_cut : IsCut p ws (current_copies p ws)
  current_cut = record { sized = length-take-le (durable_words p) ws (omega arith); copies = λ w hw hs. inl (current_index (place p w) (durable_below p w hw hs)) }

  current_next : (b : ℕ) → (image_of p (current_copies p ws)).next b ≡ (mem_of p ws).next b
  current_next b = guard (inside p b) _ _ (word 0 None) (λ e. ap next_of (current_index (place p (NextOf (buffer_at b))) (durable_below p (NextOf (buffer_at b)) (buffer_in p b e) tt)))

  current_root : (s : ℕ) → (image_of p (current_copies p ws)).root s ≡ (mem_of p ws).root s
  current_root s = guard (nat_lt s p.slots) _ _ None (λ e. ap root_of (current_index (place p (Root s)) (durable_below p (Root s) (below s p.slots e) tt)))

module _ (p : Pool) (first : Tagged) (used ws : List ℕ) (vs : List View) (st : Story) (h : List Entry) (r : Meets p first used ws vs st h) where
  abbrev m : Mem
  m = mem_of p ws

  -- the key of a commit has a slot
  pub slot_of_commit : (e : Entry) (w : Version) → Within e h → commit_of e ≡ Some w → (s : ℕ) × (st.keys s ≡ Some (entry_key e))
  slot_of_commit e w a b = go (same_option (st.keys (st.slot_named (entry_key e))) (entry_key e))
    where
      go : Dec (st.keys (st.slot_named (entry_key e)) ≡ Some (entry_key e)) → (s : ℕ) × (st.keys s ≡ Some (entry_key e))
      go (yes d) = (st.slot_named (entry_key e), d)
      go (no n) = absurd (subst (Within w) (r.whole.basis.tale.unbound (entry_key e) (λ s z. n (ap st.keys (r.whole.help.naming.found s (entry_key e) z) ∙ z))).1 (within_commits h e w a b))

  -- and the commit stands there
  pub on_log : (e : Entry) (w : Version) → Within e h → commit_of e ≡ Some w → (s : ℕ) → st.keys s ≡ Some (entry_key e) → (i : ℕ) × (nth (st.log s) i ≡ Some w)
  on_log e w a b s k = within_nth w (st.log s) (subst (Within w) (sym (r.whole.basis.tale.told s (entry_key e) k)) (within_back w (st.first s) (commits_at (entry_key e) h) (within_commits h e w a b)))

  -- a version behind the durable ones is a commit of the history
  committed : (s i : ℕ) (w : Version) → nth (st.log s) i ≡ Some w → st.sure s ≤ i → IsCommitted h w.tag
  committed s i w e l = go (st.keys s) refl
    where
      go : (x : Option (List ℕ)) → st.keys s ≡ x → IsCommitted h w.tag
      go None q = absurd (let a = r.whole.help.keyed.bare s q in let b = nth_within (st.log s) i w e in omega arith)
      go (Some k) q = ⊎_elim (λ a. absurd (let b = r.whole.basis.tale.settled s i w a in omega arith)) (λ a. let b = committed_by k h w a in (b.0, w, b.1, b.2, refl))
          (nth_parts (st.first s) (commits_at k h) i w (ap (λ (vs : List Version). nth vs i) (sym (r.whole.basis.tale.told s k q)) ∙ e))

  -- where the chain of a slot ends in the current copies
  now_ends : (here : Sound p (image_of p (current_copies p ws))) (s : ℕ) → last_tag (here.chain s) ≡ last_tag (tags (st.log s))
  now_ends here s = current_ends m st r.whole.basis.core p (image_of p (current_copies p ws)) (current_next p ws r.sized) (current_root p ws r.sized) here s

  module _ (im : List ℕ) (cut : IsCut p ws im) where
    abbrev i : Image
    i = image_of p im

    abbrev is : IsImage m i
    is = decoded_image p ws im cut

    abbrev lost : ℕ → Bool
    lost = missing st i

    lost_unsure : (s j : ℕ) (w : Version) → nth (st.log s) j ≡ Some w → lost w.tag ≡ true → st.sure s ≤ j
    lost_unsure s j w e l =
        let at = r.whole.basis.core.spotted s j w.tag (ap tag_in_version e) in
        let u : leb (st.sure s) j ≡ true = sym (ap (λ (x : ℕ). leb (st.sure x) (st.rank w.tag)) at.0 ∙ ap (leb (st.sure s)) at.1) ∙ front (unsure st w.tag) l in
        grind (arith, nat_tests)
      where
        front : (b : Bool) → b && is_none (leads_to st i (st.slot_of w.tag) (st.rank w.tag)) ≡ true → b ≡ true
        front true q = refl
        front false q = q

    module _ (here : Sound p (image_of p (current_copies p ws))) (there : Sound p i) where
      -- a tag that ends a chain in the current copies and not in the image is lost
      pub ends_lost : (s t u : ℕ) → last_tag (here.chain s) ≡ Some t → last_tag (there.chain s) ≡ Some u → u ≢ t → (lost t ≡ true) × IsCommitted h t
      ends_lost s t u e f n = (gone, stands (at_last None (st.log s) t now))
        where
          now : last_tag (tags (st.log s)) ≡ Some t
          now = sym (now_ends here s) ∙ e

          kept : lost t ≡ false → ⊥
          kept l = ⊎_elim (λ a. n (same_Some u t (sym f ∙ a.chain ∙ sym a.kept ∙ last_left lost None None (st.log s) t (λ z. z) l now))) (λ a. absurd (let z : Some u ≡ None = sym f ∙ a.chain in cc)) (image_ends m st r.whole.basis.core p i is there s)

          gone : lost t ≡ true
          gone = go (lost t) refl
            where
              go : (b : Bool) → lost t ≡ b → lost t ≡ true
              go true q = q
              go false q = absurd (kept q)

          stands : (None ≡ Some t) ⊎ ((j : ℕ) × (w : Version) × (nth (st.log s) j ≡ Some w) × (w.tag ≡ t)) → IsCommitted h t
          stands a = ⊎_elim (λ z. absurd cc) (λ z. subst (IsCommitted h) z.3 (committed s z.0 z.1 z.2 (lost_unsure s z.0 z.1 z.2 (ap lost z.3 ∙ gone)))) a

      -- a commit whose tag is lost ends its slot's chain in the current copies, and another tag does so in the image
      pub lost_ends : (e : Entry) (w : Version) → Within e h → commit_of e ≡ Some w → lost w.tag ≡ true
          → (s : ℕ) × (s < p.slots) × (last_tag (here.chain s) ≡ Some w.tag) × (u : ℕ) × (last_tag (there.chain s) ≡ Some u) × (u ≢ w.tag)
      lost_ends e w a b l =
          let s = slot_of_commit e w a b in
          let j = on_log e w a b s.0 s.1 in
          let low = lost_unsure s.0 j.0 w j.1 l in
          let all = r.whole.basis.core.sure_all s.0 in
          let in_log = nth_within (st.log s.0) j.0 w j.1 in
          let root = r.whole.basis.core.rooted s.0 (omega arith) in
          ⊎_elim (λ q. (
            s.0,
            r.whole.help.keyed.slots s.0 (entry_key e) s.1,
            now_ends here s.0 ∙ last_at None (st.log s.0) j.0 w j.1 (omega arith),
            q.tag,
            q.chain,
            λ z. true≢false (sym l ∙ ap lost (sym z) ∙ last_kept lost None (st.log s.0) q.tag (λ y. absurd cc) q.kept),
          ))
          (λ q. absurd (let few = q.few in omega arith)) (image_ends m st r.whole.basis.core p i is there s.0)

      -- where the image has no chain of a slot with a commit's tag, the slot has that version alone, and it is a tombstone
      pub lone : (s : ℕ) (e : Entry) (w : Version) → last_tag (here.chain s) ≡ Some w.tag → last_tag (there.chain s) ≡ None → Within e h → commit_of e ≡ Some w
          → (st.keys s ≡ Some (entry_key e)) × (length (st.log s) ≤ 1) × (w.value ≡ None)
      lone s e w f g a b =
          let k = slot_of_commit e w a b in
          let j = on_log e w a b k.0 k.1 in
          ⊎_elim (λ z. absurd cc) (λ z.
          let same : k.0 ≡ s = sym (r.whole.basis.core.spotted k.0 j.0 w.tag (ap tag_in_version j.1)).0 ∙ (r.whole.basis.core.spotted s z.0 w.tag (ap tag_in_version z.2 ∙ ap Some z.3)).0 in
          ⊎_elim (λ q. absurd (let y : Some q.tag ≡ None = sym q.chain ∙ g in cc)) (λ q. (ap st.keys (sym same) ∙ k.1, q.few, q.dead j.0 w (ap (λ (x : ℕ). nth (st.log x) j.0) (sym same) ∙ j.1))) (image_ends m st r.whole.basis.core p i is there s))
          (at_last None (st.log s) w.tag (sym (now_ends here s) ∙ f))
