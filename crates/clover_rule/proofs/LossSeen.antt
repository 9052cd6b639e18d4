-- The law of the ends of the chains: whichever of the histories that survive one takes, it has lost the commits that the ends of the chains show.
use Rattle.std.proofs.Common.{◌≡◌, ◌≢◌, ℕ, zero, suc, ◌+◌, ◌≤◌, ◌⊎◌, List, [], ◌∷◌, ◌++◌, append_assoc, length, Bool, true, false, cond, refl, sym, ap, ◌∙◌, inl, inr, ⊎_elim, arith, subst}
use Rattle.std.specs.FinMap.{get}
use Rattle.std.specs.Prelude.{Option, Some, None, filter_map}
use Rattle.std.proofs.lemmas.List.Elements.{filter-append, filter_map-append}
use Rattle.std.proofs.lemmas.Option.{same_Some}
use Rattle.clover_words.specs.declared.pool.Pool.{Pool}
use Rattle.clover_map.specs.declared.bytes.Held.{Held}
use Rattle.clover_map.specs.declared.bytes.Value.{Value}
use Rattle.clover_map.specs.declared.call.Call.{Call}
use Rattle.clover_map.specs.declared.call.Call.TheVariants.{Put, Delete, Swap}
use Rattle.clover_map.specs.declared.call.Entry.{Entry}
use Rattle.clover_map.specs.declared.call.Reply.{Reply}
use Rattle.clover_map.specs.declared.call.Reply.TheVariants.{Stored, Deleted}
use Rattle.clover_map.specs.Does.{held}
use Rattle.clover_map.specs.History.{commits, commits_to}
use Rattle.clover_map.specs.Key.{IsKey}
use Rattle.clover_map.specs.Legal.{Leads, Legal}
use Rattle.clover_map.specs.Tagged.{Tagged}
use Rattle.clover_map.specs.Tags.{new_tags}
use Rattle.clover_rule.specs.Content.{Spells}
use Rattle.clover_rule.specs.Cut.{AfterCut, IsCut, image_of}
use Rattle.clover_rule.specs.History.{Last, Version, commit_of, committed, commits_at, ends, entry_key, kept, lost_in, pair_of, paired}
use Rattle.clover_rule.specs.Image.{Chain, Image, IsImage, Reads, missing, tags}
use Rattle.clover_rule.specs.Lists.{Within, nth}
use Rattle.clover_rule.specs.Marks.{MarksLaw, current_copies}
use Rattle.clover_rule.specs.Meets.{Meets}
use Rattle.clover_rule.specs.Memory.{Mem}
use Rattle.clover_rule.specs.Sound.{Sound, versions_of}
use Rattle.clover_rule.specs.Story.{Story, tag_in_version}
use Rattle.clover_rule.specs.Words.{mem_of}
use Rattle.clover_rule.specs.declared.view.View.{View}
use Rattle.clover_rule.proofs.AfterCuts.{cut_law}
use Rattle.clover_rule.proofs.CutImages.{decoded_image}
use Rattle.clover_rule.proofs.Cuts.{cut_stands, last_lost, legal_left}
use Rattle.clover_rule.proofs.Histories.{ends_more, leads_commits}
use Rattle.clover_rule.proofs.KeyMaps.{Map, leads, shows, tag_in}
use Rattle.clover_rule.proofs.LostTags.{current_cut, ends_lost, lone, lost_ends, slot_of_commit}
use Rattle.clover_rule.proofs.Marks.{has_then}
use Rattle.clover_rule.proofs.OneReading.{one_reading_law}
use Rattle.clover_rule.proofs.Snocs.{within_back, within_commits, within_nth}
use Rattle.clover_rule.proofs.Soundness.{bound_root as bound_key, cut_ends, cut_sound, spelled as spelled_key}
use Rattle.clover_rule.proofs.Spelling.{one_key}
use Rattle.clover_rule.proofs.TaggedMaps.{Permits, legal_history, permits_step, shows_step}
use Rattle.clover_rule.proofs.Tools.{nth_within}

-- an entry of a history with those before and behind it
within_parts : (h : List Entry) (e : Entry) → Within e h → (front : List Entry) × (back : List Entry) × (h ≡ front ++ e ∷ back)
within_parts [] e w = absurd w
within_parts (x ∷ h) e w = ⊎_elim (λ q. ([], h, ap (λ (y : Entry). y ∷ h) q)) (λ q. let z = within_parts h e q in (x ∷ z.0, z.1, ap (λ (ys : List Entry). x ∷ ys) z.2)) w

-- the commits at a key before an entry and from it on
commits_parts : (k : List ℕ) (front back : List Entry) → commits_at k (front ++ back) ≡ commits_at k front ++ commits_at k back
commits_parts k a b = ap (filter_map commit_of) (filter-append (commits_to k) a b) ∙ filter_map-append commit_of (commits a k) (commits b k)

-- what stands in the first of two lists, and in the second
nth_left : (xs ys : List Version) (i : ℕ) (w : Version) → nth xs i ≡ Some w → nth (xs ++ ys) i ≡ Some w
nth_left [] ys i w e = absurd cc
nth_left (x ∷ xs) ys zero w e = e
nth_left (x ∷ xs) ys (suc i) w e = nth_left xs ys i w e

nth_right : (xs ys : List Version) (i : ℕ) (w : Version) → nth ys i ≡ Some w → nth (xs ++ ys) (length xs + i) ≡ Some w
nth_right [] ys i w e = ap (nth ys) (omega arith) ∙ e
nth_right (x ∷ xs) ys i w e = ap (nth (x ∷ (xs ++ ys))) (let z : suc (length xs) + i ≡ suc (length xs + i) = omega arith in z) ∙ nth_right xs ys i w e

-- versions with the same tags and values
versions_same : (ts us : List ℕ) (f g : ℕ → Option Value) → ts ≡ us → ((i t : ℕ) → nth us i ≡ Some t → f i ≡ g i) → versions_of ts f ≡ versions_of us g
versions_same ts us f g q h = ap (λ (xs : List ℕ). versions_of xs f) q ∙ go us f g h
  where
    go : (us : List ℕ) (f g : ℕ → Option Value) → ((i t : ℕ) → nth us i ≡ Some t → f i ≡ g i) → versions_of us f ≡ versions_of us g
    go [] f g h = refl
    go (u ∷ us) f g h = ap (λ (o : Option Value). record { tag = u; value = o } ∷ versions_of us (λ (i : ℕ). f (suc i))) (h zero u refl)
        ∙ ap (λ (vs : List Version). record { tag = u; value = g zero } ∷ vs) (go us (λ (i : ℕ). f (suc i)) (λ (i : ℕ). g (suc i)) (λ i t e. h (suc i) t e))

-- a pair in which versions end is that of one of them
ends_in : (x : Option Held) (ws : List Version) (y : Held) → ends x ws ≡ Some y → (x ≡ Some y) ⊎ ((i : ℕ) × (w : Version) × (nth ws i ≡ Some w) × (w.tag ≡ y.tag))
ends_in x [] y e = inl e
ends_in x (w ∷ ws) y e = ⊎_elim (λ q. inr (zero, w, refl, tag_of w.tag w.value q)) (λ q. inr (suc q.0, q.1, q.2, q.3)) (ends_in (pair_of w) ws y e)
  where
    tag_of : (t : ℕ) (o : Option Value) → paired t o ≡ Some y → t ≡ y.tag
    tag_of t None q = absurd cc
    tag_of t (Some v) q = ap (λ (z : Held). z.tag) (same_Some (held t v) y q)

-- in a list whose tags differ, the pair in which a front ends has another tag than what stands behind it
other_tag : (log before there : List Version) (w : Version) (y : Held) → ((i j : ℕ) (a b : Version) → nth log i ≡ Some a → nth log j ≡ Some b → a.tag ≡ b.tag → i ≡ j)
    → log ≡ before ++ there → ends None before ≡ Some y → Within w there → y.tag ≢ w.tag
other_tag log before there w y once parts e within t =
    let new = within_nth w there within in
    ⊎_elim (λ z. absurd cc) (λ z.
    let same = once z.0 (length before + new.0) z.1 w (ap (λ (xs : List Version). nth xs z.0) parts ∙ nth_left before there z.0 z.1 z.2)
    (ap (λ (xs : List Version). nth xs (length before + new.0)) parts ∙ nth_right before there new.0 w new.1) (z.3 ∙ t) in
    let low = nth_within before z.0 z.1 z.2 in
    absurd (omega arith)) (ends_in None before y e)

-- what the map has before a commit is not what it commits, unless that has its tag already
differs : (x : Option Held) (us : List ℕ) (c : Call) (r : Reply) (w : Version) → committed c r ≡ Some w → Permits x us c r → ((y : Held) → x ≡ Some y → y.tag ≢ w.tag) → x ≢ pair_of w
differs x us (Put k v) (Stored t) w e d f q = let z = same_Some (record { tag = t; value = Some v }) w e in f (held t v) (q ∙ ap pair_of (sym z)) (ap (λ (y : Version). y.tag) z)
differs x us (Swap k u v) (Stored t) w e d f q = let z = same_Some (record { tag = t; value = Some v }) w e in f (held t v) (q ∙ ap pair_of (sym z)) (ap (λ (y : Version). y.tag) z)
differs x us (Delete k) (Deleted t) w e d f q = let z = same_Some (record { tag = t; value = None }) w e in d.0 (ap tag_in (q ∙ ap pair_of (sym z)))
differs x us c r w e d f q = absurd cc

-- the commit of a legal history was permitted where it stands
permitted : (e : Entry) (back : List Entry) (m : Tagged) (used : List ℕ) (front : List Entry) → Legal m used (front ++ e ∷ back) → (us : List ℕ) × Permits (leads (shows m) front (entry_key e)) us e.call e.reply
permitted e back m used [] l = (used, permits_step m used e.call e.reply l.0 l.1)
permitted e back m used (x ∷ front) l =
    let q = permitted e back l.0 (used ++ new_tags x.reply) front l.2 in
    (q.0, subst (λ (f : Map). Permits (leads f front (entry_key e)) q.0 e.call e.reply) (shows_step m used x.call x.reply l.0 l.1) q.1)

-- a commit behind which its key has another one is not lost
earlier : (lost : ℕ → Bool) (front back : List Entry) (e : Entry) (w : Version) → Last lost (front ++ e ∷ back) → commit_of e ≡ Some w → commits_at (entry_key e) back ≢ [] → lost w.tag ≡ false
earlier lost [] back e w l c n = go (lost w.tag) refl
  where
    go : (b : Bool) → lost w.tag ≡ b → lost w.tag ≡ false
    go true q = absurd (n (l.0 (ap (lost_in lost) c ∙ q)))
    go false q = q
earlier lost (x ∷ front) back e w l c n = earlier lost front back e w l.1 c n

-- of two choices with one outcome, between different things, each is the other
same_choice : (a b : Bool) (x y : Option Held) → x ≢ y → cond a x y ≡ cond b x y → a ≡ b
same_choice true true x y n q = refl
same_choice true false x y n q = absurd (n q)
same_choice false true x y n q = absurd (n (sym q))
same_choice false false x y n q = refl

module _ (p : Pool) (first : Tagged) (used ws : List ℕ) (vs : List View) (st : Story) (h : List Entry) (r : Meets p first used ws vs st h) (im : List ℕ) (cut : IsCut p ws im) where
  abbrev m : Mem
  m = mem_of p ws

  abbrev i : Image
  i = image_of p im

  abbrev is : IsImage m i
  is = decoded_image p ws im cut

  abbrev lost : ℕ → Bool
  lost = missing st i

  abbrev sound : Sound p i
  sound = cut_sound p first used m vs st h r.whole i is

  -- a slot without a root reads as nothing
  bare_reads : (s : ℕ) (y : Option Held) → Reads i s y → i.root s ≡ None → y ≡ None
  bare_reads s y q e = go q.versions (subst (λ (x : Option ℕ). Chain i x (tags q.versions)) e q.chain) q.last
    where
      go : (ws : List Version) → Chain i None (tags ws) → ends None ws ≡ y → y ≡ None
      go [] c l = sym l
      go (w ∷ ws) c l = absurd c

  -- a slot with a root has the key that its words spell
  key_of_slot : (s t : ℕ) (k : List ℕ) → i.root s ≡ Some t → IsKey k → Spells (i.key s) k → st.keys s ≡ Some k
  key_of_slot s t k e ik sp = let a = bound_key p first used m vs st h r.whole i is s t e in
      a.1 ∙ ap Some (one_key (i.key s) a.0 k (r.whole.help.keyed.valid s a.0 a.1) ik (spelled_key p first used m vs st h r.whole i is s a.0 a.1) sp)

  -- each map for which the image stands has at a slot's key what the story's own history leads to
  map_at : (a : AfterCut p first used vs h im) (s : ℕ) (k : List ℕ) → st.keys s ≡ Some k → get a.map k ≡ leads (shows first) (kept lost h) k
  map_at a s k key = go (i.root s) refl
    where
      valid : IsKey k
      valid = r.whole.help.keyed.valid s k key

      go : (x : Option ℕ) → i.root s ≡ x → get a.map k ≡ leads (shows first) (kept lost h) k
      go None e = a.rests.stands.unbound k (λ u t q sp. absurd (let z = r.whole.basis.keyed u s k (key_of_slot u t k q valid sp) key in let y : ◌≡◌ {A = Option ℕ} None (Some t) = sym e ∙ ap i.root (sym z) ∙ q in cc))
          ∙ sym (bare_reads s (leads (shows first) (kept lost h) k) ((cut_stands m st r.whole.basis.core i is first used h r.whole.basis.tale).bound s k key) e)
      go (Some t) e =
          let one = one_reading_law p i sound a.rests.sound.reads in
          a.rests.stands.bound s t k e valid (spelled_key p first used m vs st h r.whole i is s k key)
          ∙ ap (ends None) (versions_same (a.rests.sound.reads.chain s) (sound.chain s) (a.rests.sound.reads.value s) (sound.value s) (one.chains s) (λ j u q. one.values s j u q))
          ∙ cut_ends p first used m vs st h r.whole i is s t k e key

  -- what the log of a key's slot has before a commit: it ends in what the history leads to before it
  record Before (front back : List Entry) (e : Entry) (s : ℕ) : Type 0 where
    list : List Version
    log : st.log s ≡ list ++ commits_at (entry_key e) (e ∷ back)
    had : ends None list ≡ leads (shows first) front (entry_key e)

  before : (front back : List Entry) (e : Entry) (s : ℕ) → h ≡ front ++ e ∷ back → st.keys s ≡ Some (entry_key e) → Before front back e s
  before front back e s parts key = record {
    list = st.first s ++ commits_at (entry_key e) front;
    log = r.whole.basis.tale.told s (entry_key e) key ∙ ap (λ (es : List Entry). st.first s ++ commits_at (entry_key e) es) parts
        ∙ ap (λ (xs : List Version). st.first s ++ xs) (commits_parts (entry_key e) front (e ∷ back)) ∙ sym (append_assoc (st.first s) (commits_at (entry_key e) front) (commits_at (entry_key e) (e ∷ back)));
    had = ends_more None (st.first s) (commits_at (entry_key e) front) ∙ ap (λ (x : Option Held). ends x (commits_at (entry_key e) front)) (r.whole.basis.tale.began s (entry_key e) key)
        ∙ sym (leads_commits (shows first) front (entry_key e));
  }

  -- what a key has before a commit differs from what that commits
  changed_there : (front back : List Entry) (e : Entry) (w : Version) → h ≡ front ++ e ∷ back → commit_of e ≡ Some w → leads (shows first) front (entry_key e) ≢ pair_of w
  changed_there front back e w parts is_commit =
      let allowed = permitted e back first used front (subst (Legal first used) parts r.whole.basis.tale.legal) in
      differs (leads (shows first) front (entry_key e)) allowed.0 e.call e.reply w is_commit allowed.1 apart
    where
      slot : (s : ℕ) × (st.keys s ≡ Some (entry_key e))
      slot = slot_of_commit p first used ws vs st h r e w (subst (Within e) (sym parts) (within_back e front (e ∷ back) (inl refl))) is_commit

      apart : (y : Held) → leads (shows first) front (entry_key e) ≡ Some y → y.tag ≢ w.tag
      apart y q = let b = before front back e slot.0 parts slot.1 in
          other_tag (st.log slot.0) b.list (commits_at (entry_key e) (e ∷ back)) w y (λ j l u v f g z. sym (r.whole.basis.core.spotted slot.0 j u.tag (ap tag_in_version f)).1 ∙ ap st.rank z ∙ (r.whole.basis.core.spotted slot.0 l v.tag (ap tag_in_version g)).1)
          b.log (b.had ∙ q) (within_commits (e ∷ back) e w (inl refl) is_commit)

  -- a slot that has a commit has more than a tombstone
  not_alone : (e : Entry) (w : Version) (s : ℕ) → Within e h → commit_of e ≡ Some w → st.keys s ≡ Some (entry_key e) → length (st.log s) ≤ 1 → w.value ≡ None → ⊥
  not_alone e w s a is_commit key few dead =
      let q = within_parts h e a in
      let b = before q.0 q.1 e s q.2 key in
      let new = within_nth w (commits_at (entry_key e) (e ∷ q.1)) (within_commits (e ∷ q.1) e w (inl refl) is_commit) in
      let here = nth_within (st.log s) (length b.list + new.0) w (ap (λ (xs : List Version). nth xs (length b.list + new.0)) b.log ∙ nth_right b.list (commits_at (entry_key e) (e ∷ q.1)) new.0 w new.1) in
      changed_there q.0 q.1 e w q.2 is_commit (sym b.had ∙ ends_nothing b.list (omega arith) ∙ sym (ap (paired w.tag) dead))
    where
      ends_nothing : (xs : List Version) → length xs ≡ 0 → ends None xs ≡ None
      ends_nothing [] z = refl
      ends_nothing (x ∷ xs) z = absurd (omega arith)

  -- each history that survives has lost the commits whose tags the image has lost
  same_loss : (a : AfterCut p first used vs h im) (e : Entry) (w : Version) → Within e h → commit_of e ≡ Some w → a.survives.lost w.tag ≡ lost w.tag
  same_loss a e w b is_commit = let q = within_parts h e b in go q.0 q.1 q.2 (commits_at (entry_key e) q.1) refl
    where
      slot : (s : ℕ) × (st.keys s ≡ Some (entry_key e))
      slot = slot_of_commit p first used ws vs st h r e w b is_commit

      own_last : Last (missing st (image_of p im)) h
      own_last = last_lost m st r.whole.basis.core i is first used h r.whole.basis.tale

      own_map : (n : Tagged) × Leads first used (kept (missing st (image_of p im)) h) n × (shows n ≡ leads (shows first) (kept (missing st (image_of p im)) h))
      own_map = legal_history first used (kept lost h) (legal_left m st r.whole.basis.core i is first used h r.whole.basis.tale)

      go : (front back : List Entry) → h ≡ front ++ e ∷ back → (xs : List Version) → commits_at (entry_key e) back ≡ xs → a.survives.lost w.tag ≡ missing st (image_of p im) w.tag
      go front back parts (x ∷ xs) f = let n : commits_at (entry_key e) back ≢ [] = λ z. absurd (let y : x ∷ xs ≡ [] = sym f ∙ z in cc) in
          earlier a.survives.lost front back e w (subst (Last a.survives.lost) parts a.survives.last) is_commit n ∙ sym (earlier lost front back e w (subst (Last lost) parts own_last) is_commit n)
      go front back parts [] f =
          let theirs = has_then a.survives.lost first a.map used front back e w (subst (Last a.survives.lost) parts a.survives.last)
          (subst (λ (es : List Entry). Leads first used (kept a.survives.lost es) a.map) parts (subst (λ (es : List Entry). Leads first used es a.map) a.survives.without a.leads)) is_commit f in
          let own = has_then lost first own_map.0 used front back e w (subst (Last lost) parts own_last) (subst (λ (es : List Entry). Leads first used (kept lost es) own_map.0) parts own_map.1) is_commit f in
          same_choice (a.survives.lost w.tag) (lost w.tag) (leads (shows first) front (entry_key e)) (pair_of w) (changed_there front back e w parts is_commit)
          (sym theirs ∙ map_at a slot.0 (entry_key e) slot.1 ∙ sym (ap (λ (g : Map). g (entry_key e)) own_map.2) ∙ own)

pub marks_law : MarksLaw
marks_law p first used ws vs h im rule cut a =
    let r : Meets p first used ws vs rule.story h = rule.helped in
    record {
      now = (cut_law p first used ws vs h (current_copies p ws) rule (current_cut p ws r.sized)).rests.sound;
      image = a.rests.sound;
      took = λ here there s t ends.
          let q = ends_lost p first used ws vs rule.story h r im cut here.reads there.reads s t ends.before ends.ends ends.other ends.apart in
          let c = q.1 in
          (ap a.survives.lost (sym c.4) ∙ same_loss p first used ws vs rule.story h r im cut a c.0 c.1 c.2 c.3 ∙ ap (missing rule.story (image_of p im)) c.4 ∙ q.0, c);
      only = λ here there e w b is_commit l.
          let q = lost_ends p first used ws vs rule.story h r im cut here.reads there.reads e w b is_commit (sym (same_loss p first used ws vs rule.story h r im cut a e w b is_commit) ∙ l) in
          (q.0, record { inside = q.1; ends = q.2; before = q.3; other = q.4; apart = q.5 });
      unfinished = λ here there s t f g c.
          let q = lone p first used ws vs rule.story h r im cut here.reads there.reads s c.0 c.1 (f ∙ ap Some (sym c.4)) g c.2 c.3 in
          not_alone p first used ws vs rule.story h r im cut c.0 c.1 s c.2 c.3 q.0 q.1 q.2;
    }
