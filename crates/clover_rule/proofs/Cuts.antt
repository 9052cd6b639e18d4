-- The law of cuts.
use Rattle.std.proofs.Common.{◌≡◌, ◌≢◌, ℕ, zero, suc, ◌+◌, ◌<◌, ◌≤◌, List, [], ◌∷◌, ◌++◌, length, drop, Bool, true, false, cond, ltb, leb, ◌&&◌, refl, sym, ap, ◌∙◌, ⊎_elim, arith, subst, true≢false}
use native.Mathlib.Decide.{ℕ_discrete, dec_le}
use mathlib.Core.Logic.{dite}
use Rattle.std.specs.Prelude.{Option, Some, None}
use Rattle.std.proofs.lemmas.Bool.{lt-ltb, le-ltb}
use Rattle.std.proofs.lemmas.Bool.Decides.{nat_tests}
use Rattle.clover_words.specs.Tag.{home, age}
use Rattle.std.specs.FinMap.{get}
use Rattle.clover_map.specs.declared.call.Entry.{Entry}
use Rattle.clover_map.specs.declared.bytes.Held.{Held}
use Rattle.std.specs.Str.{bytes_eq}
use Rattle.clover_map.specs.Legal.{Legal}
use Rattle.clover_map.specs.Tagged.{Tagged}
use Rattle.std.specs.List.{cons_option}
use Rattle.clover_rule.specs.History.{Version, pair_of, ends, kept, commits_at, Unread, Last, entry_key, commit_of, lost_in}
use Rattle.clover_rule.specs.Image.{Image, IsImage, Chain, is_none, leads_to, missing, sift, tags, Reads}
use Rattle.clover_rule.specs.Lists.{Each, nth}
use Rattle.clover_rule.specs.Memory.{gen, link, Mem}
use Rattle.clover_rule.specs.Story.{Story, tag_in_version, tag_at, only, Core, Tale, unsure, Durable}
use Rattle.clover_rule.proofs.KeyMaps.{shows, Map, leads}
use Rattle.clover_rule.proofs.Tools.{nth_some, nth_within, nth_none}
use Rattle.clover_rule.proofs.Histories.{kept_legal, unread_last, leads_commits, ends_more, commits_first}
use Rattle.clover_rule.proofs.Standings.{tag_there, only_none}

-- each bound slot reads as the map says at its key
pub record ReadsMap (st : Story) (im : Image) (m : Map) : Type 0 where
  pub bound : (s : ℕ) (k : List ℕ) → st.keys s ≡ Some k → Reads im s (m k)
  pub unbound : (k : List ℕ) → ((s : ℕ) → st.keys s ≢ Some k) → m k ≡ None

-- sifting a history sifts the commits of each key
sift_step : (lost : ℕ → Bool) (c : Option Version) (b : Bool) (xs : List Version) → sift lost (cond b (cons_option c xs) xs) ≡ cond (lost_in lost c) (sift lost xs) (cond b (cons_option c (sift lost xs)) (sift lost xs))
sift_step lost None true xs = refl
sift_step lost None false xs = refl
sift_step lost (Some w) true xs = refl
sift_step lost (Some w) false xs = elim (lost w.tag) as (λ (b : Bool). sift lost xs ≡ cond b (sift lost xs) (sift lost xs)) [ true ↦ refl | false ↦ refl ]

commits_cond : (k : List ℕ) (e : Entry) (b : Bool) (xs : List Entry) → commits_at k (cond b xs (e ∷ xs)) ≡ cond b (commits_at k xs) (cond (bytes_eq (entry_key e) k) (cons_option (commit_of e) (commits_at k xs)) (commits_at k xs))
commits_cond k e true xs = refl
commits_cond k e false xs = commits_first k e xs

pub commits_kept : (lost : ℕ → Bool) (k : List ℕ) (h : List Entry) → commits_at k (kept lost h) ≡ sift lost (commits_at k h)
commits_kept lost k [] = refl
commits_kept lost k (e ∷ h) = commits_cond k e (lost_in lost (commit_of e)) (kept lost h) ∙ ap (λ (xs : List Version). cond (lost_in lost (commit_of e)) xs (cond (bytes_eq (entry_key e) k) (cons_option (commit_of e) xs) xs)) (commits_kept lost k h) ∙ sym (ap (sift lost) (commits_first k e h) ∙ sift_step lost (commit_of e) (bytes_eq (entry_key e) k) (commits_at k h))

pub sift_append : (lost : ℕ → Bool) (xs ys : List Version) → sift lost (xs ++ ys) ≡ sift lost xs ++ sift lost ys
sift_append lost [] ys = refl
sift_append lost (x ∷ xs) ys = rw (sift_append lost xs ys) (elim (lost x.tag) as (λ (b : Bool). cond b (sift lost xs ++ sift lost ys) (x ∷ (sift lost xs ++ sift lost ys)) ≡ cond b (sift lost xs) (x ∷ sift lost xs) ++ sift lost ys) [ true ↦ refl | false ↦ refl ])

-- what is left of a list of which nothing is lost before n and everything from n on
sift_all : (lost : ℕ → Bool) (ws : List Version) → ((i : ℕ) (w : Version) → nth ws i ≡ Some w → lost w.tag ≡ false) → sift lost ws ≡ ws
sift_all lost [] h = refl
sift_all lost (w ∷ ws) h = rw (h zero w refl) (ap (λ (x : List Version). w ∷ x) (sift_all lost ws (λ i. h (suc i))))

sift_none : (lost : ℕ → Bool) (ws : List Version) → ((i : ℕ) (w : Version) → nth ws i ≡ Some w → lost w.tag ≡ true) → sift lost ws ≡ []
sift_none lost [] h = refl
sift_none lost (w ∷ ws) h = rw (h zero w refl) (sift_none lost ws (λ i. h (suc i)))

shift : (a b : ℕ) → ltb a b ≡ ltb (suc a) (suc b)
shift a b = grind (arith, nat_tests)

pub up_to : (i n : ℕ) (x : Option Version) → i < n → x ≡ cond (ltb i n) x None
up_to i n x h = rw (lt-ltb i n h) refl

from_on : (i n : ℕ) (x : Option Version) → n ≤ i → None ≡ cond (ltb i n) x None
from_on i n x h = rw (le-ltb i n h) refl

-- what the sifted list has at a place
sift_at : (lost : ℕ → Bool) (n : ℕ) (ws : List Version) → ((i : ℕ) (w : Version) → nth ws i ≡ Some w → i < n → lost w.tag ≡ false) → ((i : ℕ) (w : Version) → nth ws i ≡ Some w → n ≤ i → lost w.tag ≡ true) → (i : ℕ) → nth (sift lost ws) i ≡ cond (ltb i n) (nth ws i) None
sift_at lost n [] f g i = elim (ltb i n) as (λ (b : Bool). ◌≡◌ {A = Option Version} None (cond b None None)) [ true ↦ refl | false ↦ refl ]
sift_at lost zero (w ∷ ws) f g i = rw (sift_none lost (w ∷ ws) (λ j x e. g j x e (omega arith))) (let e : ltb i 0 ≡ false = grind (arith, nat_tests) in rw e refl)
sift_at lost (suc n) (w ∷ ws) f g zero = rw (f zero w refl (omega arith)) (rw (lt-ltb 0 (suc n) (omega arith)) refl)
sift_at lost (suc n) (w ∷ ws) f g (suc i) = rw (f zero w refl (omega arith)) (sift_at lost n ws (λ j x e l. f (suc j) x e (omega arith)) (λ j x e l. g (suc j) x e (omega arith)) i ∙ ap (λ (b : Bool). cond b (nth ws i) None) (shift i n))

-- the chain of a list of versions each of whose links leads to the next
abbrev Links : Image → List Version → Type 0
Links im ws = (i : ℕ) (w : Version) → nth ws i ≡ Some w → (gen (im.next (home w.tag)) ≡ age w.tag) × (link (im.next (home w.tag)) ≡ tag_in_version (nth ws (suc i)))

chain_of : (im : Image) (ws : List Version) → Links im ws → Chain im (tag_in_version (nth ws zero)) (tags ws)
chain_of im [] h = tt
chain_of im (w ∷ ws) h = let x = h zero w refl in (refl, x.0, rw x.1 (chain_of im ws (λ i. h (suc i))))

pub nth_drop : (n i : ℕ) (ws : List Version) → nth (drop n ws) i ≡ nth ws (n + i)
nth_drop zero i ws = ap (nth ws) (omega arith)
nth_drop (suc n) i [] = refl
nth_drop (suc n) i (w ∷ ws) = nth_drop n i ws ∙ sym (ap (nth (w ∷ ws)) (let e : suc n + i ≡ suc (n + i) = omega arith in e))

pub inside : (i n : ℕ) (x : Option Version) (w : Version) → cond (ltb i n) x None ≡ Some w → i < n
inside i n x w e = dite (dec_le (suc i) n) (λ d. d) (λ d. absurd (cc (from_on i n x (omega arith), e)))

pub unsure_less : (a b c : ℕ) → a ≤ b → leb b c ≡ true → leb a c ≡ true
unsure_less a b c h q = grind (arith, nat_tests)

pub unread_less : (a b : ℕ → Bool) → ((t : ℕ) → b t ≡ true → a t ≡ true) → (h : List Entry) → Unread a h → Unread b h
unread_less a b f [] u = tt
unread_less a b f (e ∷ h) u = ((λ p. u.0 (go (commit_of e) p)), unread_less a b f h u.1)
  where
    go : (x : Option Version) → lost_in b x ≡ true → lost_in a x ≡ true
    go None p = p
    go (Some w) p = f w.tag p

agree_self : (m : Map) (h : List Entry) → Each (λ (e : Entry). m (entry_key e) ≡ m (entry_key e)) h
agree_self m [] = tt
agree_self m (e ∷ h) = (refl, agree_self m h)

ends_some : (x y : Option Held) (ws : List Version) → 0 < length ws → ends x ws ≡ ends y ws
ends_some x y [] h = absurd (omega arith)
ends_some x y (w ∷ ws) h = refl

pub ends_drop : (x y : Option Held) (p : ℕ) (ws : List Version) → p < length ws → ends x (drop p ws) ≡ ends y ws
ends_drop x y zero ws h = ends_some x y ws h
ends_drop x y (suc p) [] h = absurd (omega arith)
ends_drop x y (suc p) (w ∷ ws) h = ends_drop x (pair_of w) p ws (omega arith)

dead_pair : (w : Version) → w.value ≡ None → pair_of w ≡ None
dead_pair w e = rw e refl

sift_dead : (lost : ℕ → Bool) (ws : List Version) → ((i : ℕ) (w : Version) → nth ws i ≡ Some w → w.value ≡ None) → ends None (sift lost ws) ≡ None
sift_dead lost [] h = refl
sift_dead lost (w ∷ ws) h = go (lost w.tag) (sift_dead lost ws (λ i. h (suc i)))
  where
    go : (b : Bool) → ends None (sift lost ws) ≡ None → ends None (cond b (sift lost ws) (w ∷ sift lost ws)) ≡ None
    go true e = e
    go false e = ap (λ (x : Option Held). ends x (sift lost ws)) (dead_pair w (h zero w refl)) ∙ e

nth_append : (vs ws : List Version) (i : ℕ) (w : Version) → nth vs i ≡ Some w → nth (vs ++ ws) i ≡ Some w
nth_append [] ws i w e = absurd cc
nth_append (v ∷ vs) ws zero w e = e
nth_append (v ∷ vs) ws (suc i) w e = nth_append vs ws i w e

module _ (m : Mem) (st : Story) (c : Core m st) (im : Image) (is : IsImage m im) where
  abbrev pub lost : ℕ → Bool
  lost = missing st im

  rank_at : (s i : ℕ) (w : Version) → nth (st.log s) i ≡ Some w → (st.slot_of w.tag ≡ s) × (st.rank w.tag ≡ i)
  rank_at s i w e = c.spotted s i w.tag (ap tag_in_version e)

  -- each copy of a standing version's next word has its generation
  gens : (s i t : ℕ) → tag_at st s i ≡ Some t → st.gone s ≤ i → gen (im.next (home t)) ≡ age t
  gens s i t e g = let x = c.standing s i t e g in ⊎_elim (λ a. ap gen (a ∙ x.now)) (λ a. ap gen (a ∙ x.safe)) (is.next (home t))

  -- a link to a durable version is in each image
  sure_link : (s i t : ℕ) → tag_at st s i ≡ Some t → st.gone s ≤ i → suc i < st.sure s → link (im.next (home t)) ≡ tag_at st s (suc i)
  sure_link s i t e g h = let x = c.standing s i t e g in ⊎_elim (λ a. ap link (a ∙ x.now)) (λ a. ap link (a ∙ x.safe) ∙ ap (λ (b : Bool). only b (tag_at st s (suc i))) (lt-ltb (suc i) (st.sure s) h)) (is.next (home t))

  no_link : (s i t : ℕ) → tag_at st s i ≡ Some t → st.gone s ≤ i → tag_at st s (suc i) ≡ None → link (im.next (home t)) ≡ None
  no_link s i t e g h = let x = c.standing s i t e g in ⊎_elim (λ a. ap link (a ∙ x.now) ∙ h) (λ a. ap link (a ∙ x.safe) ∙ ap (only (ltb (suc i) (st.sure s))) h ∙ only_none (ltb (suc i) (st.sure s))) (is.next (home t))

  kept_before : (s i : ℕ) (w : Version) → nth (st.log s) i ≡ Some w → i < st.sure s → lost w.tag ≡ false
  kept_before s i w e h = let x = rank_at s i w e in let u : unsure st w.tag ≡ false = rw (x.0, x.1) (let q : leb (st.sure s) i ≡ false = grind (arith, nat_tests) in q) in rw u refl

  -- the last version where its link may be lost
  tail_lost : (s i : ℕ) (w : Version) → nth (st.log s) i ≡ Some w → st.sure s ≤ i → lost w.tag ≡ is_none (leads_to st im s i)
  tail_lost s i w e h = let x = rank_at s i w e in let u : unsure st w.tag ≡ true = rw (x.0, x.1) (let q : leb (st.sure s) i ≡ true = grind (arith, nat_tests) in q) in rw u (rw (x.0, x.1) refl)

  -- the first n versions of a slot are what the image has of it
  pub record Shown (s n : ℕ) : Type 0 where
    pub enough : st.sure s ≤ n
    pub most : n ≤ length (st.log s)
    pub sifted : (i : ℕ) → nth (sift lost (st.log s)) i ≡ cond (ltb i n) (nth (st.log s) i) None
    pub leads_on : (i t : ℕ) → tag_at st s i ≡ Some t → st.gone s ≤ i → i < n → link (im.next (home t)) ≡ tag_in_version (cond (ltb (suc i) n) (nth (st.log s) (suc i)) None)

  whole : (s i : ℕ) → nth (st.log s) i ≡ cond (ltb i (length (st.log s))) (nth (st.log s) i) None
  whole s i = go (dec_le (suc i) (length (st.log s)))
    where
      go : Dec (suc i ≤ length (st.log s)) → nth (st.log s) i ≡ cond (ltb i (length (st.log s))) (nth (st.log s) i) None
      go (yes d) = rw (lt-ltb i (length (st.log s)) d) refl
      go (no n) = rw (le-ltb i (length (st.log s)) (omega arith)) (nth_none (st.log s) i (omega arith))

  end_none : (s i : ℕ) → length (st.log s) ≤ i → tag_at st s i ≡ None
  end_none s i h = ap tag_in_version (nth_none (st.log s) i h)

  shown_all : (s : ℕ) → st.sure s ≡ length (st.log s) → Shown s (length (st.log s))
  shown_all s e = record {
    enough = omega arith;
    most = omega arith;
    sifted = λ i. ap (λ (ws : List Version). nth ws i) (sift_all lost (st.log s) (λ j w p. kept_before s j w p (let q = nth_within (st.log s) j w p in omega arith))) ∙ whole s i;
    leads_on = λ i t p g h. dite (dec_le (suc (suc i)) (st.sure s)) (λ d. sure_link s i t p g d ∙ ap tag_in_version (whole s (suc i))) (λ n. let q = end_none s (suc i) (omega arith) in no_link s i t p g q ∙ sym q ∙ ap tag_in_version (whole s (suc i)));
  }

  link_of : (s i t : ℕ) → tag_at st s i ≡ Some t → leads_to st im s (suc i) ≡ link (im.next (home t))
  link_of s i t e = rw e refl

  is_none_true : (x : Option ℕ) → is_none x ≡ true → x ≡ None
  is_none_true None e = refl
  is_none_true (Some t) e = absurd (true≢false (sym e))

  shown_lost : (s : ℕ) → length (st.log s) ≡ suc (st.sure s) → is_none (leads_to st im s (st.sure s)) ≡ true → Shown s (st.sure s)
  shown_lost s e b = record {
    enough = omega arith;
    most = omega arith;
    sifted = sift_at lost (st.sure s) (st.log s) (λ j w p l. kept_before s j w p l) (λ j w p l. let q = nth_within (st.log s) j w p in let f : j ≡ st.sure s = omega arith in tail_lost s j w p l ∙ ap (λ (x : ℕ). is_none (leads_to st im s x)) f ∙ b);
    leads_on = λ i t p g h. dite (dec_le (suc (suc i)) (st.sure s))
        (λ d. sure_link s i t p g d ∙ ap tag_in_version (up_to (suc i) (st.sure s) (nth (st.log s) (suc i)) d))
        (λ n. let f : suc i ≡ st.sure s = omega arith in sym (link_of s i t p) ∙ ap (leads_to st im s) f ∙ is_none_true (leads_to st im s (st.sure s)) b ∙ ap tag_in_version (from_on (suc i) (st.sure s) (nth (st.log s) (suc i)) (omega arith)));
  }

  shown_kept : (s : ℕ) → length (st.log s) ≡ suc (st.sure s) → is_none (leads_to st im s (st.sure s)) ≡ false → Shown s (length (st.log s))
  shown_kept s e b = record {
    enough = omega arith;
    most = omega arith;
    sifted = λ i. ap (λ (ws : List Version). nth ws i) (sift_all lost (st.log s) (λ j w p. dite (dec_le (suc j) (st.sure s)) (λ d. kept_before s j w p d) (λ n. let q = nth_within (st.log s) j w p in let f : j ≡ st.sure s = omega arith in tail_lost s j w p (omega arith) ∙ ap (λ (x : ℕ). is_none (leads_to st im s x)) f ∙ b))) ∙ whole s i;
    leads_on = λ i t p g h. dite (dec_le (suc (suc i)) (st.sure s))
        (λ d. sure_link s i t p g d ∙ ap tag_in_version (whole s (suc i)))
        (λ n. dite (ℕ_discrete (suc i) (st.sure s))
        (λ f. ⊎_elim (λ a. ap link (a ∙ (c.standing s i t p g).now) ∙ ap tag_in_version (whole s (suc i))) (λ a. absurd (true≢false (sym (ap is_none (ap link (a ∙ (c.standing s i t p g).safe) ∙ ap (λ (b : Bool). only b (tag_at st s (suc i))) (le-ltb (suc i) (st.sure s) (omega arith)))) ∙ ap is_none (sym (link_of s i t p)) ∙ ap (λ (x : ℕ). is_none (leads_to st im s x)) f ∙ b))) (is.next (home t)))
        (λ f. let q = end_none s (suc i) (omega arith) in no_link s i t p g q ∙ sym q ∙ ap tag_in_version (whole s (suc i))));
  }

  pub shown : (s : ℕ) → (n : ℕ) × Shown s n
  shown s = go (ℕ_discrete (st.sure s) (length (st.log s))) (is_none (leads_to st im s (st.sure s))) refl
    where
      go : Dec (st.sure s ≡ length (st.log s)) → (b : Bool) → is_none (leads_to st im s (st.sure s)) ≡ b → (n : ℕ) × Shown s n
      go (yes d) b e = (length (st.log s), shown_all s d)
      go (no n) true e = (st.sure s, shown_lost s (let x = c.sure_all s in let y = c.sure_most s in omega arith) e)
      go (no n) false e = (length (st.log s), shown_kept s (let x = c.sure_all s in let y = c.sure_most s in omega arith) e)

  -- from each place behind the recycled ones, the image has the chain of what is left
  links : (s n p : ℕ) → Shown s n → st.gone s ≤ p → Links im (drop p (sift lost (st.log s)))
  links s n p h g i w e =
      let e1 : nth (sift lost (st.log s)) (p + i) ≡ Some w = sym (nth_drop p i (sift lost (st.log s))) ∙ e in
      let e2 = sym (h.sifted (p + i)) ∙ e1 in
      let l : p + i < n = inside (p + i) n (nth (st.log s) (p + i)) w e2 in
      let e3 : tag_at st s (p + i) ≡ Some w.tag = ap tag_in_version (up_to (p + i) n (nth (st.log s) (p + i)) l ∙ e2) in
      (gens s (p + i) w.tag e3 (omega arith), h.leads_on (p + i) w.tag e3 (omega arith) l ∙ ap tag_in_version (sym (h.sifted (suc (p + i))) ∙ ap (nth (sift lost (st.log s))) (omega arith) ∙ sym (nth_drop p (suc i) (sift lost (st.log s)))))

  pub cut_chain : (s p : ℕ) → st.gone s ≤ p → p < st.sure s → Chain im (tag_at st s p) (tags (drop p (sift lost (st.log s))))
  cut_chain s p g q =
      let n = (shown s).0 in
      let h : Shown s n = (shown s).1 in
      let low = h.enough in
      let e : tag_in_version (nth (drop p (sift lost (st.log s))) zero) ≡ tag_at st s p = ap tag_in_version (nth_drop p zero (sift lost (st.log s)) ∙ ap (nth (sift lost (st.log s))) (omega arith) ∙ h.sifted p ∙ sym (up_to p n (nth (st.log s) p) (omega arith))) in
      subst (λ (x : Option ℕ). Chain im x (tags (drop p (sift lost (st.log s))))) e (chain_of im (drop p (sift lost (st.log s))) (links s n p h g))

  module _ (m0 : Tagged) (used : List ℕ) (h : List Entry) (t : Tale st m0 used h) where
    abbrev pub left : List Entry
    left = kept lost h

    weaker : (x : ℕ) → lost x ≡ true → unsure st x ≡ true
    weaker x e = go (unsure st x) e
      where
        go : (b : Bool) → b && is_none (leads_to st im (st.slot_of x) (st.rank x)) ≡ true → b ≡ true
        go true q = refl
        go false q = q

    unread : Unread lost h
    unread = unread_less (unsure st) lost weaker h t.unread

    pub untold : (x : ℕ) → lost x ≡ true → (s : ℕ) × Durable st s x → ⊥
    untold x e (s, d) = let a = tag_there st s d.0 x d.1 in true≢false (sym e ∙ ap lost (sym a.2) ∙ kept_before s d.0 a.0 a.1 d.2)

    pub last_lost : Last lost h
    last_lost = unread_last lost h unread

    pub legal_left : Legal m0 used left
    legal_left = kept_legal lost h m0 m0 used used t.legal unread (agree_self (shows m0) h) (λ x c. c)

    log_left : (s : ℕ) (k : List ℕ) → st.keys s ≡ Some k → sift lost (st.log s) ≡ st.first s ++ commits_at k (kept lost h)
    log_left s k e =
        let a = t.told s k e in
        ap (sift lost) a ∙ sift_append lost (st.first s) (commits_at k h)
        ∙ ap (λ (ws : List Version). ws ++ sift lost (commits_at k h)) (sift_all lost (st.first s) (λ i w p. kept_before s i w (ap (λ (ws : List Version). nth ws i) a ∙ nth_append (st.first s) (commits_at k h) i w p) (t.settled s i w p)))
        ∙ ap (λ (ws : List Version). st.first s ++ ws) (sym (commits_kept lost k h))

    pub map_left : (s : ℕ) (k : List ℕ) → st.keys s ≡ Some k → ends None (sift lost (st.log s)) ≡ leads (shows m0) (kept lost h) k
    map_left s k e = ap (ends None) (log_left s k e) ∙ ends_more None (st.first s) (commits_at k (kept lost h)) ∙ ap (λ (x : Option Held). ends x (commits_at k (kept lost h))) (t.began s k e) ∙ sym (leads_commits (shows m0) (kept lost h) k)

    pub longer : (s p : ℕ) → p < st.sure s → p < length (sift lost (st.log s))
    longer s p q =
        let n = (shown s).0 in
        let f : Shown s n = (shown s).1 in
        let low = f.enough in let high = f.most in
        let a = nth_some (st.log s) p (omega arith) in
        nth_within (sift lost (st.log s)) p a.0 (f.sifted p ∙ sym (up_to p n (nth (st.log s) p) (omega arith)) ∙ a.1)

    read_none : (s : ℕ) (k : List ℕ) → st.keys s ≡ Some k → im.root s ≡ None → ends None (sift lost (st.log s)) ≡ None → Reads im s (leads (shows m0) (kept lost h) k)
    read_none s k e r z = record { versions = []; chain = subst (λ (x : Option ℕ). Chain im x []) (sym r) tt; last = sym z ∙ map_left s k e }

    read_at : (s : ℕ) (k : List ℕ) (p : ℕ) → st.keys s ≡ Some k → st.gone s ≤ p → p < st.sure s → im.root s ≡ tag_at st s p → Reads im s (leads (shows m0) (kept lost h) k)
    read_at s k p e g q r = record {
      versions = drop p (sift lost (st.log s));
      chain = subst (λ (x : Option ℕ). Chain im x (tags (drop p (sift lost (st.log s))))) (sym r) (cut_chain s p g q);
      last = ends_drop None None p (sift lost (st.log s)) (longer s p q) ∙ map_left s k e;
    }

    empty_log : (ws : List Version) → length ws ≡ 0 → ws ≡ []
    empty_log [] e = refl
    empty_log (w ∷ ws) e = absurd (omega arith)

    read_bare : (s : ℕ) (k : List ℕ) → st.keys s ≡ Some k → (p : ℕ) → length (st.log s) ≡ 0 → im.root s ≡ tag_at st s p → Reads im s (leads (shows m0) (kept lost h) k)
    read_bare s k e p z r = read_none s k e (r ∙ end_none s p (omega arith)) (ap (λ (ws : List Version). ends None (sift lost ws)) (empty_log (st.log s) z))

    read_root : (s : ℕ) (k : List ℕ) (p : ℕ) → st.keys s ≡ Some k → st.gone s ≤ p → p ≤ st.lead s → im.root s ≡ tag_at st s p → Reads im s (leads (shows m0) (kept lost h) k)
    read_root s k p e g q r = dite (ℕ_discrete (length (st.log s)) 0) (λ z. read_bare s k e p z r) (λ n. let x = c.rooted s (omega arith) in read_at s k p e g (omega arith) r)

    pub cut_stands : ReadsMap st im (leads (shows m0) (kept lost h))
    cut_stands = record {
      bound = λ s k e. let d = c.led s in
          ⊎_elim (λ r. read_root s k (st.lead s) e (omega arith) (omega arith) (r ∙ c.root s))
          (λ r. ⊎_elim (λ f. read_root s k (st.flead s) e (omega arith) (omega arith) (r ∙ f)) (λ f. read_none s k e (r ∙ f.empty) (sift_dead lost (st.log s) f.dead)) (c.froot s))
          (is.root s);
      unbound = λ k f. let u = t.unbound k f in leads_commits (shows m0) (kept lost h) k ∙ ap (ends (get m0 k)) (commits_kept lost k h ∙ ap (sift lost) u.1) ∙ u.0;
    }
