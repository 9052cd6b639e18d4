-- What each step keeps: what is known stays known, and what another seat owns is left alone.
use Rattle.std.proofs.Common.{◌≡◌, ℕ, zero, suc, ◌≤◌, ◌≢◌, ◌⊎◌, List, [], ◌∷◌, ◌++◌, set, append_assoc, append-nil, refl, sym, ap, ◌∙◌, inl, inr, ⊎_elim, arith, subst}
use native.Mathlib.Decide.{ℕ_discrete}
use Rattle.std.specs.Prelude.{Some}
use Rattle.std.proofs.lemmas.Option.{same_Some}
use Rattle.clover_words.specs.Tag.{home}
use Rattle.clover_map.specs.declared.call.Entry.{Entry}
use Rattle.clover_map.specs.History.{own}
use Rattle.clover_rule.specs.History.{Version}
use Rattle.clover_rule.specs.Lists.{Each, nth, IsPart, Within, IsPrefix}
use Rattle.clover_rule.specs.Memory.{Next, word, gen, Mem}
use Rattle.clover_rule.specs.Story.{Stocked, Story, tag_in_version, tag_at, Durable}
use Rattle.clover_rule.specs.Views.{IsLink, Past, IsCopied, Owned, OwnCalls, ViewOk, renewed}
use Rattle.clover_rule.specs.declared.view.Content.{Content}
use Rattle.clover_rule.specs.declared.view.Link.{Link}
use Rattle.clover_rule.specs.declared.view.Role.{Role}
use Rattle.clover_rule.specs.declared.view.Role.TheVariants.{Client, Serving, Granting, Noting, Joined, Restarting}
use Rattle.clover_rule.specs.declared.view.View.{View}
use Rattle.clover_rule.proofs.Standings.{tag_there}

pub each_map : {A : Type 0} {P Q : A → Type 0} → ((x : A) → P x → Q x) → (xs : List A) → Each P xs → Each Q xs
each_map f [] e = tt
each_map f (x ∷ xs) e = (f x e.0, each_map f xs e.1)

pub each_within : {A : Type 0} (P : A → Type 0) (x : A) (xs : List A) → Each P xs → Within x xs → P x
each_within P x [] e w = absurd w
each_within P x (y ∷ ys) e w = ⊎_elim (λ p. subst P p e.0) (λ q. each_within P x ys e.1 q) w

pub each_of : {A : Type 0} (P : A → Type 0) (xs : List A) → ((x : A) → Within x xs → P x) → Each P xs
each_of P [] f = tt
each_of P (x ∷ xs) f = (f x (inl refl), each_of P xs (λ y w. f y (inr w)))

pub prefix_trans : {A : Type 0} (xs ys zs : List A) → IsPrefix xs ys → IsPrefix ys zs → IsPrefix xs zs
prefix_trans xs ys zs p q = (p.0 ++ q.0, q.1 ∙ ap (λ (l : List _). l ++ q.0) p.1 ∙ append_assoc xs p.0 q.0)

pub prefix_self : {A : Type 0} (xs : List A) → IsPrefix xs xs
prefix_self xs = ([], sym (append-nil xs))

pub within_prefix : {A : Type 0} (x : A) (xs ys : List A) → Within x xs → Within x (xs ++ ys)
within_prefix x [] ys w = absurd w
within_prefix x (y ∷ xs) ys w = ⊎_elim inl (λ q. inr (within_prefix x xs ys q)) w

pub within_last : {A : Type 0} (x : A) (xs : List A) → Within x (xs ++ x ∷ [])
within_last x [] = inl refl
within_last x (y ∷ xs) = inr (within_last x xs)

pub part_kept : {A : Type 0} (n : ℕ) (xs ys zs : List A) → IsPart n xs ys → IsPrefix ys zs → IsPart n xs zs
part_kept n xs ys zs (front, back, e, l) (more, f) = (front, back ++ more, f ∙ ap (λ (q : List _). q ++ more) e ∙ append_assoc front (xs ++ back) more ∙ ap (λ (q : List _). front ++ q) (append_assoc xs back more), l)

pub record Grows (m : Mem) (st : Story) (h : List Entry) (m' : Mem) (st' : Story) (h' : List Entry) : Type 0 where
  pub versions : (s i : ℕ) (w : Version) → nth (st.log s) i ≡ Some w → nth (st'.log s) i ≡ Some w
  pub sure : (s : ℕ) → st.sure s ≤ st'.sure s
  pub gone : (s : ℕ) → st.gone s ≤ st'.gone s
  pub gens : (b : ℕ) → gen (m.next b) ≤ gen (m'.next b)
  pub names : IsPrefix st.bindings st'.bindings
  pub count : m.count ≤ m'.count
  pub history : IsPrefix h h'

-- what the seat id owns is left alone
pub record Leaves (m : Mem) (st : Story) (m' : Mem) (st' : Story) (id b : ℕ) : Type 0 where
  pub place : st'.place b ≡ Stocked id
  pub next : m'.next b ≡ m.next b
  pub body : (k : ℕ) → m'.body b k ≡ m.body b k
  pub fbody : (k : ℕ) → m'.fbody b k ≡ m.fbody b k

module _ (m : Mem) (st : Story) (h : List Entry) (m' : Mem) (st' : Story) (h' : List Entry) (g : Grows m st h m' st' h') where
  pub tag_kept : (s i t : ℕ) → tag_at st s i ≡ Some t → tag_at st' s i ≡ Some t
  tag_kept s i t e = let w = tag_there st s i t e in ap tag_in_version (g.versions s i w.0 w.1) ∙ ap Some w.2

  pub durable_kept : (s t : ℕ) → Durable st s t → Durable st' s t
  durable_kept s t d = (d.0, tag_kept s d.0 t d.1, let x = g.sure s in let y = d.2 in omega arith)

  pub link_kept : (l : Link) → IsLink st l → IsLink st' l
  link_kept l d = (d.0, tag_kept l.slot d.0 l.from d.1, tag_kept l.slot (suc d.0) l.to d.2)

  pub past_kept : (b : ℕ) (n : Next) → Past m st b n → Past m' st' b n
  past_kept b n d = (let x = g.gens b in let y = d.0 in omega arith, ⊎_elim inl (λ e. inr (e.0, link_kept e.0 e.1, e.2, e.3, e.4)) d.1)

  pub copied_kept : (c : ℕ × Content) → IsCopied st c → IsCopied st' c
  copied_kept c d = (d.0, d.1, g.versions c.0 d.0 d.1 d.2, d.3, ⊎_elim inl (λ e. inr (let x = g.gone c.0 in omega arith)) d.4)

  pub view_kept : (id : ℕ) (v : View) → ((b : ℕ) → st.place b ≡ Stocked id → Leaves m st m' st' id b) → ((c : ℕ) → v.pass.role ≡ Client c → own h' c ≡ own h c) → ViewOk m st h id v → ViewOk m' st' h' id v
  view_kept id v f o k = record {
    stocked = each_map owned v.pass.stock k.stocked;
    apart = k.apart;
    knows = record { durable = each_map (λ p d. durable_kept p.0 p.1 d) v.pass.durable k.knows.durable; links = each_map link_kept v.pass.links k.knows.links; words = each_map (λ p d. past_kept p.buffer (word p.own p.link) d) v.pass.words k.knows.words; copied = each_map copied_kept v.pass.copied k.knows.copied };
    written = each_map (λ c d. (owned c.tag d.0, (f (home c.tag) d.0.0).body c.place ∙ d.1)) v.pass.written k.written;
    flushed = each_map (λ c d. (owned c.tag d.0, (f (home c.tag) d.0.0).fbody c.place ∙ d.1)) v.pass.flushed k.flushed;
    named = record { names = prefix_trans v.pass.names st.bindings st'.bindings k.named.names g.names; added = ⊎_elim inl (λ d. inr (part_kept v.pass.from v.pass.added st.bindings st'.bindings d g.names)) k.named.added; most = let x = g.count in let y = k.named.most in omega arith };
    history = prefix_trans v.pass.history h h' k.history g.history;
    calls = called v.pass.role v.pass.calls o k.calls;
  }
    where
      owned : (t : ℕ) → Owned m st id t → Owned m' st' id t
      owned t d = let x = f (home t) d.0 in (x.place, ap gen x.next ∙ d.1)

      called : (r : Role) (cs : List Entry) → ((c : ℕ) → r ≡ Client c → own h' c ≡ own h c) → OwnCalls r cs h → OwnCalls r cs h'
      called (Client c) cs o d = d ∙ sym (o c refl)
      called Serving cs o d = tt
      called Granting cs o d = tt
      called Noting cs o d = tt
      called Joined cs o d = tt
      called Restarting cs o d = tt

-- the views after one was renewed
pub nth_set : {A : Type 0} (vs : List A) (i j : ℕ) (v w : A) → nth (set vs i v) j ≡ Some w → ((j ≡ i) × (v ≡ w)) ⊎ ((j ≢ i) × (nth vs j ≡ Some w))
nth_set [] i j v w e = absurd cc
nth_set (x ∷ vs) zero zero v w e = inl (refl, cc)
nth_set (x ∷ vs) zero (suc j) v w e = inr ((λ q. omega arith), e)
nth_set (x ∷ vs) (suc i) zero v w e = inr ((λ q. omega arith), e)
nth_set (x ∷ vs) (suc i) (suc j) v w e = ⊎_elim (λ t. inl (ap suc t.0, t.1)) (λ t. let n = t.0 in inr ((λ h. n (omega arith)), t.1)) (nth_set vs i j v w e)

pub set_here : {A : Type 0} (vs : List A) (i : ℕ) (v w : A) → nth vs i ≡ Some w → nth (set vs i v) i ≡ Some v
set_here [] i v w e = absurd cc
set_here (x ∷ vs) zero v w e = refl
set_here (x ∷ vs) (suc i) v w e = set_here vs i v w e

pub set_away : {A : Type 0} (vs : List A) (i j : ℕ) (v : A) → j ≢ i → nth (set vs i v) j ≡ nth vs j
set_away [] i j v n = refl
set_away (x ∷ vs) zero zero v n = absurd (n refl)
set_away (x ∷ vs) zero (suc j) v n = refl
set_away (x ∷ vs) (suc i) zero v n = refl
set_away (x ∷ vs) (suc i) (suc j) v n = set_away vs i j v (λ e. n (ap suc e))

-- of the views after one was renewed: each had its role before, and the longest history stands where it stood
module _ (vs : List View) (id : ℕ) (v v' : View) (at : nth vs id ≡ Some v) where
  pub role_was : v.pass.role ≡ v'.pass.role → (i : ℕ) (a : View) → nth (renewed vs id v') i ≡ Some a → (y : View) × (nth vs i ≡ Some y) × (y.pass.role ≡ a.pass.role)
  role_was e i a q = ⊎_elim {C = (y : View) × (nth vs i ≡ Some y) × (y.pass.role ≡ a.pass.role)} (λ d. (v, ap (nth vs) d.0 ∙ at, e ∙ ap (λ (z : View). z.pass.role) d.1)) (λ d. (a, d.1, refl)) (nth_set vs id i v' a q)

  pub longest_was : (h : List Entry) → v'.pass.history ≡ v.pass.history → ((j : ℕ) × (a : View) × (nth vs j ≡ Some a) × (a.pass.history ≡ h)) → (j : ℕ) × (a : View) × (nth (renewed vs id v') j ≡ Some a) × (a.pass.history ≡ h)
  longest_was h past (j, a, q, w) = go (ℕ_discrete j id)
    where
      go : Dec (j ≡ id) → (j : ℕ) × (a : View) × (nth (renewed vs id v') j ≡ Some a) × (a.pass.history ≡ h)
      go (yes d) = (id, v', set_here vs id v' v at, past ∙ ap (λ (y : View). y.pass.history) (same_Some v a (sym at ∙ ap (nth vs) (sym d) ∙ q)) ∙ w)
      go (no n) = (j, a, set_away vs id j v' n ∙ q, w)
