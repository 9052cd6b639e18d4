-- What each step over the words needs: the codes stay codes, and the run stays the run.
use Rattle.std.proofs.Common.{◌≡◌, ℕ, ◌+◌, ◌/◌, ◌%◌, ◌<◌, ◌&&◌, List, length, get_or, length-set, get_or-set_other, Bool, true, refl, sym, ap, ◌∙◌, ⊎_elim, arith, subst, nat_lt}
use native.Mathlib.Decide.{ℕ_discrete}
use Rattle.std.specs.Prelude.{Some, None, slice_set}
use Rattle.std.proofs.lemmas.Bool.Decides.{nat_tests}
use Rattle.clover_words.specs.declared.pool.Pool.{Pool}
use Rattle.clover_words.specs.declared.word.Word.{Word}
use Rattle.clover_words.specs.declared.word.Word.TheVariants.{Next as NextOf, Root, Short}
use Rattle.clover_words.specs.declared.word.Side.{Side}
use Rattle.clover_words.specs.declared.word.Side.TheVariants.{Current, Flushed}
use Rattle.clover_words.specs.Place.{IsBuffer, IsWithin, HasSide, address_of, copy_in}
use Rattle.clover_words.proofs.Places.{copy_set, one_address, address_below}
use Rattle.clover_words.specs.Tag.{home, age}
use Rattle.clover_words.specs.Next.{root_code}
use Rattle.clover_words.specs.Version.{buffer_at, content_at}
use Rattle.clover_map.specs.declared.call.Entry.{Entry}
use Rattle.clover_map.specs.Tagged.{Tagged}
use Rattle.clover_rule.specs.Content.{inside, InRange}
use Rattle.clover_rule.specs.Lists.{Within, nth}
use Rattle.clover_rule.specs.Meets.{IsCode, Decodes, OfRun, Meets}
use Rattle.clover_rule.specs.Memory.{Next, word}
use Rattle.clover_rule.specs.Server.{Whole}
use Rattle.clover_rule.specs.Learned.{counted}
use Rattle.clover_rule.specs.Story.{Stocked, Story}
use Rattle.clover_rule.specs.Views.{renewed}
use Rattle.clover_rule.specs.Words.{next_code, root_of, next_of, mem_of}
use Rattle.clover_rule.specs.declared.access.Act.{Act}
use Rattle.clover_rule.specs.declared.view.View.{View}
use Rattle.clover_rule.proofs.Ties.{guard_true, test_below, and_true}
use Rattle.clover_rule.proofs.Steps.{nth_set, set_here, set_away}
use Rattle.clover_rule.proofs.Learning.{recount}

pub decodes_set : (p : Pool) (ws : List ℕ) (w0 : Word) (s0 : Side) (n : ℕ) → Decodes p ws → IsWithin p w0 → HasSide w0 s0 → address_of p w0 s0 < length ws → IsCode w0 n → Decodes p (slice_set ws (address_of p w0 s0) n)
decodes_set p ws w0 s0 n dec hw hs hl code v t hv ht = go (ℕ_discrete (address_of p v t) (address_of p w0 s0))
  where
    go : Dec (address_of p v t ≡ address_of p w0 s0) → IsCode v (copy_in p (slice_set ws (address_of p w0 s0) n) v t)
    go (yes e) = let q = one_address p v t w0 s0 hv ht hw hs e in
        subst (IsCode v) (sym (ap (λ (a : ℕ). get_or (slice_set ws (address_of p w0 s0) n) a 0) e ∙ copy_set p ws w0 s0 n hl)) (subst (λ (z : Word). IsCode z n) (sym q.0) code)
    go (no d) = subst (IsCode v) (sym (get_or-set_other ws (address_of p w0 s0) (address_of p v t) n 0 d)) (dec v t hv ht)

-- tags in range are small
pub tag_small : (p : Pool) (t : ℕ) → InRange p t → t < 4398046511104
unfolding home age
tag_small p t (i, a) = let n = p.nodes_fit in let q : t / 1048576 / 65536 < p.nodes = node_below (t / 1048576) i in omega arith
  where
    node_below : (b : ℕ) → inside p b ≡ true → b / 65536 < p.nodes
    node_below b e = grind (arith, nat_tests)

pub link_code : (p : Pool) (a t : ℕ) → InRange p t → root_code (Some t) < 8796093022208
link_code p a t i = let h = tag_small p t i in omega arith

pub code_is : (w : Next) → next_of (next_code w) ≡ w → next_code (next_of (next_code w)) ≡ next_code w
code_is w e = ap next_code e

pub inside_of : (p : Pool) (b : ℕ) → IsBuffer p (buffer_at b) → inside p b ≡ true
inside_of p b h = and_true (nat_lt (b / 65536) p.nodes) (nat_lt (b % 65536) p.buffers) (test_below (b / 65536) p.nodes h.node) (test_below (b % 65536) p.buffers h.index)

module _ (p : Pool) (ws : List ℕ) where
  pub read_next : (b : ℕ) → inside p b ≡ true → (mem_of p ws).next b ≡ next_of (copy_in p ws (NextOf (buffer_at b)) Current)
  read_next b h = guard_true (inside p b) _ _ (word 0 None) h refl

  pub read_fnext : (b : ℕ) → inside p b ≡ true → (mem_of p ws).fnext b ≡ next_of (copy_in p ws (NextOf (buffer_at b)) Flushed)
  read_fnext b h = guard_true (inside p b) _ _ (word 0 None) h refl

  pub read_body : (b k : ℕ) → inside p b ≡ true → k < 1 + p.words → (mem_of p ws).body b k ≡ copy_in p ws (content_at b k) Current
  read_body b k h i = guard_true (inside p b && nat_lt k (1 + p.words)) _ _ 0 (and_true (inside p b) (nat_lt k (1 + p.words)) h (test_below k (1 + p.words) i)) refl

  pub read_root : (s : ℕ) → s < p.slots → (mem_of p ws).root s ≡ root_of (copy_in p ws (Root s) Current)
  read_root s h = guard_true (nat_lt s p.slots) _ _ None (test_below s p.slots h) refl

  pub read_short : (s : ℕ) → s < p.slots → (mem_of p ws).short s ≡ root_of (copy_in p ws (Short s) Current)
  read_short s h = guard_true (nat_lt s p.slots) _ _ None (test_below s p.slots h) refl

-- the view that a step leaves is one of the same run and of the same actor
pub record SameRun (v y : View) : Type 0 where
  pub role : y.pass.role ≡ v.pass.role
  pub pool : y.pass.pool ≡ v.pass.pool
  pub map : y.pass.map ≡ v.pass.map
  pub used : y.pass.used ≡ v.pass.used
  pub plan : y.plan ≡ v.plan

module _ (p : Pool) (first : Tagged) (used : List ℕ) (ws : List ℕ) (vs : List View) (st : Story) (h : List Entry) (r : Meets p first used ws vs st h) (id : ℕ) (v : View) (at : nth vs id ≡ Some v) where
  -- the stocks of the views after
  in_renewed : (y : View) (st' : Story) → ((t : ℕ) → st'.place (home t) ≡ Stocked id → Within t v.pass.stock → Within t y.pass.stock) → (i : ℕ) (x : View) → nth vs i ≡ Some x → (t : ℕ) → Within t x.pass.stock → (c : ℕ) → home t ≡ c → st'.place c ≡ Stocked i → Dec (i ≡ id)
      → (z : View) × (nth (renewed vs id y) i ≡ Some z) × (u : ℕ) × Within u z.pass.stock × (home u ≡ c)
  in_renewed y st' stock i x q t w c e f (yes d) =
      let same : x ≡ v = (let z : Some x ≡ Some v = sym q ∙ ap (nth vs) d ∙ at in cc) in
      (y, ap (nth (renewed vs id y)) d ∙ set_here vs id y v at, t, stock t (ap st'.place e ∙ f ∙ ap Stocked d) (subst (λ (z : View). Within t z.pass.stock) same w), e)
  in_renewed y st' stock i x q t w c e f (no d) = (x, set_away vs id i y d ∙ q, t, w, e)

  pub stepped : (w0 : Word) (s0 : Side) (n : ℕ) → IsWithin p w0 → HasSide w0 s0 → IsCode w0 n → (y : View) → SameRun v y → (st' : Story) (h' : List Entry) → ((b i : ℕ) → st'.place b ≡ Stocked i → st.place b ≡ Stocked i) → ((t : ℕ) → st'.place (home t) ≡ Stocked id → Within t v.pass.stock → Within t y.pass.stock)
      → Whole p first used (mem_of p (slice_set ws (address_of p w0 s0) n)) (renewed vs id y) st' h'
      → (b : Bool) (a : Act) (k : ℕ) → Meets p first used (slice_set ws (address_of p w0 s0) n) (renewed vs id (counted b a k y)) st' h'
  stepped w0 s0 n hw hs code y run st' h' places stock w b a k =
      let hl : address_of p w0 s0 < length ws = let q = address_below p w0 s0 hw hs in let e = r.sized in omega arith in
      record {
        sized = length-set ws (address_of p w0 s0) n ∙ r.sized;
        decodes = decodes_set p ws w0 s0 n r.decodes hw hs hl code;
        same = λ i z q. ⊎_elim (λ d. let o = r.same id v at in subst (OfRun p first used) d.1 (record { of_pool = run.pool ∙ o.of_pool; from_map = run.map ∙ o.from_map; from_used = run.used ∙ o.from_used })) (λ d. r.same i z d.1) (nth_set vs id i (counted b a k y) z q);
        still = λ i z q. ⊎_elim (λ d. ap (λ (u : View). u.plan) (sym d.1) ∙ run.plan ∙ r.still id v at) (λ d. r.still i z d.1) (nth_set vs id i (counted b a k y) z q);
        stocks = λ c i e. let x = r.stocks c i (places c i e) in in_renewed (counted b a k y) st' stock i x.0 x.1 x.2 x.3 c x.4 e (ℕ_discrete i id);
        whole = recount p first used (mem_of p (slice_set ws (address_of p w0 s0) n)) vs st' h' id v at y b a k w;
      }
