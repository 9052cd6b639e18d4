-- The law of the raise over a link.
use Rattle.std.proofs.Common.{◌≡◌, ℕ, suc, ◌<◌, ◌≢◌, ◌⊎◌, List, true, refl, ◌∙◌, inl, inr, arith}
use Rattle.std.specs.Prelude.{Some}
use Rattle.clover_map.specs.declared.call.Entry.{Entry}
use Rattle.clover_map.specs.Tagged.{Tagged}
use Rattle.clover_rule.specs.Changes.{raised_mem, raised_story}
use Rattle.clover_rule.specs.Lists.{nth, Within}
use Rattle.clover_rule.specs.Memory.{Mem}
use Rattle.clover_rule.specs.Story.{Stocked, Story, Core, Tale, unsure}
use Rattle.clover_rule.specs.Views.{IsLink, ViewOk, Basis, renewed, raise_view}
use Rattle.clover_rule.specs.declared.view.Link.{Link}
use Rattle.clover_rule.specs.declared.view.View.{View}
use Rattle.clover_rule.proofs.Steps.{each_within, prefix_self, Grows, Leaves, view_kept, nth_set, role_was, longest_was}
use Rattle.clover_rule.proofs.Raising.{raise_core, raised_more, raised_now}
use Rattle.clover_rule.proofs.Cuts.{unread_less, unsure_less}

module _ (m0 : Tagged) (used : List ℕ) (m : Mem) (vs : List View) (st : Story) (h : List Entry) (r : Basis m0 used m vs st h)
    (id : ℕ) (v : View) (at : nth vs id ≡ Some v) (l : Link) (p : Within l v.pass.links) where
  ok : ViewOk m st h id v
  ok = r.views id v at

  pub known : IsLink st l
  known = each_within (IsLink st) l v.pass.links ok.knows.links p

  abbrev i : ℕ
  i = known.0

  abbrev m' : Mem
  m' = raised_mem m l.from l.to

  abbrev st' : Story
  st' = raised_story st l.slot i

  abbrev v' : View
  v' = raise_view v l

  core' : Core m' st'
  core' = raise_core m st l.slot i l.from l.to r.core record { from = known.1; to = known.2 }

  now_sure : suc i < st'.sure l.slot
  now_sure = raised_now st l.slot i

  less_unsure : (t : ℕ) → unsure st' t ≡ true → unsure st t ≡ true
  less_unsure t q = let a = raised_more st l.slot i (st.slot_of t) in unsure_less (st.sure (st.slot_of t)) (st'.sure (st.slot_of t)) (st.rank t) a q

  tale' : Tale st' m0 used h
  tale' = record {
    legal = r.tale.legal;
    told = r.tale.told;
    began = r.tale.began;
    unread = unread_less (unsure st) (unsure st') less_unsure h r.tale.unread;
    settled = λ s j w e. let a = r.tale.settled s j w e in let b = raised_more st l.slot i s in omega arith;
    unbound = r.tale.unbound;
  }

  pub grows : Grows m st h m' st' h
  grows = record { versions = λ s1 i1 w1 q. q; sure = raised_more st l.slot i; gone = λ j. omega arith; gens = λ b. omega arith; names = prefix_self st.bindings; count = omega arith; history = prefix_self h }

  leaves : (j b : ℕ) → st.place b ≡ Stocked j → Leaves m st m' st' j b
  leaves j b o = record { place = o; next = refl; body = λ y. refl; fbody = λ y. refl }

  new_ok : ViewOk m' st' h id v'
  new_ok = let a = view_kept m st h m' st' h grows id v (leaves id) (λ c f. refl) ok in record {
    stocked = a.stocked;
    apart = a.apart;
    knows = record { durable = ((suc i, known.2, now_sure), a.knows.durable); links = a.knows.links; words = a.knows.words; copied = a.knows.copied };
    written = a.written;
    flushed = a.flushed;
    named = a.named;
    history = a.history;
    calls = a.calls;
  }

  views' : (i1 : ℕ) (v1 : View) → nth (renewed vs id v') i1 ≡ Some v1 → ViewOk m' st' h i1 v1
  views' i1 v1 q = go (nth_set vs id i1 v' v1 q)
    where
      go : ((i1 ≡ id) × (v' ≡ v1)) ⊎ ((i1 ≢ id) × (nth vs i1 ≡ Some v1)) → ViewOk m' st' h i1 v1
      go (inl a) = rw (a.0, ← a.1) new_ok
      go (inr a) = view_kept m st h m' st' h grows i1 v1 (leaves i1) (λ c f. refl) (r.views i1 v1 a.1)

  pub rule' : Basis m0 used m' (renewed vs id v') st' h
  rule' = record {
    core = core';
    tale = tale';
    bodies = r.bodies;
    spent = r.spent;
    bound = r.bound;
    keyed = r.keyed;
    views = views';
    numbered = λ i1 j1 c a b qa qb ra rb. let x1 = role_was vs id v v' at refl i1 a qa in let y1 = role_was vs id v v' at refl j1 b qb in r.numbered i1 j1 c x1.0 y1.0 x1.1 y1.1 (x1.2 ∙ ra) (y1.2 ∙ rb);
    longest = longest_was vs id v v' at h refl r.longest;
  }
