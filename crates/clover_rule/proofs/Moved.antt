-- Views move to other positions; and a note is split off.
use Rattle.std.proofs.Common.{◌≡◌, ℕ, List, [], ◌∷◌, ◌++◌, set, refl, sym, ap, ◌∙◌, inl, inr, ⊎_elim}
use Rattle.std.specs.Prelude.{Some}
use Rattle.clover_map.specs.declared.call.Entry.{Entry}
use Rattle.clover_map.specs.Tagged.{Tagged}
use Rattle.clover_map.specs.Legal.{used_by}
use Rattle.clover_rule.specs.Lists.{nth}
use Rattle.clover_rule.specs.Memory.{gen, Mem}
use Rattle.clover_rule.specs.Server.{Ready, Help, book_of, Whole}
use Rattle.clover_rule.specs.Story.{Place, Chained, Stocked, Free, Worn, Taken, Loose, Story, Core}
use Rattle.clover_rule.specs.Views.{Owned, ViewOk, Basis}
use Rattle.clover_rule.specs.Moves.{note_of}
use Rattle.clover_rule.specs.declared.view.Role.TheVariants.{Client}
use Rattle.clover_rule.specs.declared.view.View.{View}
use Rattle.clover_words.specs.declared.pool.Pool.{Pool}
use Rattle.clover_rule.proofs.Cores.{core_but}
use Rattle.clover_rule.proofs.Steps.{each_map}
use Rattle.clover_rule.proofs.ServerTools.{tale_copy}
use Rattle.clover_rule.proofs.Staying.{help_kept}
use Rattle.clover_rule.proofs.Seats.{split_whole}

abbrev pub moved : (ℕ → ℕ) → Place → Place
moved f (Stocked i) = Stocked (f i)
moved f (Chained s) = Chained s
moved f Free = Free
moved f Worn = Worn
moved f Taken = Taken

-- what tells no two stocks apart held before
was : (f : ℕ → ℕ) (P : Place → Type 0) → ((i j : ℕ) → P (Stocked i) → P (Stocked j)) → (p : Place) → P (moved f p) → P p
was f P g (Chained s) e = e
was f P g (Stocked i) e = g (f i) i e
was f P g Free e = e
was f P g Worn e = e
was f P g Taken e = e

module _ (l : Pool) (m0 : Tagged) (used : List ℕ) (m : Mem) (vs vs' : List View) (st : Story) (h : List Entry) (w : Whole l m0 used m vs st h) (f : ℕ → ℕ)
    (there : (i : ℕ) (y : View) → nth vs i ≡ Some y → nth vs' (f i) ≡ Some y) (back : (k : ℕ) (y : View) → nth vs' k ≡ Some y → (i : ℕ) × (nth vs i ≡ Some y) × (f i ≡ k)) where
  abbrev pub st' : Story
  st' = record st { place = λ (b : ℕ). moved f (st.place b) }

  abbrev r : Basis m0 used m vs st h
  r = w.basis

  owned : (i t : ℕ) → Owned m st i t → Owned m st' (f i) t
  owned i t d = (ap (moved f) d.0, d.1)

  view_moved : (i : ℕ) (y : View) → ViewOk m st h i y → ViewOk m st' h (f i) y
  view_moved i y k = record {
    stocked = each_map (owned i) y.pass.stock k.stocked;
    apart = k.apart;
    knows = let a = k.knows in record { durable = a.durable; links = a.links; words = a.words; copied = a.copied };
    written = each_map (λ c d. (owned i c.tag d.0, d.1)) y.pass.written k.written;
    flushed = each_map (λ c d. (owned i c.tag d.0, d.1)) y.pass.flushed k.flushed;
    named = k.named;
    history = k.history;
    calls = k.calls;
  }

  was_held : (b : ℕ) → moved f (st.place b) ≡ Taken → st.place b ≡ Taken
  was_held b e = was f (λ q. q ≡ Taken) (λ i j d. absurd cc) (st.place b) e

  core' : Core m st'
  core' = let c = r.core in core_but m st c m.fnext st'.place st.named m.body m.fbody m.key m.fkey m.short m.count st.keys st.first st.bindings st.task st.slot_named (λ s i t x. x.safe) (λ y s e. (ap (moved f) e, refl)) (λ s e n. n)
      (λ y e. c.loose y (was f Loose (λ i j d. d) (st.place y) e)) (λ y e. c.held y (was_held y e)) (λ y s e. c.chained y s (was f (λ q. q ≡ Chained s) (λ i j d. absurd cc) (st.place y) e))

  help' : Help l m st'
  help' = let p = w.help in let a = p.ranged in help_kept l m st m.fnext m.body m.fbody m.short st'.place st.sure (λ s j q. q) (λ b e. (ap (moved f) e, refl, refl, refl)) p
      record { tags = a.tags; own = a.own; below = a.below; fits = a.fits; ready = λ b e. a.ready b (was f Ready (λ i j d. d) (st.place b) e); worn = λ b i e. a.worn b i (was f (λ q. q ≡ Worn) (λ i j d. absurd cc) (st.place b) e) }
      (λ b e. p.stage.holds b (was_held b e)) p.short

  book_moved : (q : Place) (g b : ℕ) → book_of st.task st q g b ≡ book_of st.task st' (moved f q) g b
  book_moved (Chained s) g b = refl
  book_moved (Stocked i) g b = refl
  book_moved Free g b = refl
  book_moved Worn g b = refl
  book_moved Taken g b = refl

  pub moved_whole : Whole l m0 used m vs' st' h
  moved_whole = record {
    basis = record {
      core = core';
      tale = tale_copy st m0 used h r.tale st'.place st.gone st.lead st.flead st.named st.bindings st.task st.slot_named;
      bodies = r.bodies;
      spent = each_map (λ y q. ⊎_elim inl (λ a. inr (a.0, ap (moved f) a.1, a.2)) q) (used_by used h) r.spent;
      bound = r.bound;
      keyed = r.keyed;
      views = λ k y e. let a = back k y e in rw (← a.2) (view_moved a.0 y (r.views a.0 y a.1));
      numbered = λ i j n y z e g a b. let c = back i y e in let d = back j z g in sym c.2 ∙ ap f (r.numbered c.0 d.0 n y z c.1 d.1 a b) ∙ d.2;
      longest = let o = r.longest in (f o.0, o.1, there o.0 o.1 o.2, o.3);
    };
    help = help';
    serves = λ k y e q. let a = back k y e in let s = w.serves a.0 y a.1 q in record { task_is = s.task_is; directory = s.directory; roots = s.roots; books = λ b i. s.books b i ∙ book_moved (st.place b) (gen (m.next b)) b };
    one = λ i j y z e g a b. let c = back i y e in let d = back j z g in sym c.2 ∙ ap f (w.one c.0 d.0 y z c.1 d.1 a b) ∙ d.2;
    safe = w.safe;
    made = λ i j n y z e g a b. w.made (back i y e).0 (back j z g).0 n y z (back i y e).1 (back j z g).1 a b;
    entered = λ k y e q. w.entered (back k y e).0 y (back k y e).1 q;
  }

-- a note is split off a pass
module _ (l : Pool) (m0 : Tagged) (used : List ℕ) (m : Mem) (vs : List View) (st : Story) (h : List Entry) (w : Whole l m0 used m vs st h) (id : ℕ) (v : View) (at : nth vs id ≡ Some v) (n : ℕ) (role : v.pass.role ≡ Client n) where
  pub note_whole : Whole l m0 used m (set vs id v ++ note_of v ∷ []) st h
  note_whole = let k = w.basis.views id v at in split_whole l m0 used m vs st h w id v v (note_of v) at [] tt refl refl refl (λ e. cc) (λ c e. cc) k
      (record { stocked = tt; apart = tt; knows = record { durable = tt; links = tt; words = tt; copied = tt }; written = tt; flushed = tt; named = record { names = k.named.names; added = inl refl; most = k.named.most }; history = k.history; calls = tt })
      (λ e. absurd (cc (role, e))) (λ sv e q. e)
