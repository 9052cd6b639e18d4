-- What a client's loads teach, and that counting changes nothing.
use Rattle.std.proofs.Common.{◌≡◌, ℕ, List, ◌∷◌, Bool, true, false, cond, eqb, refl, sym, ap, ◌∙◌, arith, subst, eqb-true}
use Rattle.std.specs.Prelude.{Option, Some, None}
use Rattle.std.proofs.lemmas.List.{set-set}
use Rattle.clover_words.specs.Tag.{home, age}
use Rattle.clover_map.specs.declared.call.Entry.{Entry}
use Rattle.clover_map.specs.Tagged.{Tagged}
use Rattle.clover_map.specs.Legal.{used_by}
use Rattle.clover_rule.specs.Lists.{upd, Each, Within, nth}
use Rattle.clover_rule.specs.Memory.{Next, word, Mem}
use Rattle.clover_rule.specs.Server.{Whole}
use Rattle.clover_rule.specs.Learned.{seen, started, counts, counted}
use Rattle.clover_rule.specs.Steps.{IsClient, client}
use Rattle.clover_rule.specs.Story.{Story, tag_at, Durable}
use Rattle.clover_rule.specs.Views.{Basis, ViewOk, renewed, Past, IsLink, shown}
use Rattle.clover_rule.specs.declared.access.Act.{Act}
use Rattle.clover_rule.specs.declared.view.View.{View}
use Rattle.clover_words.specs.declared.pool.Pool.{Pool}
use Rattle.clover_rule.proofs.Standings.{tag_there, tag_within}
use Rattle.clover_rule.proofs.Steps.{each_map, each_within, set_here}
use Rattle.clover_rule.proofs.Derived.{current_past}
use Rattle.clover_rule.proofs.Quiet.{loaded_link, loaded_body}
use Rattle.clover_rule.proofs.ClientLaws.{quiet_whole, short_whole}
use Rattle.clover_rule.proofs.ServerTools.{core_copy, own_whole}

module _ (p : Pool) (m0 : Tagged) (used : List ℕ) (m : Mem) (vs : List View) (st : Story) (h : List Entry) (w : Whole p m0 used m vs st h) (id : ℕ) (v : View) (at : nth vs id ≡ Some v) (cl : IsClient v) where
  ok : ViewOk m st h id v
  ok = w.basis.views id v at

  pub seen_whole : (s t : ℕ) → Within (s, t) v.pass.durable → (n : Next) → m.next (home t) ≡ n → Whole p m0 used m (renewed vs id (seen s t v n)) st h
  seen_whole s t d (word a None) e = quiet_whole p m0 used m vs st h w id v at (client v) cl (seen s t v (word a None)) refl refl
      record { stocked = ok.stocked; apart = ok.apart; knows = record { durable = ok.knows.durable; links = ok.knows.links; words = (subst (Past m st (home t)) e (current_past m st w.basis.core (home t)), ok.knows.words); copied = ok.knows.copied }; written = ok.written; flushed = ok.flushed; named = ok.named; history = ok.history; calls = ok.calls }
  seen_whole s t d (word a (Some u)) e = go (eqb a (age t)) refl
    where
      seen_link : Bool → View
      seen_link b = record v { pass = record v.pass { words = shown (home t) a (Some u) ∷ v.pass.words; links = cond b (record { slot = s; from = t; to = u } ∷ v.pass.links) v.pass.links } }

      linked : (b : Bool) → eqb a (age t) ≡ b → Each (IsLink st) (cond b (record { slot = s; from = t; to = u } ∷ v.pass.links) v.pass.links)
      linked true q = (loaded_link m st w.basis.core s t (each_within (λ (z : ℕ × ℕ). Durable st z.0 z.1) (s, t) v.pass.durable ok.knows.durable d) u (e ∙ ap (λ (y : ℕ). word y (Some u)) (eqb-true a (age t) q)), ok.knows.links)
      linked false q = ok.knows.links

      go : (b : Bool) → eqb a (age t) ≡ b → Whole p m0 used m (renewed vs id (record v { pass = record v.pass { words = shown (home t) a (Some u) ∷ v.pass.words; links = cond b (record { slot = s; from = t; to = u } ∷ v.pass.links) v.pass.links } })) st h
      go b q = quiet_whole p m0 used m vs st h w id v at (client v) cl (record v { pass = record v.pass { words = shown (home t) a (Some u) ∷ v.pass.words; links = cond b (record { slot = s; from = t; to = u } ∷ v.pass.links) v.pass.links } }) refl refl
          record { stocked = ok.stocked; apart = ok.apart; knows = record { durable = ok.knows.durable; links = linked b q; words = (subst (Past m st (home t)) e (current_past m st w.basis.core (home t)), ok.knows.words); copied = ok.knows.copied }; written = ok.written; flushed = ok.flushed; named = ok.named; history = ok.history; calls = ok.calls }

  pub started_whole : (s : ℕ) (o : Option ℕ) → ((t : ℕ) → o ≡ Some t → Durable st s t) → Whole p m0 used m (renewed vs id (started s v o)) st h
  started_whole s None f = quiet_whole p m0 used m vs st h w id v at (client v) cl v refl refl ok
  started_whole s (Some t) f = quiet_whole p m0 used m vs st h w id v at (client v) cl (started s v (Some t)) refl refl
      record { stocked = ok.stocked; apart = ok.apart; knows = record { durable = (f t refl, ok.knows.durable); links = ok.knows.links; words = ok.knows.words; copied = ok.knows.copied }; written = ok.written; flushed = ok.flushed; named = ok.named; history = ok.history; calls = ok.calls }

  pub root_durable : (s t : ℕ) → m.root s ≡ Some t → Durable st s t
  root_durable s t e = let a : tag_at st s (st.lead s) ≡ Some t = sym (w.basis.core.root s) ∙ e in let b = tag_within st s (st.lead s) t a in (st.lead s, a, w.basis.core.rooted s (omega arith))

  pub copied_whole : (s t j : ℕ) → Within (s, t) v.pass.durable → Whole p m0 used m (renewed vs id (record v { pass = record v.pass { copied = (s, record { tag = t; place = j; word = m.body (home t) j }) ∷ v.pass.copied } })) st h
  copied_whole s t j d =
      let k : Durable st s t = each_within (λ (z : ℕ × ℕ). Durable st z.0 z.1) (s, t) v.pass.durable ok.knows.durable d in
      let y = tag_there st s k.0 t k.1 in
      quiet_whole p m0 used m vs st h w id v at (client v) cl (record v { pass = record v.pass { copied = (s, record { tag = t; place = j; word = m.body (home t) j }) ∷ v.pass.copied } }) refl refl
      record {
        stocked = ok.stocked;
        apart = ok.apart;
        knows = record { durable = ok.knows.durable; links = ok.knows.links; words = ok.knows.words; copied = (loaded_body m st w.basis.core s t k y.0 y.1 (λ g. w.basis.bodies s k.0 y.0 y.1 g) j, ok.knows.copied) };
        written = ok.written;
        flushed = ok.flushed;
        named = ok.named;
        history = ok.history;
        calls = ok.calls;
      }

  pub counts_whole : Whole p m0 used m (renewed vs id (counts v m.count)) st h
  counts_whole = quiet_whole p m0 used m vs st h w id v at (client v) cl (counts v m.count) refl refl
      record { stocked = ok.stocked; apart = ok.apart; knows = ok.knows; written = ok.written; flushed = ok.flushed; named = record { names = ok.named.names; added = ok.named.added; most = let q = ok.named.most in omega arith }; history = ok.history; calls = ok.calls }

  -- a shortcut that is stored
  pub lead_whole : (s t : ℕ) → Within (s, t) v.pass.durable → Whole p m0 used (record m { short = upd m.short s (Some t) }) (renewed vs id v) st h
  lead_whole s t d = short_whole p m0 used m vs st h w id v at (client v) s t cl d
      (let r : Basis m0 used m (renewed vs id v) st h = (quiet_whole p m0 used m vs st h w id v at (client v) cl v refl refl ok).basis in record {
        core = core_copy m st r.core m.body m.fbody m.key m.fkey (upd m.short s (Some t)) m.count st.keys st.first st.bindings st.task st.slot_named;
        tale = r.tale;
        bodies = r.bodies;
        spent = each_map (λ y a. a) (used_by used h) r.spent;
        bound = r.bound;
        keyed = r.keyed;
        numbered = r.numbered;
        longest = r.longest;
        views = λ i y q. let a = r.views i y q in record { stocked = each_map (λ y1 b. b) y.pass.stock a.stocked; apart = a.apart; knows = record { durable = a.knows.durable; links = a.knows.links; words = each_map (λ y1 b. b) y.pass.words a.knows.words; copied = a.knows.copied }; written = each_map (λ y1 b. b) y.pass.written a.written; flushed = each_map (λ y1 b. b) y.pass.flushed a.flushed; named = a.named; history = a.history; calls = a.calls };
      })

-- counting is read by no fact
pub recount : (p : Pool) (m0 : Tagged) (used : List ℕ) (m : Mem) (vs : List View) (st : Story) (h : List Entry) (id : ℕ) (v : View) → nth vs id ≡ Some v → (y : View) → (first : Bool) (a : Act) (n : ℕ) → Whole p m0 used m (renewed vs id y) st h → Whole p m0 used m (renewed vs id (counted first a n y)) st h
recount p m0 used m vs st h id v at y first a n w =
    let here : nth (renewed vs id y) id ≡ Some y = set_here vs id y v at in
    let ok : ViewOk m st h id y = w.basis.views id y here in
    subst (λ (l : List View). Whole p m0 used m l st h) (set-set vs id y (counted first a n y))
    (own_whole p m0 used m (renewed vs id y) st h w id y (counted first a n y) here refl refl
    record { stocked = ok.stocked; apart = ok.apart; knows = ok.knows; written = ok.written; flushed = ok.flushed; named = ok.named; history = ok.history; calls = ok.calls }
    (λ ro e. e) refl)
