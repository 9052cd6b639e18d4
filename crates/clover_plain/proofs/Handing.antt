-- A grant keeps the pool running.
use Rattle.std.proofs.Common.{◌≡◌, ◌≢◌, ℕ, ◌-◌, ◌<◌, ◌≤◌, List, ◌++◌, length, set, refl, sym, ap, ◌∙◌, subst, ⊎_elim, arith}
use Rattle.std.specs.Prelude.{Some}
use Rattle.std.proofs.lemmas.List.{length-set}
use Rattle.clover_map.specs.declared.call.Entry.{Entry}
use Rattle.clover_map.specs.Tagged.{Tagged}
use Rattle.clover_rule.specs.Lists.{IsPrefix, nth}
use Rattle.clover_rule.specs.Moves.{MayHand, given, giving, nobody}
use Rattle.clover_rule.specs.Rule.{Rule, longest}
use Rattle.clover_rule.specs.declared.view.View.{View}
use Rattle.clover_rule.proofs.Longest.{longest_law}
use Rattle.clover_rule.proofs.Moving.{hand_over_law}
use Rattle.clover_rule.proofs.Steps.{nth_set, set_away}
use Rattle.clover_plain.specs.Plain.{Plain, Running, first_of, history, role_at, used_of, view_at}
use Rattle.clover_plain.proofs.Seating.{at_front, first_set, set_front, used_set}
use Rattle.clover_plain.proofs.Stepping.{nth_default, rule_as}

module _ (p : Plain) (client : ℕ) (batch : List ℕ) (names : List (ℕ × List ℕ)) (r : Running p) (server : p.setup.clients < length p.views) (low : 1 ≤ client) (high : client ≤ p.setup.clients)
    (may : MayHand p.setup.pool (view_at p p.setup.clients) (view_at p (client - 1)) batch names) where
  abbrev n : ℕ
  n = p.setup.clients

  abbrev j : ℕ
  j = client - 1

  abbrev sv : View
  sv = view_at p n

  abbrev cv : View
  cv = view_at p j

  apart : j ≢ n
  apart e = omega arith

  pub server_at : nth p.views n ≡ Some sv
  server_at = nth_default p.views n nobody server

  client_at : nth p.views j ≡ Some cv
  client_at = nth_default p.views j nobody (omega arith)

  abbrev one : List View
  one = set p.views n (giving batch sv)

  -- the client's view, once the server's is new
  pub client_then : nth one j ≡ Some cv
  client_then = set_away p.views n j (giving batch sv) apart ∙ client_at

  abbrev pub both : List View
  both = set one j (given batch names cv)

  pub first_both : first_of both ≡ first_of p.views
  first_both = first_set one j (given batch names cv) (λ v e. let z : Some cv ≡ Some v = sym client_then ∙ e in let y : cv ≡ v = cc in ap (λ (w : View). w.pass.map) y)
      ∙ first_set p.views n (giving batch sv) (λ v e. let z : Some sv ≡ Some v = sym server_at ∙ e in let y : sv ≡ v = cc in ap (λ (w : View). w.pass.map) y)

  pub used_both : used_of both ≡ used_of p.views
  used_both = used_set one j (given batch names cv) (λ v e. let z : Some cv ≡ Some v = sym client_then ∙ e in let y : cv ≡ v = cc in ap (λ (w : View). w.pass.used) y)
      ∙ used_set p.views n (giving batch sv) (λ v e. let z : Some sv ≡ Some v = sym server_at ∙ e in let y : sv ≡ v = cc in ap (λ (w : View). w.pass.used) y)

  all : set (set (p.views ++ p.absent) n (giving batch sv)) j (given batch names cv) ≡ both ++ p.absent
  all = ap (λ (l : List View). set l j (given batch names cv)) (set_front p.views p.absent n (giving batch sv) server) ∙ set_front one p.absent j (given batch names cv) (let z = length-set p.views n (giving batch sv) in omega arith)

  rule_both : Rule p.setup.pool p.first p.used p.words (both ++ p.absent) (history p)
  rule_both = subst (λ (l : List View). Rule p.setup.pool p.first p.used p.words l (history p)) all
      (hand_over_law p.setup.pool p.first p.used p.words (p.views ++ p.absent) (history p) n j sv cv batch names r.rule (at_front p.views p.absent n sv server_at) (at_front p.views p.absent j cv client_at) may)

  module _ (vs : List View) (f : Tagged) (u : List ℕ) (views : vs ≡ both) (firsts : f ≡ p.first) (useds : u ≡ p.used) where
    abbrev q : Plain
    q = record p { views = vs; first = f; used = u }

    views_are : q.views ++ q.absent ≡ both ++ p.absent
    views_are = ap (λ (l : List View). l ++ p.absent) views

    pub history_same : history q ≡ history p
    history_same = ap longest views_are ∙ longest_law p.setup.pool p.first p.used p.words (both ++ p.absent) (history p) rule_both

    roles : (i : ℕ) (v : View) → nth q.views i ≡ Some v → v.pass.role ≡ role_at p.setup i
    roles i v e = ⊎_elim
        (λ d. ap (λ (w : View). w.pass.role) (sym d.1) ∙ r.roles j cv client_at ∙ ap (role_at p.setup) (sym d.0))
        (λ d. ⊎_elim
        (λ c. ap (λ (w : View). w.pass.role) (sym c.1) ∙ r.roles n sv server_at ∙ ap (role_at p.setup) (sym c.0))
        (λ c. r.roles i v c.1)
        (nth_set p.views n i (giving batch sv) v d.1))
        (nth_set one j i (given batch names cv) v (ap (λ (l : List View). nth l i) (sym views) ∙ e))

    pub running : Running q
    running = record {
      rule = rule_as p.setup.pool p.setup.pool p.first f p.used u p.words p.words (both ++ p.absent) (q.views ++ q.absent) (history p) (history q) refl firsts useds refl views_are history_same rule_both;
      entered = subst (λ (h : List Entry). IsPrefix p.entries h) (sym history_same) r.entered;
      story = r.story;
      untraced = r.untraced;
      roles = roles;
    }
