-- What a client knows of the server's directory: its names are the first bindings there, in which no slot and no key stands twice, and which are at most as many as the slots.
use Rattle.std.proofs.Common.{◌≡◌, ℕ, zero, suc, ◌<◌, ◌≤◌, List, [], ◌∷◌, ◌++◌, length, inl, inr, refl, sym, ap, ◌∙◌, subst, arith}
use Rattle.std.specs.Prelude.{Some}
use Rattle.std.proofs.lemmas.List.{append_cancel_right}
use Rattle.clover_rule.specs.Holding.{IsServer}
use Rattle.clover_rule.specs.Lists.{Each, IsPrefix, Within, nth}
use Rattle.clover_rule.specs.Moves.{nobody}
use Rattle.clover_rule.specs.Names.{KeysOnce}
use Rattle.clover_rule.specs.Server.{waiting_name}
use Rattle.clover_rule.specs.Views.{SlotsOnce}
use Rattle.clover_rule.specs.declared.view.Role.TheVariants.{Serving}
use Rattle.clover_rule.specs.declared.view.ServerTask.{ServerTask}
use Rattle.clover_rule.specs.declared.view.View.{View}
use Rattle.clover_plain.specs.Plain.{Plain, Running, view_at}
use Rattle.clover_plain.proofs.Opening.{server_role}
use Rattle.clover_plain.proofs.Seating.{at_front}
use Rattle.clover_plain.proofs.Stepping.{nth_default}
use Rattle.clover_server.specs.Server.{ServerState}
use Rattle.clover_run.specs.Client.{Phase, Stands}
use Rattle.clover_run.specs.Run.{Opening}
use Rattle.clover_run.specs.Working.{HasServer}
use Rattle.clover_run.specs.declared.client.ClientState.{ClientState}

-- an element at a place stands in the list, and what holds at each place holds of each element
pub nth_in : {A : Type 0} (l : List A) (i : ℕ) (a : A) → nth l i ≡ Some a → Within a l
nth_in [] i a e = absurd cc
nth_in (x ∷ l) zero a e = inl (let h = e in cc)
nth_in (x ∷ l) (suc i) a e = inr (nth_in l i a e)

pub each_within : {A : Type 0} (P : A → Type 0) (l : List A) → ((a : A) → Within a l → P a) → Each P l
each_within P [] h = tt
each_within P (x ∷ l) h = (h x (inl refl), each_within P l (λ a w. h a (inr w)))

module _ (p : Plain) (s : ServerState) (runs : Running p) (h : HasServer p s) where
  abbrev sv : View
  sv = view_at p p.setup.clients

  here : nth p.views p.setup.clients ≡ Some sv
  here = nth_default p.views p.setup.clients nobody h.seat

  -- the server's seat has the server's role
  pub server_serves : sv.pass.role ≡ Serving
  server_serves = runs.roles p.setup.clients sv here ∙ server_role p.setup p.setup.clients (omega arith)

  there : nth (p.views ++ p.absent) p.setup.clients ≡ Some sv
  there = at_front p.views p.absent p.setup.clients sv here

  is_server : IsServer (p.views ++ p.absent) sv
  is_server = (p.setup.clients, there, server_serves)

  -- the server's list is the bindings of the rule
  pub list_is : s.directory.list ≡ runs.rule.bindings
  list_is = append_cancel_right s.directory.list runs.rule.bindings (waiting_name runs.rule.task)
      (ap (λ (t : ServerTask). s.directory.list ++ waiting_name t) (sym (runs.rule.task_is sv is_server)) ∙ sym h.agrees.directory.list ∙ runs.rule.names_and_count.directory sv is_server)

  -- no key and no slot stands twice there
  pub list_once : KeysOnce s.directory.list
  list_once = subst KeysOnce (sym list_is) runs.rule.names_and_count.keys_once

  pub list_slots : SlotsOnce s.directory.list
  list_slots = subst SlotsOnce (sym list_is) runs.rule.names_and_count.slots_once

  -- there are at most as many as slots
  pub list_few : length s.directory.list ≤ p.setup.pool.slots
  list_few =
      let n = runs.rule.names_and_count in
      subst (λ (l : List (ℕ × List ℕ)). length l ≤ p.setup.pool.slots) (sym list_is) (subst (λ (k : ℕ). k ≤ p.setup.pool.slots) n.count n.few)

  -- each of them is of a slot of the pool
  pub list_within : Each (λ (q : ℕ × List ℕ). q.0 < p.setup.pool.slots) s.directory.list
  list_within =
      let w = runs.rule.helped.whole in
      let story = runs.rule.story in
      let serves = w.serves p.setup.clients sv there server_serves in
      let is : s.directory.list ≡ story.bindings = append_cancel_right s.directory.list story.bindings (waiting_name story.task)
      (ap (λ (t : ServerTask). s.directory.list ++ waiting_name t) (sym serves.task_is) ∙ sym h.agrees.directory.list ∙ serves.directory) in
      each_within (λ (q : ℕ × List ℕ). q.0 < p.setup.pool.slots) s.directory.list
      (λ q z. w.help.keyed.slots q.0 q.1 (w.basis.bound q.0 q.1 (subst (Within q) is z)).0)

  module _ (o : Opening) (i : ℕ) (x : ClientState) (f : Phase) (stands : Stands o p i x f) where
    client_seat : i < length p.views
    client_seat = let a = stands.seat in let b = stands.seats in omega arith

    -- the names that a client has are the first of the list
    pub known_names : (rest : List (ℕ × List ℕ)) × (s.directory.list ≡ x.node.names ++ rest)
    known_names =
        let v = view_at p i in
        let at = at_front p.views p.absent i v (nth_default p.views i nobody client_seat) in
        let first : IsPrefix v.pass.names runs.rule.bindings = runs.rule.names_and_count.names v (nth_in (p.views ++ p.absent) i v at) in
        (first.0, list_is ∙ first.1 ∙ ap (λ (l : List (ℕ × List ℕ)). l ++ first.0) stands.holds.names)
