-- Room that was made in a pool changes nothing of what is said of a client that the server's side may serve, nor of a step that served it.
use Prim.Native.Nat.{suc}
use Rattle.std.proofs.Common.{◌≡◌, ℕ, ◌<◌, List, [], ◌++◌, length, get_or, if◌then◌else◌, sym, ap, ◌∙◌, subst, option_to_list}
use Rattle.std.specs.Prelude.{Option, None}
use Rattle.clover_words.specs.declared.setup.Setup.{Setup}
use Rattle.clover_map.specs.History.{own}
use Rattle.clover_map.specs.declared.call.Entry.{Entry}
use Rattle.clover_rule.specs.Moves.{nobody}
use Rattle.clover_rule.specs.Rule.{longest}
use Rattle.clover_rule.specs.declared.access.Access.{Access}
use Rattle.clover_rule.specs.declared.view.View.{View}
use Rattle.clover_plain.specs.Plain.{Kept, Plain, Running, history, view_at}
use Rattle.clover_node.specs.Node.{NodeHolds}
use Rattle.clover_server.specs.Holding.{Agrees}
use Rattle.clover_server.specs.Server.{ServerState}
use Rattle.clover_event.specs.Client.{HasLinked}
use Rattle.clover_event.specs.Folds.{made_by, words_by}
use Rattle.clover_run.specs.Client.{LacksNames, Matches, Moved, Phase, Stands, Wants, call_at, step_record}
use Rattle.clover_run.specs.Run.{Opening}
use Rattle.clover_run.specs.Serving.{IsServed}
use Rattle.clover_run.specs.Working.{Gained, HasServer, MayServe, OnGrant, Regards, WasServed}
use Rattle.clover_run.specs.declared.client.ClientState.{ClientState}
use Rattle.clover_run.specs.declared.event.Note.{Note}
use Rattle.clover_run.specs.declared.served.Served.{Served}
use Rattle.clover_run.proofs.Lasting.{known_same}

module _ (p q : Plain) (k : Kept p q) where
  pub kept_view : (i : ℕ) → view_at q i ≡ view_at p i
  kept_view i = λ z. get_or (k.views z) i nobody

  kept_history : history q ≡ history p
  kept_history = λ z. longest (k.views z ++ k.absent z)

  -- but for its room it is the same pool
  abbrev roomy : Plain
  roomy = record p { access_room = q.access_room; entry_room = q.entry_room }

  kept_is : q ≡ roomy
  kept_is = λ z. record {
    setup = k.setup z;
    first = k.first z;
    used = k.used z;
    start = k.start z;
    words = k.words z;
    views = k.views z;
    absent = k.absent z;
    entries = k.entries z;
    traced = k.traced z;
    accesses = k.accesses z;
    made = k.made z;
    opened = k.opened z;
    whole = k.whole z;
    access_room = q.access_room;
    entry_room = q.entry_room;
  }

  pub running_kept : Running p → Running q
  running_kept r = subst Running (sym kept_is) (record { rule = r.rule; entered = r.entered; story = r.story; untraced = r.untraced; roles = r.roles })

  pub stands_kept : (o : Opening) (i : ℕ) (x : ClientState) (f : Phase) → Stands o p i x f → Stands o q i x f
  stands_kept o i x f s = record {
    setup = k.setup ∙ s.setup;
    opened = k.opened ∙ s.opened;
    entered = k.entries ∙ s.entered ∙ sym kept_history;
    seat = s.seat;
    seats = ap length k.views ∙ s.seats;
    client = s.client;
    number = s.number ∙ ap (λ (h : List Entry). length (own h (suc i))) (sym k.entries);
    pool = s.pool;
    holds = subst (λ (v : View). NodeHolds x.node (call_at x v) v x.room) (sym (kept_view i)) s.holds;
    phase = s.phase;
    call = s.call;
    linked = subst (λ (v : View). HasLinked x.node.caller.under v.pass.since) (sym (kept_view i)) s.linked;
  }

  pub server_kept : (s : ServerState) → HasServer p s → HasServer q s
  server_kept s h = record {
    opened = k.opened ∙ h.opened;
    entered = k.entries ∙ h.entered ∙ sym kept_history;
    seat = subst (λ (l : List View). q.setup.clients < length l) (sym k.views) (subst (λ (z : Setup). z.clients < length p.views) (sym k.setup) h.seat);
    agrees = subst (λ (z : Setup). Agrees z.pool [] s (get_or q.views z.clients nobody)) (sym k.setup) (subst (λ (l : List View). Agrees p.setup.pool [] s (get_or l p.setup.clients nobody)) (sym k.views) h.agrees);
  }

  pub may_kept : (o : Opening) (i : ℕ) (x : ClientState) (v : Served) → MayServe o i x v p → MayServe o i x v q
  may_kept o i x v m = record { stands = stands_kept o i x Wants m.stands; server = server_kept v.server m.server; running = running_kept m.running }

  module _ (r : Plain) where
    pub moved_kept : (a : Option Access) (e : Option Entry) → Moved a e q r → Moved a e p r
    moved_kept a e m = record {
      words = m.words ∙ (λ z. words_by (k.setup z).pool (k.words z) a);
      seats = m.seats ∙ ap length k.views;
      entries = m.entries ∙ ap (λ (l : List Entry). l ++ option_to_list e) k.entries;
      entered = m.entered;
      accesses = m.accesses ∙ (λ z. if k.traced z then k.accesses z ++ option_to_list a else k.accesses z);
      made = m.made ∙ ap (λ (n : ℕ). made_by n a) k.made;
      whole = m.whole ∙ k.whole;
      setup = m.setup ∙ k.setup;
      start = m.start ∙ k.start;
      first = m.first ∙ k.first;
      used = m.used ∙ k.used;
      traced = m.traced ∙ k.traced;
      opened = m.opened ∙ k.opened;
      knows = λ t h. m.knows t (known_same p q k.views k.absent t h);
    }

    -- a step that served the client served it before the room was made
    pub served_kept : (o : Opening) (i : ℕ) (x y : ClientState) (v w : Served) (note : Note) → WasServed o i x y v w q r note → WasServed o i x y v w p r note
    served_kept o i x y v w note s = record {
      access = s.access;
      moved = moved_kept s.access None s.moved;
      others = λ j ne nc. s.others j ne nc ∙ kept_view j;
      after = s.after;
      stands = s.stands;
      server = s.server;
      grows = s.grows;
      follows = λ st of m same.
          let f = s.follows st (record { actor = of.actor; names = of.names; entries = of.entries; words = of.words ∙ sym k.words }) (subst (λ (u : View). Matches x u Wants st.does) (sym (kept_view i)) m) same in
          (f.0, subst (λ (u : View). IsServed st.actor st.does x.want (call_at x u) v (step_record st s.access None note w)) (kept_view i) f.1, f.2);
      regards = subst (λ (u : View). Regards note w x y (call_at x u)) (kept_view i) s.regards;
      gained = subst (λ (u : View). OnGrant note (Gained x y (call_at x u) w.server)) (kept_view i) s.gained;
      lowers = s.lowers;
      lacks = λ h. s.lacks (subst (LacksNames x) (sym (kept_view i)) h);
    }
