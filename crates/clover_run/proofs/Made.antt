-- The machine as a run begins: a pool that its setup or a restart left, the server's side with nothing under way, and clients that have done nothing.
use Rattle.std.proofs.Common.{◌≡◌, ℕ, ◌+◌, ◌<◌, suc, length, map, List, [], true, false, refl, sym, ap, ◌∙◌, subst, arith}
use Rattle.std.specs.Prelude.{Option, Some, None}
use Rattle.std.proofs.lemmas.List.Elements.{All-nil}
use Rattle.clover_words.specs.Tag.{TagParts, tag_number}
use Rattle.clover_words.specs.declared.setup.Setup.{Setup}
use Rattle.clover_map.specs.History.{own}
use Rattle.clover_map.specs.declared.call.Entry.{Entry}
use Rattle.clover_rule.specs.Lists.{nth, Within}
use Rattle.clover_rule.specs.declared.view.Role.TheVariants.{Client as ClientRole}
use Rattle.clover_rule.specs.declared.view.View.{View}
use Rattle.clover_rule.proofs.Tools.{nth_within}
use Rattle.clover_plain.specs.Plain.{Plain, Running, history, view_at}
use Rattle.clover_walk.specs.Walking.{key_at}
use Rattle.clover_node.specs.Node.{NodeState, IsIdle}
use Rattle.clover_server.specs.Holding.{Agrees}
use Rattle.clover_event.specs.Client.{HasLinked}
use Rattle.clover_event.specs.Ends.{IsLatest}
use Rattle.clover_run.specs.Client.{IsFirst, Rests, Stands, Remembers, call_at}
use Rattle.clover_run.specs.Folds.{listed_in, nothing}
use Rattle.clover_run.specs.Freed.{FreeLie}
use Rattle.clover_run.specs.Machine.{Parts, IsAt, IsPoolAt, IsClientAt}
use Rattle.clover_run.specs.Run.{Opening}
use Rattle.clover_run.specs.Recycling.{IsOnBound, IsRecyclerAt, chore_task}
use Rattle.clover_run.specs.Working.{HasServer}
use Rattle.clover_run.specs.declared.client.ClientState.{ClientState}
use Rattle.clover_run.specs.declared.recycler.Chore.{Chore}
use Rattle.clover_run.specs.declared.served.Served.{Served}
use Rattle.clover_run.proofs.Alone.{alone_first}
use Rattle.clover_run.proofs.Finding.{found_first}
use Rattle.clover_run.proofs.Freed.{CountsBindings, counted_at, free_lie}
use Rattle.clover_run.proofs.Moments.{at_first}
use Rattle.clover_run.proofs.Lacking.{free_lacks}

-- what a client's view knows as a run begins
pub record IsNewView (o : Opening) (i : ℕ) (v : View) : Type 0 where
  pub pool : v.pass.pool ≡ o.setup.pool
  pub role : v.pass.role ≡ ClientRole (suc i)
  pub stock : v.pass.stock ≡ []
  pub names : v.pass.names ≡ []

-- the pool as a run begins at the opening
pub record IsNew (o : Opening) (p : Plain) : Type 0 where
  pub setup : p.setup ≡ o.setup
  pub first : p.first ≡ o.first
  pub used : p.used ≡ o.used
  pub opened : p.opened ≡ true
  pub whole : p.whole ≡ true
  pub words : p.words ≡ o.words
  pub entries : p.entries ≡ []
  pub history : history p ≡ []
  pub accesses : p.accesses ≡ listed_in o.listed p.traced []
  pub made : p.made ≡ o.made
  pub seats : length p.views ≡ o.setup.clients + 1
  pub views : (i : ℕ) → i < o.setup.clients → IsNewView o i (view_at p i)
  pub agrees : Agrees o.setup.pool [] o.served.server (view_at p o.setup.clients)

-- the server's side as a run begins: nothing is under way, and nothing read or done
pub record IsNewServed (v : Served) : Type 0 where
  pub task : v.server.task ≡ None
  pub read : v.read ≡ 0
  pub done : v.done ≡ 0

-- the machine's parts as a run begins at the opening
pub record IsBegun (o : Opening) (m : Parts) : Type 0 where
  pub setup : m.setup ≡ o.setup
  pub pool : IsNew o m.pool
  pub served : m.served ≡ o.served
  pub side : IsNewServed o.served
  pub idle : (m.recycler.chore ≡ None) × (m.recycler.refusing ≡ false)
  pub count : length m.clients ≡ o.setup.clients
  pub firsts : (i : ℕ) (x : ClientState) → nth m.clients i ≡ Some x → IsFirst o.setup (i + 1) x

-- a client that has made no call remembers nothing
remembers_first : (names : List (ℕ × List ℕ)) → Remembers names (record { last = None; list = [] }) []
remembers_first names = record { last = refl; list = All-nil (λ (q : ℕ × TagParts). IsLatest (key_at names q.0) (tag_number q.1) [] × Within (q.0, key_at names q.0) names) }

module _ (o : Opening) (m : Parts) (begun : IsBegun o m) where
  abbrev made : IsNew o m.pool
  made = begun.pool

  entered : m.pool.entries ≡ history m.pool
  entered = made.entries ∙ sym made.history

  -- the server
  server : HasServer m.pool m.served.server
  server = record {
    opened = made.opened;
    entered = entered;
    seat = let e = ap (λ (z : Setup). z.clients) made.setup in let n = made.seats in omega arith;
    agrees = subst (λ (z : Setup). Agrees z.pool [] m.served.server (view_at m.pool z.clients)) (sym made.setup)
        (subst (λ (v : Served). Agrees o.setup.pool [] v.server (view_at m.pool o.setup.clients)) (sym begun.served) made.agrees);
  }

  -- a client
  first_of : (i : ℕ) (x : ClientState) → nth m.clients i ≡ Some x → IsFirst o.setup (suc i) x
  first_of i x here = let e : i + 1 ≡ suc i = omega arith in subst (λ (n : ℕ). IsFirst o.setup n x) e (begun.firsts i x here)

  below : (i : ℕ) (x : ClientState) → nth m.clients i ≡ Some x → i < o.setup.clients
  below i x here = subst (λ (n : ℕ). i < n) begun.count (nth_within m.clients i x here)

  stands : (i : ℕ) (x : ClientState) → nth m.clients i ≡ Some x → Stands o m.pool i x Rests
  stands i x here =
      let f = first_of i x here in
      let b = below i x here in
      let v = made.views i b in
      record {
        setup = made.setup;
        opened = made.opened;
        entered = entered;
        seat = omega (arith, b);
        seats = made.seats;
        client = ap (λ (n : NodeState). n.client) f.node;
        number = f.number ∙ sym (ap (λ (l : List Entry). length (own l (suc i))) made.entries);
        pool = ap (λ (n : NodeState). n.caller.pool) f.node;
        holds = f.holds (call_at x (view_at m.pool i)) (view_at m.pool i) x.room v.pool v.role v.stock v.names;
        phase = (subst IsIdle (sym f.node) (record { counts = refl; calls = refl }), f.want, f.call);
        call = λ call e. absurd (let q : None ≡ Some call = sym f.call ∙ e in cc);
        linked = subst (λ (n : NodeState). HasLinked n.caller.under (view_at m.pool i).pass.since) (sym f.node) tt;
      }

  each : (i : ℕ) (x : ClientState) → nth m.clients i ≡ Some x → IsClientAt o m.pool i x []
  each i x here =
      let f = first_of i x here in
      record {
        phase = Rests;
        stands = stands i x here;
        matches = record { refusing = f.refusing; known = sym (ap (λ (n : NodeState). length n.names) f.node); stock = sym (ap (λ (n : NodeState). map tag_number n.stock) f.node); doing = refl };
        names = sym (ap (λ (n : NodeState). n.names) f.node);
        cursors = subst (λ (n : NodeState). Remembers n.names n.caller.cursors []) (sym f.node) (remembers_first []);
        goes = λ busy. absurd (busy (ap (λ (n : NodeState). n.caller.under) f.node));
        lacks = free_lacks x (view_at m.pool i) f.want;
      }

  -- the recycler has no task, and nothing is read or done
  recycler : IsRecyclerAt m.pool m.served m.recycler nothing
  recycler = record {
    task = ap chore_task (sym begun.idle.0);
    refusing = begun.idle.1;
    bound = subst (λ (k : Option Chore). IsOnBound k m.served) (sym begun.idle.0) tt;
    read = let e : m.served.read ≡ 0 = ap (λ (v : Served). v.read) begun.served ∙ begun.side.read in omega arith;
    done = let e : m.served.done ≡ 0 = ap (λ (v : Served). v.done) begun.served ∙ begun.side.done in omega arith;
  }

  pool : IsPoolAt o m.pool []
  pool = record {
    setup = made.setup;
    first = made.first;
    used = made.used;
    opened = made.opened;
    whole = made.whole;
    words = made.words;
    entries = made.entries;
    entered = entered;
    accesses = made.accesses;
    made = made.made;
    seats = made.seats;
  }

  same_server : m.served.server ≡ o.served.server
  same_server = ap (λ (v : Served). v.server) begun.served

  pub made_at : Running m.pool → IsAt o m []
  made_at running = record {
    run = tt;
    setup = begun.setup;
    pool = pool;
    served = begun.served;
    server = server;
    recycler = recycler;
    clients = begun.count;
    each = each;
    far = λ a above. refl;
    legal = tt;
    begins = begun.side.task;
    found = found_first o m.pool m.served.server made.setup running server made.words same_server;
    counted = λ before after whole. at_first (CountsBindings o) (counted_at o [] m.pool m.served.server pool running server same_server) before after whole;
    free = at_first (FreeLie o) (free_lie o [] m.pool m.served.server m.clients pool running server same_server begun.count each);
    alone = alone_first o m.pool.words m.clients;
    told = λ t e. absurd (let none : false ≡ true = e in cc);
  }
