-- What the server of a small pool may hand over and bind as its run begins, and what that leaves.
use Rattle.std.proofs.Common.{◌≡◌, ◌≢◌, ℕ, zero, suc, ◌≤◌, ◌<◌, List, [], ◌∷◌, ◌++◌, length, map, replicate, set, get_or, take, refl, sym, ap, ◌∙◌, subst, arith}
use Rattle.std.specs.Prelude.{Option, Some, None}
use Rattle.std.specs.Option.{option_map}
use Rattle.std.proofs.Math.Nat.{min-eq_left}
use Rattle.std.proofs.lemmas.List.{get_or-set_same, get_or-set_other, length-map, length-replicate, length-set}
use Rattle.clover_words.specs.declared.bytes.ValueBuf.{ValueBuf}
use Rattle.clover_words.specs.declared.pool.Pool.{Pool}
use Rattle.clover_words.specs.declared.setup.Setup.{Setup}
use Rattle.clover_words.specs.Tag.{TagParts, tag_number, home, age}
use Rattle.clover_map.specs.declared.call.Call.{Call}
use Rattle.clover_map.specs.declared.call.Call.TheVariants.{Get}
use Rattle.clover_rule.specs.Asks.{IsAt}
use Rattle.clover_rule.specs.Content.{InRange}
use Rattle.clover_rule.specs.Lists.{Each, nth}
use Rattle.clover_rule.specs.Names.{KeysOnce}
use Rattle.clover_rule.specs.Moves.{MayHand, given, giving, lines_out, nobody}
use Rattle.clover_rule.specs.Server.{waiting_name}
use Rattle.clover_rule.specs.Views.{SlotsOnce, book, find_book}
use Rattle.clover_alloc.specs.Batch.{tags_of}
use Rattle.clover_alloc.specs.Ledger.{Ledger, IsLedger, new_ledger}
use Rattle.clover_alloc.specs.Taking.{Takes}
use Rattle.clover_alloc.specs.declared.batch.Batch.{Batch}
use Rattle.clover_rule.specs.declared.view.BufferState.TheVariants.{Free}
use Rattle.clover_rule.specs.declared.view.Role.TheVariants.{Client}
use Rattle.clover_rule.specs.declared.view.ServerTask.TheVariants.{Idle}
use Rattle.clover_rule.specs.declared.view.View.{View}
use Rattle.clover_dir.specs.Directory.{Bindings, nothing_bound, root_of, with_binding}
use Rattle.clover_dir.specs.Going.{Answers}
use Rattle.clover_dir.specs.Holding.{BindHolds, IsDirectoryOf}
use Rattle.clover_dir.specs.Task.{UnderWay, made_bind}
use Rattle.clover_dir.specs.declared.stage.Stage.TheVariants.{Over}
use Rattle.clover_dir.specs.declared.turn.BindTurn.TheVariants.{More, Bound}
use Rattle.clover_plain.specs.Handing.{Handed, numbers_of}
use Rattle.clover_plain.specs.Plain.{Plain, first_view, history, view_at}
use Rattle.clover_plain.proofs.Books.{AreLeft, left_new, takes_next}
use Rattle.clover_plain.proofs.Opening.{client_role, server_role}
use Rattle.clover_plain.proofs.Seating.{zero_replicate}
use Rattle.clover_plain.proofs.SmallPool.{age_first, age_next, home_first, home_next}
use Rattle.clover_call.specs.Caller.{CallerState}
use Rattle.clover_node.specs.Accepting.{MayTake}
use Rattle.clover_node.specs.Node.{NodeState, NodeHolds, first_node}
use Rattle.clover_pools.specs.Calls.{Stands}
use Rattle.clover_pools.specs.Grants.{AreNew, HaveGiven, HasRoot, IsNew, IsBegun, IsDealt, IsNameless, IsBoundOnce, batch, name}
use Rattle.clover_pools.specs.Small.{IsReady, IsSmall, HasSmallNumbers}
use Rattle.clover_pools.proofs.SmallPool.{begins, in_pool, third}

batch_spares : find_book (lines_out [] batch) (home 2097152) ≡ book (age 2097152) Free
unfolding home age
batch_spares = refl

two_buffers : home 1048576 ≢ home 0
unfolding home
two_buffers e = omega (arith, e)

module _ (s : Setup) (few : HasSmallNumbers s) where
  left_first : (books : Ledger) → AreNew s books → AreLeft 4 books 0
  left_first books new = subst (λ (l : Ledger). AreLeft 4 l 0) (sym new.value) (subst (λ (n : ℕ). AreLeft n (new_ledger s.pool) 0) few.buffers (left_new s.pool few.nodes (subst IsLedger new.value new.whole)))

  -- the first two buffers of new books are the batch
  pub first_two : (books after : Ledger) (b : Batch) → AreNew s books → Takes books 2 (tags_of b) after → numbers_of b ≡ batch
  first_two books after b new takes = ap (map tag_number) (takes_next 4 2 0 books (tags_of b) after (left_first books new) (omega arith) takes).0

  -- and the next one is buffer 2
  pub next_one : (books after : Ledger) (tags : List TagParts) → HaveGiven s books → Takes books 1 tags after → tags ≡ third ∷ []
  next_one books after tags given takes =
      let left = (takes_next 4 2 0 given.before given.tags books (left_first given.before given.new) (omega arith) given.takes).1 in
      (takes_next 4 1 2 books tags after left (omega arith) takes).0

  may_hand : MayHand s.pool (first_view s 1) (first_view s 0) batch []
  may_hand = let a = few.clients in record {
    tags = record {
      server = server_role s 1 (omega arith);
      free = ((in_pool s few 0 0 home_first (omega arith) refl refl, ap (λ (g : ℕ). book g Free) (sym age_first)), ((in_pool s few 1048576 1 home_next (omega arith) refl refl, ap (λ (g : ℕ). book g Free) (sym age_next)), tt));
      apart = ((two_buffers, tt), (tt, tt));
    };
    number = 1;
    client = client_role s 0 (omega arith);
    names_are = refl;
  }

-- the server may hand the batch over as the run begins
pub hands_batch : (p : Plain) (tags : List ℕ) → tags ≡ batch → IsBegun p → MayHand p.setup.pool (view_at p p.setup.clients) (view_at p 0) tags []
hands_batch p tags e b =
    subst (λ (z : List ℕ). MayHand p.setup.pool (view_at p p.setup.clients) (view_at p 0) z []) (sym e)
    (subst (λ (v : View). MayHand p.setup.pool v (view_at p 0) batch []) (sym (ap (view_at p) b.new.small.numbers.clients ∙ b.server))
    (subst (λ (v : View). MayHand p.setup.pool (first_view p.setup 1) v batch []) (sym b.client) (may_hand p.setup b.new.small.numbers)))

-- what a grant leaves
module _ (tags : List ℕ) (names : List (ℕ × List ℕ)) (p q : Plain) (new : IsNew p) (h : Handed 1 tags names p q) (same : history q ≡ history p) where
  abbrev taken : List View
  taken = set p.views p.setup.clients (giving tags (view_at p p.setup.clients))

  handed_new : IsNew q
  handed_new = record {
    ready = record { opened = h.opened ∙ new.ready.opened; entered = h.entries ∙ new.ready.entered ∙ sym same };
    small = record {
      numbers = subst HasSmallNumbers (sym h.setup) new.small.numbers;
      seats = ap length h.views ∙ length-set taken 0 (given tags names (view_at p 0)) ∙ length-set p.views p.setup.clients (giving tags (view_at p p.setup.clients)) ∙ new.small.seats;
    };
    entries = h.entries ∙ new.entries;
  }

  handed_client : view_at q 0 ≡ given tags names (view_at p 0)
  handed_client =
      let l = length-set p.views p.setup.clients (giving tags (view_at p p.setup.clients)) in let z = new.small.seats in
      ap (λ (vs : List View). get_or vs 0 nobody) h.views ∙ get_or-set_same taken 0 (given tags names (view_at p 0)) nobody (omega arith)

  handed_server : view_at q 1 ≡ giving tags (view_at p 1)
  handed_server =
      let z = new.small.seats in
      ap (λ (vs : List View). get_or vs 1 nobody) h.views
      ∙ get_or-set_other taken 0 1 (given tags names (view_at p 0)) nobody (λ e. cc)
      ∙ ap (λ (n : ℕ). get_or (set p.views n (giving tags (view_at p n))) 1 nobody) new.small.numbers.clients
      ∙ get_or-set_same p.views 1 (giving tags (view_at p 1)) nobody (omega arith)

  -- the node has it too
  pub handed_stands : (n n1 : NodeState) → Stands p n → (n1.client ≡ n.client) × (n1.caller ≡ n.caller) × (n1.counting ≡ n.counting) → ((call : Call) (room : ValueBuf) → NodeHolds n1 call (given tags names (view_at p 0)) room) → Stands q n1
  handed_stands n n1 b kept holds = record {
    only = record {
      ready = handed_new.ready;
      small = handed_new.small;
      client = kept.0 ∙ b.only.client;
      pool = ap (λ (s : Setup). s.pool) h.setup ∙ b.only.pool ∙ sym (ap (λ (k : CallerState). k.pool) kept.1);
      own = ap (λ (v : View). v.pass.calls) handed_client ∙ b.only.own ∙ sym same;
    };
    idle = record { counts = kept.2 ∙ b.idle.counts; calls = ap (λ (k : CallerState). k.under) kept.1 ∙ b.idle.calls };
    holds = λ call room. subst (λ (v : View). NodeHolds n1 call v room) (sym handed_client) (holds call room);
  }

pub dealt_so : (tags : List ℕ) (p q : Plain) → tags ≡ batch → IsBegun p → Handed 1 tags [] p q → history q ≡ history p → IsDealt q
dealt_so tags p q e b h same = record {
  new = handed_new tags [] p q b.new h same;
  server = handed_server tags [] p q b.new h same ∙ (λ i. giving (e i) (b.server i)) ∙ ap (λ (s : Setup). giving batch (first_view s 1)) (sym h.setup);
}

-- a node that has nothing may be given the batch
module _ (p : Plain) (n : NodeState) (few : HasSmallNumbers p.setup) (stands : Stands p n) where
  each_number : (P : ℕ → Type 0) (ts : List TagParts) → Each P (map tag_number ts) → Each (λ (t : TagParts). P (tag_number t)) ts
  each_number P [] h = tt
  each_number P (t ∷ ts) h = (h.0, each_number P ts h.1)

  in_range : Each (InRange p.setup.pool) batch
  in_range =
      let w = p.setup.pool.some_wear in let a = age_first in let b = age_next in
      ((in_pool p.setup few 0 0 home_first (omega arith) refl refl, omega arith), ((in_pool p.setup few 1048576 1 home_next (omega arith) refl refl, omega arith), tt))

  pub may_batch : (ts : List TagParts) → map tag_number ts ≡ batch → n.names ≡ [] → MayTake n ts []
  may_batch ts e none = record {
    tags = subst (λ (z : Pool). Each (λ (t : TagParts). InRange z (tag_number t)) ts) stands.only.pool (each_number (InRange p.setup.pool) ts (subst (Each (InRange p.setup.pool)) (sym e) in_range));
    slots = tt;
    once = subst (λ (l : List (ℕ × List ℕ)). SlotsOnce (l ++ [])) (sym none) (λ i j s k k1 f g. absurd cc);
  }

  -- and one with no names the name
  one_name : (i s : ℕ) (k : List ℕ) → nth name i ≡ Some (s, k) → i ≡ 0
  one_name zero s k e = refl
  one_name (suc i) s k e = absurd cc

  slots_fit : n.caller.pool.slots ≡ 2
  slots_fit = sym (ap (λ (z : Pool). z.slots) stands.only.pool) ∙ few.slots

  pub may_name : (ts : List TagParts) (added : List (ℕ × List ℕ)) → map tag_number ts ≡ [] → added ≡ name → n.names ≡ [] → MayTake n ts added
  may_name ts added e is none = record {
    tags = each_number (InRange n.caller.pool) ts (subst (Each (InRange n.caller.pool)) (sym e) tt);
    slots = subst (Each (λ (q : ℕ × List ℕ). q.0 < n.caller.pool.slots)) (sym is) (let z = slots_fit in (omega arith, tt));
    once = subst SlotsOnce (sym (λ i. none i ++ is i)) (λ i j s k k1 f g. one_name i s k f ∙ sym (one_name j s k1 g));
  }

  pub keys_named : (added : List (ℕ × List ℕ)) → added ≡ name → n.names ≡ [] → KeysOnce (n.names ++ added)
  keys_named added is none = subst KeysOnce (sym (λ i. none i ++ is i)) (λ i j s s1 k f g. one_name i s k f ∙ sym (one_name j s1 k g))

  pub few_named : (added : List (ℕ × List ℕ)) → added ≡ name → n.names ≡ [] → length (n.names ++ added) ≤ n.caller.pool.slots
  few_named added is none = let z = slots_fit in subst (λ (l : List (ℕ × List ℕ)). length l ≤ n.caller.pool.slots) (sym (λ i. none i ++ is i)) (omega arith)

-- the node with which client 1 begins
pub first_stands : (p : Plain) (n : NodeState) → IsBegun p → n ≡ first_node p.setup.pool 1 → ((call : Call) (v : View) (room : ValueBuf) → v.pass.pool ≡ p.setup.pool → v.pass.role ≡ Client 1 → v.pass.stock ≡ [] → v.pass.names ≡ [] → NodeHolds n call v room) → Stands p n
first_stands p n b e holds =
    let few = b.new.small.numbers.clients in record {
      only = record {
        ready = b.new.ready;
        small = b.new.small;
        client = ap (λ (m : NodeState). m.client) e;
        pool = sym (ap (λ (m : NodeState). m.caller.pool) e);
        own = ap (λ (v : View). v.pass.calls) b.client ∙ sym b.new.entries ∙ b.new.ready.entered;
      };
      idle = record { counts = ap (λ (m : NodeState). m.counting) e; calls = ap (λ (m : NodeState). m.caller.under) e };
      holds = λ call room. holds call (view_at p 0) room (ap (λ (v : View). v.pass.pool) b.client) (ap (λ (v : View). v.pass.role) b.client ∙ client_role p.setup 0 (omega arith)) (ap (λ (v : View). v.pass.stock) b.client) (ap (λ (v : View). v.pass.names) b.client);
    }

-- where the server made accesses, the client and its node stand as before
pub nameless_still : (p q : Plain) (n : NodeState) → IsNew p → IsNew q → q.setup ≡ p.setup → view_at q 0 ≡ view_at p 0 → IsNameless p n → IsNameless q n
nameless_still p q n old new setup view b = record {
  stands = record {
    only = record {
      ready = new.ready;
      small = new.small;
      client = b.stands.only.client;
      pool = ap (λ (s : Setup). s.pool) setup ∙ b.stands.only.pool;
      own = ap (λ (v : View). v.pass.calls) view ∙ b.stands.only.own ∙ sym old.ready.entered ∙ old.entries ∙ sym new.entries ∙ new.ready.entered;
    };
    idle = b.stands.idle;
    holds = λ call room. subst (λ (v : View). NodeHolds n call v room) (sym view) (b.stands.holds call room);
  };
  names = b.names;
  stock = b.stock;
}

-- the binding of `a` is under way
pub record IsBinding (p : Plain) (c : UnderWay) (d : Bindings) : Type 0 where
  pub new : IsNew p
  pub holds : BindHolds p.setup.pool c d (view_at p 1)
  pub going : c.stage ≢ Over
  pub key : c.key ≡ 97 ∷ []
  pub slot : c.slot ≡ 0
  pub own : c.own ≡ third
  pub directory : d ≡ nothing_bound p.setup.pool

pub bind_begins : (p : Plain) (c : UnderWay) (d : Bindings) (key : List ℕ) (own : TagParts) → IsDealt p → d ≡ nothing_bound p.setup.pool → c ≡ made_bind 0 key own → key ≡ 97 ∷ [] → own ≡ third → IsBinding p c d
bind_begins p c d key own b e made k o =
    let is : c ≡ made_bind 0 (97 ∷ []) third = made ∙ (λ i. made_bind 0 (k i) (o i)) in
    record {
      new = b.new;
      holds = subst (λ (z : UnderWay). BindHolds p.setup.pool z d (view_at p 1)) (sym is)
          (subst (λ (z : Bindings). BindHolds p.setup.pool (made_bind 0 (97 ∷ []) third) z (view_at p 1)) (sym e)
          (subst (λ (v : View). BindHolds p.setup.pool (made_bind 0 (97 ∷ []) third) (nothing_bound p.setup.pool) v) (sym b.server) (begins p.setup b.new.small.numbers batch batch_spares)));
      going = λ over. (let z : made_bind 0 (97 ∷ []) third ≡ c = sym is in let y = ap (λ (u : UnderWay). u.stage) z in cc);
      key = ap (λ (u : UnderWay). u.key) is;
      slot = ap (λ (u : UnderWay). u.slot) is;
      own = ap (λ (u : UnderWay). u.own) is;
      directory = e;
    }

-- room with no bytes, for what holds with any room
no_bytes : ValueBuf
no_bytes = record {
  bytes = replicate 1024 0;
  length = 0;
  length_fits = omega arith;
  room = record { size = length-replicate {A = ℕ} 1024 0; bytes = λ i. subst (λ (b : ℕ). b < 256) (sym (zero_replicate 1024 i)) (omega arith) };
}

-- the server may hand the name over
pub hands_name : (p : Plain) (n : NodeState) (tags : List ℕ) (names : List (ℕ × List ℕ)) → tags ≡ [] → names ≡ name → IsBoundOnce p → IsNameless p n → MayHand p.setup.pool (view_at p p.setup.clients) (view_at p 0) tags names
hands_name p n tags names none k b c =
    let h = c.stands.holds (Get []) no_bytes in
    subst (λ (l : List ℕ). MayHand p.setup.pool (view_at p p.setup.clients) (view_at p 0) l names) (sym none)
    (subst (λ (n : ℕ). MayHand p.setup.pool (view_at p n) (view_at p 0) [] names) (sym b.new.small.numbers.clients) (record {
      tags = record { server = b.server.idle.server; free = tt; apart = tt };
      number = 1;
      client = h.role ∙ ap Client c.stands.only.client;
      names_are = b.server.directory ∙ sym (λ i. ((h.names ∙ c.names) i ++ k i) ++ waiting_name (b.server.idle.task_is i));
    }))

pub named_so : (p q : Plain) (tags : List ℕ) (names : List (ℕ × List ℕ)) → tags ≡ [] → IsBoundOnce p → Handed 1 tags names p q → history q ≡ history p → HasRoot (view_at q 1)
named_so p q tags names none b h same = subst HasRoot (sym (handed_server tags names p q b.new h same ∙ ap (λ (l : List ℕ). giving l (view_at p 1)) none)) (record { idle = record { server = b.server.idle.server; task_is = b.server.idle.task_is }; root = b.server.root; directory = b.server.directory })

-- the binding goes on
pub bind_goes : (p q : Plain) (c n : UnderWay) (d e : Bindings) → IsBinding p c d → Answers c n d e More → IsReady q → IsSmall q → q.setup ≡ p.setup → q.entries ≡ p.entries → BindHolds q.setup.pool n e (view_at q 1) → IsBinding q n e
bind_goes p q c n d e b a ready small setup entries holds = record {
  new = record { ready = ready; small = small; entries = entries ∙ b.new.entries };
  holds = holds;
  going = a.1;
  key = ap (λ (u : UnderWay). u.key) a.0 ∙ b.key;
  slot = ap (λ (u : UnderWay). u.slot) a.0 ∙ b.slot;
  own = ap (λ (u : UnderWay). u.own) a.0 ∙ b.own;
  directory = a.2 ∙ b.directory ∙ ap (λ (z : Setup). nothing_bound z.pool) (sym setup);
}

-- and ends
pub bind_ends : (p q : Plain) (c n : UnderWay) (d e : Bindings) → IsBinding p c d → Answers c n d e Bound → IsReady q → IsSmall q → q.setup ≡ p.setup → q.entries ≡ p.entries → IsAt (view_at q 1) Idle × IsDirectoryOf q.setup.pool e (view_at q 1) → IsBoundOnce q × (e.list ≡ name)
bind_ends p q c n d e b a ready small setup entries ends =
    let now : e ≡ with_binding (nothing_bound p.setup.pool) 0 (97 ∷ []) third = a.2 ∙ (λ i. with_binding (b.directory i) (b.slot i) (b.key i) (b.own i)) in (
      record {
        new = record { ready = ready; small = small; entries = entries ∙ b.new.entries };
        server = record {
          idle = ends.0;
          root = ends.1.roots 0 ∙ ap (λ (z : Bindings). option_map tag_number (root_of z 0)) now ∙ ap (λ (n : ℕ). option_map tag_number (get_or (set (replicate n (let x : Option TagParts = None in x)) 0 (Some third)) 0 None)) b.new.small.numbers.slots;
          directory = ends.1.list ∙ (λ i. (now i).list ++ waiting_name (ends.0.task_is i));
        };
      },
      ap (λ (z : Bindings). z.list) now,
    )

-- a batch of no tags
pub nothing_taken : (books after : Ledger) (b : Batch) → Takes books 0 (tags_of b) after → numbers_of b ≡ []
nothing_taken books after b takes = none (tags_of b) (takes.many ∙ min-eq_left (omega arith))
  where
    none : (tags : List TagParts) → length tags ≡ 0 → map tag_number tags ≡ []
    none [] e = refl
    none (t ∷ ts) e = absurd (omega arith)

-- a batch of two tags
pub two_left : (tags : List TagParts) → map tag_number tags ≡ batch → length tags ≡ 2
two_left tags e = sym (length-map tags tag_number) ∙ ap length e

-- the only tag of a batch is its first one
pub first_is : (n : ℕ) (tags : List TagParts) (d t : TagParts) → take n tags ≡ t ∷ [] → get_or tags 0 d ≡ t
first_is zero tags d t e = absurd cc
first_is (suc n) [] d t e = absurd cc
first_is (suc n) (u ∷ us) d t e = ap (λ (l : List TagParts). get_or l 0 d) e
