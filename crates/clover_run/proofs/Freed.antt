-- A buffer that the server's books have as free lies free at any moment of a run, and the count is the number of bindings: so the rule has it of a pool that runs.
use Rattle.std.proofs.Common.{◌≡◌, ℕ, suc, ◌<◌, List, [], ◌∷◌, ◌++◌, length, true, sym, ap, ◌∙◌, subst, arith, inl, inr, ◌⊎◌, append-nil}
use Rattle.std.specs.Prelude.{Some}
use Rattle.clover_words.specs.Place.{copy_in}
use Rattle.clover_words.specs.declared.setup.Setup.{Setup}
use Rattle.clover_words.specs.declared.word.Side.TheVariants.{Current}
use Rattle.clover_words.specs.declared.word.Word.TheVariants.{Count}
use Rattle.clover_words.specs.Version.{buffer_at}
use Rattle.clover_map.specs.Legal.{used_by}
use Rattle.clover_map.specs.declared.call.Entry.{Entry}
use Rattle.clover_alloc.specs.Ledger.{book}
use Rattle.clover_alloc.specs.Lines.{line}
use Rattle.clover_alloc.specs.declared.line.Place.TheVariants.{Free}
use Rattle.clover_rule.specs.Buffers.{AtRest}
use Rattle.clover_rule.specs.Chains.{Walk}
use Rattle.clover_rule.specs.Content.{inside}
use Rattle.clover_rule.specs.Lists.{Each, nth}
use Rattle.clover_rule.specs.Memory.{Mem}
use Rattle.clover_rule.specs.Words.{mem_of}
use Rattle.clover_rule.proofs.Tools.{nth_some}
use Rattle.clover_plain.specs.Plain.{Plain, Running, history, view_at}
use Rattle.clover_server.specs.Laws.{AreElsewhere, IsOld, IsVacant}
use Rattle.clover_server.specs.Server.{ServerState}
use Rattle.clover_server.proofs.Vacant.{vacant}
use Rattle.clover_event.proofs.Chains.{one_walk}
use Rattle.clover_run.specs.Alone.{AllCounted}
use Rattle.clover_run.specs.Folds.{entries_in, words_after, served_after, doing}
use Rattle.clover_run.specs.Freed.{mem_behind, FreeLie, AllFree}
use Rattle.clover_run.specs.Machine.{Parts, IsAt, IsPoolAt, IsClientAt}
use Rattle.clover_run.specs.Record.{Record}
use Rattle.clover_run.specs.Run.{Opening}
use Rattle.clover_run.specs.Working.{HasServer}
use Rattle.clover_run.specs.declared.client.ClientState.{ClientState}
use Rattle.clover_run.specs.declared.served.Served.{Served}
use Rattle.clover_run.proofs.Finding.{seat_here, is_serving, counted}
use Rattle.clover_run.proofs.Listed.{nth_in}
use Rattle.clover_run.proofs.Moments.{at_more}

-- the records have for a client's stock what its view has
stock_of : (o : Opening) (p : Plain) (i : ℕ) (x : ClientState) (rs : List Record) → IsClientAt o p i x rs → (view_at p i).pass.stock ≡ (doing (suc i) rs).stock
stock_of o p i x rs at = at.stands.holds.stock ∙ sym at.matches.stock

-- a buffer that is free in the books of a server in a pool that runs
module _ (o : Opening) (p : Plain) (s : ServerState) (setup : p.setup ≡ o.setup) (running : Running p) (server : HasServer p s) (b g : ℕ) (here : inside p.setup.pool b ≡ true) (free : book s.books (buffer_at b) ≡ line g Free) where
  is_vacant : IsVacant (mem_of p.setup.pool p.words) running.rule.chain (used_by p.used (history p)) (p.views ++ p.absent) b g
  is_vacant = vacant p.setup.pool p.first p.used p.words (p.views ++ p.absent) (history p) running.rule (view_at p p.setup.clients) s [] b g (p.setup.clients, seat_here p p.setup.clients server.seat, is_serving o p s setup running server) server.agrees here free

  -- no tag of it is in a client's stock
  unstocked : (rs : List Record) (i : ℕ) (x : ClientState) → IsClientAt o p i x rs → AreElsewhere b (doing (suc i) rs).stock
  unstocked rs i x at = subst (AreElsewhere b) (stock_of o p i x rs at) (is_vacant.unstocked (view_at p i) (nth_in (p.views ++ p.absent) i (view_at p i) (seat_here p i (let a = at.stands.seat in let c = at.stands.seats in omega arith))))

-- the free buffers of such a pool lie free behind the records that led there
pub free_lie : (o : Opening) (rs : List Record) (p : Plain) (s : ServerState) (clients : List ClientState) → IsPoolAt o p rs → Running p → HasServer p s → s ≡ (served_after o.served rs).server → length clients ≡ o.setup.clients
    → ((i : ℕ) (x : ClientState) → nth clients i ≡ Some x → IsClientAt o p i x rs) → FreeLie o rs
free_lie o rs p s clients at running server same count each b g here free = record {
  rest = subst (λ (m : Mem). AtRest m b g) mem v.rest;
  unchained = subst (λ (m : Mem). (slot : ℕ) (ts : List ℕ) → Walk m (m.root slot) ts → AreElsewhere b ts) mem
      (λ slot ts w. subst (AreElsewhere b) (one_walk now (now.root slot) (running.rule.chain slot) ts (running.rule.chains_and_contents.chains.walk slot) w) (v.unchained slot));
  unstocked = λ i few. let x = nth_some clients i (omega (arith, few, count)) in unstocked o p s at.setup running server b g inside_here free_here rs i x.0 (each i x.0 x.1);
  handed = subst (λ (m : Mem). Each (IsOld m b) (used_by o.used (entries_in rs))) mem
      (subst (λ (used : List ℕ). Each (IsOld now b) (used_by used (entries_in rs))) at.used
      (subst (λ (h : List Entry). Each (IsOld now b) (used_by p.used h)) (sym at.entered ∙ at.entries) v.handed));
}
  where
    now : Mem
    now = mem_of p.setup.pool p.words

    mem : now ≡ mem_behind o rs
    mem = ap (λ (u : Setup). mem_of u.pool p.words) at.setup ∙ ap (mem_of o.setup.pool) at.words

    inside_here : inside p.setup.pool b ≡ true
    inside_here = ap (λ (u : Setup). inside u.pool b) at.setup ∙ here

    free_here : book s.books (buffer_at b) ≡ line g Free
    free_here = ap (λ (t : ServerState). book t.books (buffer_at b)) same ∙ free

    v : IsVacant now running.rule.chain (used_by p.used (history p)) (p.views ++ p.absent) b g
    v = is_vacant o p s at.setup running server b g inside_here free_here

-- a record behind which the pool runs, or which leaves pool and server
abbrev pub RunsOrStays : Parts → Parts → Type 0
RunsOrStays m n = Running n.pool ⊎ ((n.pool ≡ m.pool) × (n.served.server ≡ m.served.server))

-- the free buffers behind one record more
module _ (o : Opening) (m n : Parts) (rs : List Record) (r : Record) (at : IsAt o m rs) (pool : IsPoolAt o n.pool (rs ++ r ∷ [])) (server : HasServer n.pool n.served.server) (side : n.served ≡ served_after o.served (rs ++ r ∷ [])) (count : length n.clients ≡ o.setup.clients)
    (each : (i : ℕ) (x : ClientState) → nth n.clients i ≡ Some x → IsClientAt o n.pool i x (rs ++ r ∷ [])) where
  abbrev new : List Record
  new = rs ++ r ∷ []

  -- where pool and server are left, no stock is another either
  stays : n.pool ≡ m.pool → n.served.server ≡ m.served.server → FreeLie o new
  stays left same b g here free =
      let l = at.free rs [] (sym (append-nil rs)) b g here (ap (λ (t : ServerState). book t.books (buffer_at b)) (ap (λ (v : Served). v.server) (sym at.served) ∙ sym same ∙ ap (λ (v : Served). v.server) side) ∙ free) in
      record {
        rest = subst (λ (k : Mem). AtRest k b g) mem l.rest;
        unchained = subst (λ (k : Mem). (slot : ℕ) (ts : List ℕ) → Walk k (k.root slot) ts → AreElsewhere b ts) mem l.unchained;
        unstocked = λ i few. subst (AreElsewhere b) (stock i few) (l.unstocked i few);
        handed = subst (λ (k : Mem). Each (IsOld k b) (used_by o.used (entries_in new))) mem (subst (λ (h : List Entry). Each (IsOld (mem_behind o rs) b) (used_by o.used h)) entries l.handed);
      }
    where
      mem : mem_behind o rs ≡ mem_behind o new
      mem = ap (mem_of o.setup.pool) (sym at.pool.words ∙ ap (λ (q : Plain). q.words) (sym left) ∙ pool.words)

      entries : entries_in rs ≡ entries_in new
      entries = sym at.pool.entries ∙ ap (λ (q : Plain). q.entries) (sym left) ∙ pool.entries

      stock : (i : ℕ) → i < o.setup.clients → (doing (suc i) rs).stock ≡ (doing (suc i) new).stock
      stock i few =
          let x = nth_some m.clients i (omega (arith, few, at.clients)) in
          let y = nth_some n.clients i (omega (arith, few, count)) in
          sym (stock_of o m.pool i x.0 rs (at.each i x.0 x.1)) ∙ ap (λ (q : Plain). (view_at q i).pass.stock) (sym left) ∙ stock_of o n.pool i y.0 new (each i y.0 y.1)

  pub free_behind : RunsOrStays m n → AllFree o new
  free_behind (inl running) = at_more (FreeLie o) rs r at.free (free_lie o new n.pool n.served.server n.clients pool running server (ap (λ (v : Served). v.server) side) count each)
  free_behind (inr left) = at_more (FreeLie o) rs r at.free (stays left.0 left.1)

-- the count is the number of bindings behind one record more, too
abbrev pub CountsBindings : Opening → List Record → Type 0
CountsBindings o rs = copy_in o.setup.pool (words_after o.setup.pool o.words rs) Count Current ≡ length (served_after o.served rs).server.directory.list

pub counted_at : (o : Opening) (rs : List Record) (p : Plain) (s : ServerState) → IsPoolAt o p rs → Running p → HasServer p s → s ≡ (served_after o.served rs).server → CountsBindings o rs
counted_at o rs p s at running server same =
    ap (λ (ws : List ℕ). copy_in o.setup.pool ws Count Current) (sym at.words)
    ∙ ap (λ (u : Setup). copy_in u.pool p.words Count Current) (sym at.setup)
    ∙ counted o p s at.setup running server
    ∙ ap (λ (t : ServerState). length t.directory.list) same

pub counted_behind : (o : Opening) (m n : Parts) (rs : List Record) (r : Record) → IsAt o m rs → IsPoolAt o n.pool (rs ++ r ∷ []) → HasServer n.pool n.served.server → n.served ≡ served_after o.served (rs ++ r ∷ []) → RunsOrStays m n → AllCounted o (rs ++ r ∷ [])
counted_behind o m n rs r at pool server side (inl running) = at_more (CountsBindings o) rs r at.counted (counted_at o (rs ++ r ∷ []) n.pool n.served.server pool running server (ap (λ (v : Served). v.server) side))
counted_behind o m n rs r at pool server side (inr left) = at_more (CountsBindings o) rs r at.counted
    (ap (λ (ws : List ℕ). copy_in o.setup.pool ws Count Current) (sym pool.words ∙ ap (λ (q : Plain). q.words) left.0 ∙ at.pool.words)
    ∙ at.counted rs [] (sym (append-nil rs))
    ∙ ap (λ (v : ServerState). length v.directory.list) (ap (λ (v : Served). v.server) (sym at.served) ∙ sym left.1 ∙ ap (λ (v : Served). v.server) side))
