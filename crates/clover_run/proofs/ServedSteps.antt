-- What a step of the server for a client comes to where it hands nothing over: the want goes on, the call has ended, or the step only waited.
use Prim.Native.Nat.{suc}
use Rattle.std.proofs.Common.{◌≡◌, ◌≢◌, ℕ, ◌<◌, List, Bool, true, false, refl, sym, ap, ◌∙◌, subst, arith}
use Rattle.std.specs.Prelude.{Option, Some, None, IfSome}
use Rattle.clover_words.specs.declared.setup.Setup.{Setup}
use Rattle.clover_map.specs.declared.call.Call.{Call}
use Rattle.clover_rule.specs.Accesses.{CameBack}
use Rattle.clover_rule.specs.Lists.{IsPrefix}
use Rattle.clover_rule.specs.declared.access.Access.{Access}
use Rattle.clover_rule.specs.declared.access.Actor.{Actor}
use Rattle.clover_rule.specs.declared.access.Actor.TheVariants.{Server}
use Rattle.clover_rule.specs.declared.view.View.{View}
use Rattle.clover_plain.specs.Plain.{Plain, view_at}
use Rattle.clover_server.specs.Left.{OnMore, work_left}
use Rattle.clover_server.specs.Server.{ServerState}
use Rattle.clover_server.specs.declared.turn.ServerTurn.{ServerTurn}
use Rattle.clover_server.specs.declared.turn.ServerTurn.TheVariants.{More, Full as TurnFull, NoSlot as TurnNoSlot, Unreached as TurnUnreached}
use Rattle.clover_event.specs.declared.event.CallRefusal.TheVariants.{Unreached}
use Rattle.clover_run.specs.Client.{IsDoing, IsOf, IsTaskOf, LacksNames, Matches, Phase, Rests, Stands, Wants, call_at, step_record, want_of}
use Rattle.clover_run.specs.Folds.{Doing, acted, accessed, ended_if, stepped}
use Rattle.clover_run.specs.Run.{IsAccess, Opening, Standing}
use Rattle.clover_run.specs.Served.{held, is_elsewhere, let_go}
use Rattle.clover_run.specs.Serving.{Leaves, Serves, telling}
use Rattle.clover_run.specs.Working.{Gained, HasServer, IsServersOwn, MayServe, OnGrant, Regards, WasServed, Worked, refusing_behind}
use Rattle.clover_run.specs.declared.client.ClientState.{ClientState}
use Rattle.clover_run.specs.declared.event.Note.{Note}
use Rattle.clover_run.specs.declared.event.Note.TheVariants.{Full, NoSlot, Quiet, Refused, Waits}
use Rattle.clover_run.specs.declared.served.Served.{Served}
use Rattle.clover_run.specs.declared.want.Want.TheVariants.{Nothing}
use Rattle.clover_run.proofs.Growing.{grows_same, serves_grows}
use Rattle.clover_run.proofs.Placing.{call_is, moved_entries, moved_none, stands_idle}
use Rattle.clover_run.proofs.Lacking.{free_lacks, refusing_lacks}

-- each of what is there
pub if_some : {A : Type 0} {P Q : A → Type 0} (o : Option A) → ((a : A) → P a → Q a) → IfSome o P → IfSome o Q
if_some None f h = tt
if_some (Some a) f h = f a h

-- an access of the server leaves of what an actor has under way whether its next one is refused
pub accessed_server : (d : Doing) (a : Option Access) (b : Bool) → IfSome a (λ (x : Access). x.actor ≡ Server) → b ≡ refusing_behind a d.refusing → accessed d a ≡ record d { refusing = b }
accessed_server d None b h e = λ k. record d { refusing = sym e k }
accessed_server d (Some x) b h e = ap (λ (r : Actor). acted d r x) h ∙ (λ k. record d { refusing = sym e k })

-- a client that wants something has under way what the records say
pub doing_wants : (x : ClientState) (v : View) (d : Doing) (call : Call) → x.call ≡ Some call → IsTaskOf call d → d.decided ≡ None → want_of x call d ≡ x.want → IsDoing Wants x v d
doing_wants x v d call e task decided want = subst (λ (c : Call). IsTaskOf c d × (d.decided ≡ None) × (want_of x c d ≡ x.want)) (sym (call_is x v call e)) (task, decided, want)

-- that an actor is none that another one holds the server from
elsewhere_as : (v : Served) (a b : ℕ) (t : Bool) → a ≡ b → is_elsewhere v.holder b ≡ t → is_elsewhere v.holder a ≡ t
elsewhere_as v a b t e h = ap (is_elsewhere v.holder) e ∙ h

-- The client of seat i wants something and may be served, of which its call is this one; and what a standing says that is of it.
module _ (o : Opening) (i : ℕ) (x : ClientState) (v : Served) (p : Plain) (may : MayServe o i x v p) (call : Call) (is : x.call ≡ Some call) where
  abbrev here : View
  here = view_at p i

  here_is : call_at x here ≡ call
  here_is = call_is x here call is

  -- its seat is not the server's
  pub apart : i ≢ p.setup.clients
  apart e = let s = may.stands.seat in let c = ap (λ (z : Setup). z.clients) may.stands.setup in omega arith

  module _ (st : Standing) (m : Matches x here Wants st.does) where
    pub task_so : IsTaskOf call st.does
    task_so = subst (λ (c : Call). IsTaskOf c st.does) here_is m.doing.0

    pub want_so : want_of x call st.does ≡ x.want
    want_so = subst (λ (c : Call). want_of x c st.does ≡ x.want) here_is m.doing.2

  -- an access of the server fits in the run
  pub access_so : (st : Standing) → IsOf i x p st → Matches x here Wants st.does → (a : Option Access) → IfSome a (IsServersOwn p x.refusing) → IfSome a (IsAccess o.setup.pool st)
  access_so st of m a h = if_some a (λ z k. record {
    refused = k.refused ∙ m.refusing;
    blank = k.blank;
    replays = λ made. subst (λ (w : List ℕ). CameBack o.setup.pool w z.act) (sym of.words) (subst (λ (s : Setup). CameBack s.pool p.words z.act) may.stands.setup (k.replays made));
  }) h

  -- the step only waited
  pub was_waiting : is_elsewhere v.holder (suc i) ≡ true → WasServed o i x x v v p p Waits
  was_waiting other = record {
    access = None;
    moved = moved_none p may.server.entered;
    others = λ j ne nc. refl;
    after = Wants;
    stands = may.stands;
    server = may.server;
    grows = grows_same v.server v.server refl;
    follows = λ st of m same. (
      tt,
      record {
        entry = refl;
        waits = λ h. record { access = refl; note = refl; served = refl };
        serves = λ h. absurd (let z : true ≡ false = sym (elsewhere_as v st.actor (suc i) true of.actor other) ∙ h in cc);
      },
      m,
    );
    regards = refl;
    gained = tt;
    lowers = λ e. absurd cc;
    lacks = λ h. h;
  }

  -- The server made a step, of which another actor did not hold it.
  module _ (here_held : is_elsewhere v.holder (suc i) ≡ false) (b : Bool) (n : ServerState) (q : Plain) (turn : ServerTurn) (w : Worked x.want call x.refusing b v.server n p q turn) where
    pub same_view : view_at q i ≡ here
    same_view = w.others i apart

    actor_so : IfSome w.access (λ (z : Access). z.actor ≡ Server)
    actor_so = if_some w.access (λ z k. k.actor) w.is

    -- what the records say behind the access
    pub accessed_so : (st : Standing) → Matches x here Wants st.does → accessed st.does w.access ≡ record st.does { refusing = b }
    accessed_so st m = accessed_server st.does w.access b actor_so (w.refusing_is ∙ ap (refusing_behind w.access) m.refusing)

    others_so : (j : ℕ) → j ≢ i → j ≢ o.setup.clients → view_at q j ≡ view_at p j
    others_so j ne nc = w.others j (λ e. nc (e ∙ ap (λ (z : Setup). z.clients) may.stands.setup))

    -- where the client is idle behind it, by what the answer leaves and what the records then say
    module _ (y : ClientState) (s : Served) (note : Note) (after : Phase) (server : s.server ≡ n) where
      step_so : Stands o q i y after → ((st : Standing) → IsOf i x p st → Matches x here Wants st.does → Leaves st.actor st.does x.want v n turn (step_record st w.access None note s))
          → ((st : Standing) → IsOf i x p st → (m : Matches x here Wants st.does) → Matches y (view_at q i) after (stepped st.does (step_record st w.access None note s)))
          → Regards note s x y (call_at x here) → OnGrant note (Gained x y (call_at x here) s.server) → (note ≡ Quiet → work_left s.server < work_left v.server) → (LacksNames x here → LacksNames y (view_at q i)) → WasServed o i x y v s p q note
      step_so stands leaves matches regards gained lowers lacks = record {
        access = w.access;
        moved = w.moved;
        others = others_so;
        after = after;
        stands = stands;
        server = subst (HasServer q) (sym server) w.server;
        grows = subst (λ (z : ServerState). IsPrefix v.server.directory.list z.directory.list) (sym server) (serves_grows v.server n turn (telling w.access) x.want call w.serves);
        follows = λ st of m same. (
          access_so st of m w.access w.is,
          record {
            entry = refl;
            waits = λ h. absurd (let z : true ≡ false = sym h ∙ elsewhere_as v st.actor (suc i) false of.actor here_held in cc);
            serves = λ h. record {
              turn = turn;
              server = n;
              serves = subst (λ (c : Call). Serves x.want c v.server n turn (telling w.access)) (sym here_is) w.serves;
              leaves = leaves st of m;
            };
          },
          matches st of m,
        );
        regards = regards;
        gained = gained;
        lowers = lowers;
        lacks = lacks;
      }

    -- the client holds the server from now on
    abbrev pub goes_on : ClientState
    goes_on = record x { refusing = b }

    pub stands_on : Stands o q i goes_on Wants
    stands_on = stands_idle o i p q w.moved.setup w.moved.opened w.moved.entered w.moved.seats (moved_entries w.access p q w.moved) x goes_on Wants Wants may.stands may.stands.phase.0 same_view refl refl may.stands.phase may.stands.call

    matches_on : (st : Standing) → (m : Matches x here Wants st.does) → Matches goes_on (view_at q i) Wants (record st.does { refusing = b })
    matches_on st m = record { refusing = refl; known = m.known; stock = m.stock; doing = doing_wants goes_on (view_at q i) (record st.does { refusing = b }) call is (task_so st m) m.doing.1 (want_so st m) }

    pub was_more : turn ≡ More → WasServed o i x goes_on v (held (suc i) n v) p q Quiet
    was_more e = step_so goes_on (held (suc i) n v) Quiet Wants refl stands_on
        (λ st of m. subst (λ (t : ServerTurn). Leaves st.actor st.does x.want v n t (step_record st w.access None Quiet (held (suc i) n v))) (sym e) (refl, ap (λ (a : ℕ). held a n v) (sym of.actor)))
        (λ st of m. subst (Matches goes_on (view_at q i) Wants) (sym (accessed_so st m)) (matches_on st m))
        refl
        tt
        (λ quiet. subst (λ (t : ServerTurn). OnMore t (work_left n < work_left v.server)) e w.lowers)
        (λ h. subst (LacksNames goes_on) (sym same_view) (refusing_lacks x b here h))

    -- the call has ended
    abbrev pub over : ClientState
    over = record x { refusing = b; call = None; want = Nothing }

    stands_over : Stands o q i over Rests
    stands_over = stands_idle o i p q w.moved.setup w.moved.opened w.moved.entered w.moved.seats (moved_entries w.access p q w.moved) x over Wants Rests may.stands may.stands.phase.0 same_view refl refl (may.stands.phase.0, refl, refl) (λ c h. absurd cc)

    matches_over : (st : Standing) → Matches x here Wants st.does → Matches over (view_at q i) Rests (ended_if true (accessed st.does w.access))
    matches_over st m = subst (λ (d : Doing). Matches over (view_at q i) Rests (ended_if true d)) (sym (accessed_so st m)) (record { refusing = refl; known = m.known; stock = m.stock; doing = refl })

    pub was_full : (bound worn out : ℕ) → turn ≡ TurnFull bound worn out → WasServed o i x over v (let_go n v) p q (Full (suc i) bound worn out)
    was_full bound worn out e = step_so over (let_go n v) (Full (suc i) bound worn out) Rests refl stands_over
        (λ st of m. subst (λ (t : ServerTurn). Leaves st.actor st.does x.want v n t (step_record st w.access None (Full (suc i) bound worn out) (let_go n v))) (sym e) (ap (λ (a : ℕ). Full a bound worn out) (sym of.actor), refl))
        (λ st of m. matches_over st m)
        refl
        tt
        (λ quiet. absurd cc)
        (λ h. free_lacks over (view_at q i) refl)

    pub was_without : turn ≡ TurnNoSlot → WasServed o i x over v (let_go n v) p q (NoSlot (suc i))
    was_without e = step_so over (let_go n v) (NoSlot (suc i)) Rests refl stands_over
        (λ st of m. subst (λ (t : ServerTurn). Leaves st.actor st.does x.want v n t (step_record st w.access None (NoSlot (suc i)) (let_go n v))) (sym e) (ap NoSlot (sym of.actor), refl))
        (λ st of m. matches_over st m)
        refl
        tt
        (λ quiet. absurd cc)
        (λ h. free_lacks over (view_at q i) refl)

    pub was_unreached : turn ≡ TurnUnreached → WasServed o i x over v (let_go n v) p q (Refused (suc i) Unreached)
    was_unreached e = step_so over (let_go n v) (Refused (suc i) Unreached) Rests refl stands_over
        (λ st of m. subst (λ (t : ServerTurn). Leaves st.actor st.does x.want v n t (step_record st w.access None (Refused (suc i) Unreached) (let_go n v))) (sym e) (ap (λ (a : ℕ). Refused a Unreached) (sym of.actor), refl))
        (λ st of m. matches_over st m)
        refl
        tt
        (λ quiet. absurd cc)
        (λ h. free_lacks over (view_at q i) refl)
