-- The accesses that decide a call, whose entry is entered then, and the one that answers a commit.
use Prim.Native.Nat.{suc}
use Rattle.std.proofs.Common.{◌≡◌, ℕ, ◌==◌, ◌-◌, ◌^◌, ◌<◌, List, [], ◌∷◌, ◌++◌, length, get_or, Bool, true, false, cond, refl, sym, ap, ◌∙◌, subst, eq-eqb}
use Rattle.std.specs.Prelude.{Some, None}
use Rattle.std.proofs.lemmas.Option.{same_Some}
use Rattle.clover_words.specs.declared.pool.Pool.{Pool}
use Rattle.clover_map.specs.History.{own, is_commit}
use Rattle.clover_map.specs.declared.call.Call.{Call}
use Rattle.clover_map.specs.declared.call.Call.TheVariants.{Get as GetOf, Put as PutOf, Delete as DeleteOf, Swap as SwapOf}
use Rattle.clover_map.specs.declared.call.Entry.{Entry}
use Rattle.clover_map.specs.declared.call.Reply.{Reply}
use Rattle.clover_map.specs.declared.call.Reply.TheVariants.{Stored, Deleted}
use Rattle.clover_rule.specs.Accesses.{Decides}
use Rattle.clover_rule.specs.Knowing.{link_entry}
use Rattle.clover_rule.specs.Learned.{next_history}
use Rattle.clover_rule.specs.Moves.{nobody}
use Rattle.clover_rule.specs.Steps.{Step, act_of, client, number_of, reply_of}
use Rattle.clover_rule.specs.Views.{OwnCalls}
use Rattle.clover_rule.specs.declared.access.Act.{Act}
use Rattle.clover_rule.specs.declared.view.Role.{Role}
use Rattle.clover_rule.specs.declared.view.Role.TheVariants.{Client as ClientRole}
use Rattle.clover_rule.specs.declared.view.View.{View}
use Rattle.clover_port.specs.Told.{Open, Made, opened}
use Rattle.clover_plain.specs.Plain.{Plain, Stepped, KeptButEntries, view_at, history, open_of}
use Rattle.clover_walk.proofs.Endings.{stepped}
use Rattle.clover_event.specs.Client.{IsLast, access}
use Rattle.clover_event.specs.Stepping.{next_entry}
use Rattle.clover_event.proofs.Going.{number_more}
use Rattle.clover_run.specs.Client.{Calls, Stands, IsOf, IsTaskOf, Moved, KeepsOthers, call_at, step_record}
use Rattle.clover_run.specs.Run.{Opening, Standing, IsCause, IsOwnAccess, TakesFirst}
use Rattle.clover_run.specs.declared.client.ClientState.{ClientState}
use Rattle.clover_run.specs.declared.event.Note.{Note}
use Rattle.clover_run.proofs.Accessing.{made_own, seated}
use Rattle.clover_run.proofs.Moving.{moved_entered, others_entered, others_made}

-- a step that decided with this entry told of it
pub told_more : (p : Pool) (a : Step) (b : Bool) (v : View) (n : ℕ) (e : Entry) (o : Open) (w : View) (o1 : Open) → Made p a b v (Some o) n w (Some o1) → ((h : List Entry) → next_history a h v n ≡ h ++ e ∷ []) → o1.history ≡ o.history ++ e ∷ []
told_more p a b v n e o w o1 m adds =
    ap (λ (z : Open). z.history) (same_Some o1 (opened p a v n m.now) m.tells.1) ∙ adds m.now.history ∙ ap (λ (z : Open). z.history ++ e ∷ []) (sym m.tells.0)

pub one_more : (n : ℕ) (h : List Entry) (e : Entry) → cond (n == n) (h ++ e ∷ []) h ≡ h ++ e ∷ []
one_more n h e = ap (λ (b : Bool). cond b (h ++ e ∷ []) h) (eq-eqb n n refl)

own_calls : (r : Role) (c : ℕ) (calls h : List Entry) → r ≡ ClientRole c → OwnCalls r calls h → calls ≡ own h c
own_calls r c calls h e k = subst (λ (z : Role). OwnCalls z calls h) e k

-- a commit takes the first tag of the stock, and no other entry takes one
commit_tag : (t s : ℕ) (call : Call) → reply_of t call ≡ Stored s → t ≡ s
commit_tag t s (GetOf key) e = cc
commit_tag t s (PutOf key x) e = cc
commit_tag t s (DeleteOf key) e = absurd cc
commit_tag t s (SwapOf key k x) e = cc

delete_tag : (t s : ℕ) (call : Call) → reply_of t call ≡ Deleted s → t ≡ s
delete_tag t s (GetOf key) e = absurd cc
delete_tag t s (PutOf key x) e = absurd cc
delete_tag t s (DeleteOf key) e = cc
delete_tag t s (SwapOf key k x) e = absurd cc

pub takes_first : (d : Standing) (e : Entry) (t : ℕ) (rest : List ℕ) (call : Call) → e.reply ≡ reply_of t call → d.does.stock ≡ t ∷ rest → TakesFirst d e
takes_first d e t rest call is has = λ s. ((λ h. (rest, has ∙ ap (λ (k : ℕ). k ∷ rest) (commit_tag t s call (sym is ∙ h)))), (λ h. (rest, has ∙ ap (λ (k : ℕ). k ∷ rest) (delete_tag t s call (sym is ∙ h)))))

pub takes_none : (d : Standing) (e : Entry) → is_commit e.reply ≡ false → TakesFirst d e
takes_none d e plain = λ s. ((λ h. absurd (let z : true ≡ false = sym (ap is_commit h) ∙ plain in cc)), (λ h. absurd (let z : true ≡ false = sym (ap is_commit h) ∙ plain in cc)))

-- The access was this step, and decided the call of the client of seat i with this reply.
module _ (o : Opening) (i : ℕ) (x : ClientState) (p q : Plain) (st : Stands o p i x Calls) (few : p.made < 2 ^ 64 - 1)
    (step : Step) (b : Bool) (n : ℕ) (acc : Stepped step b true i n p q) (made : Made p.setup.pool step b (view_at p i) (Some (open_of p)) n (view_at q i) (Some (open_of q))) (reply : Reply)
    (adds : history q ≡ history p ++ link_entry (view_at p i) (client (view_at p i)) (call_at x (view_at p i)) reply ∷ []) where
  abbrev v : View
  v = view_at p i

  abbrev w : View
  w = view_at q i

  abbrev call : Call
  call = call_at x (view_at p i)

  abbrev act : Act
  act = act_of step n

  abbrev entry : Entry
  entry = next_entry (suc i) x.number call reply

  client_is : client v ≡ suc i
  client_is = ap number_of st.holds.role ∙ st.client

  number_is : length v.pass.calls ≡ x.number
  number_is =
      let hist : made.now.history ≡ p.entries = ap (λ (z : Open). z.history) (sym made.tells.0) ∙ sym st.entered in
      ap length (own_calls v.pass.role (suc i) v.pass.calls made.now.history (st.holds.role ∙ ap ClientRole st.client) made.told.before.calls ∙ ap (λ (h : List Entry). own h (suc i)) hist) ∙ sym st.number

  entry_is : link_entry v (client v) call reply ≡ entry
  entry_is = λ j. record { client = client_is j; number = suc (number_is j); call = call; reply = reply }

  -- so the entry is the one that may be entered
  pub enters : history q ≡ q.entries ++ entry ∷ []
  enters = adds ∙ ap (λ (e : Entry). history p ++ e ∷ []) entry_is ∙ ap (λ (l : List Entry). l ++ entry ∷ []) (sym (acc.same.entries ∙ st.entered))

  pub since_made : w.pass.since ≡ cond b [] v.pass.since ++ act ∷ []
  since_made = (stepped p.setup.pool step b v (Some (open_of p)) n w (Some (open_of q)) made).since

  -- and was entered
  module _ (t : Plain) (more : t.entries ≡ q.entries ++ entry ∷ []) (kept : KeptButEntries q t) where
    pub there : view_at t i ≡ w
    there = λ j. get_or (kept.views j) i nobody

    pub last_in : IsLast act (view_at t i).pass.since
    last_in = (cond b [] v.pass.since, ap (λ (z : View). z.pass.since) there ∙ since_made)

    pub moved_in : Moved (Some (access i act false)) (Some entry) p t
    moved_in = moved_entered i p q t step b n entry acc (seated o i Calls x p st) few st.entered (adds ∙ ap (λ (e : Entry). history p ++ e ∷ []) entry_is) more kept

    pub others_in : KeepsOthers i p t
    others_in = others_entered i p q t kept (others_made i p q step b true n acc)

    pub number_in : suc x.number ≡ length (own t.entries (suc i))
    number_in = number_more x.number (suc i) p.entries t.entries entry st.number refl moved_in.entries

    -- the access is the step of the run that decides the call
    pub own_in : (d : Standing) (note : Note) → IsOf i x p d → IsTaskOf call d.does → d.does.decided ≡ None → Decides o.setup.pool p.words x.node.names (d.does.since ++ act ∷ []) call reply → TakesFirst d entry → IsCause o.setup.pool d (Some entry) act note
        → IsOwnAccess o.setup.pool d (step_record d (Some (access i act false)) (Some entry) note d.served) (access i act false)
    own_in d note of task none decides takes cause = made_own o.setup.pool i d act of.actor (Some entry) note
        (record {
          access = access i act false;
          last = refl;
          made = refl;
          written = task.0;
          task = task.1;
          first = none;
          client = sym of.actor;
          number = ap suc (sym of.entries);
          decided = subst (λ (l : List (ℕ × List ℕ)). Decides o.setup.pool d.words l (d.does.since ++ act ∷ []) call reply) (sym of.names)
              (subst (λ (ws : List ℕ). Decides o.setup.pool ws x.node.names (d.does.since ++ act ∷ []) call reply) (sym of.words) decides);
        })
        takes (λ wrote. refl) cause

  -- what the accesses decide in the port's words they decide in the pool's
  pub decides_so : (c : Call) (r : Reply) (ws : List ℕ) (acts : List Act) → c ≡ call → r ≡ reply → ws ≡ p.words → w.pass.since ≡ acts → Decides x.node.caller.pool ws v.pass.names w.pass.since c r → Decides o.setup.pool p.words x.node.names acts call reply
  decides_so c r ws acts same told words since d =
      subst (λ (k : Call). Decides o.setup.pool p.words x.node.names acts k reply) same
      (subst (λ (k : Reply). Decides o.setup.pool p.words x.node.names acts c k) told
      (subst (λ (l : List Act). Decides o.setup.pool p.words x.node.names l c r) since
      (subst (λ (l : List (ℕ × List ℕ)). Decides o.setup.pool p.words l w.pass.since c r) st.holds.names
      (subst (λ (l : List ℕ). Decides o.setup.pool l v.pass.names w.pass.since c r) words
      (subst (λ (k : Pool). Decides k ws v.pass.names w.pass.since c r) st.pool d)))))
