-- What the acts of a call that writes show at its commit and behind it: it has written its link, raises that, and stores its shortcut.
use Prim.Native.Nat.{zero, suc}
use Rattle.std.proofs.Common.{◌≡◌, ℕ, nat_lt, ◌+◌, ◌-◌, ◌<◌, List, [], ◌∷◌, ◌++◌, length, Bool, true, false, cond, refl, sym, ap, ◌∙◌, inl, inr, subst, arith, eq-eqb}
use Rattle.std.specs.Prelude.{Some, None}
use Rattle.clover_words.specs.declared.bytes.ValueBuf.{ValueBuf}
use Rattle.clover_words.specs.declared.pool.Pool.{Pool}
use Rattle.clover_words.specs.declared.setup.Setup.{Setup}
use Rattle.clover_words.specs.Preset.{buffers_total, dealt_number}
use Rattle.clover_words.specs.Version.{unlinked}
use Rattle.clover_map.specs.History.{key_of}
use Rattle.clover_map.specs.declared.call.Call.{Call}
use Rattle.clover_map.specs.declared.call.Call.TheVariants.{Get as GetOf, Put as PutOf, Delete as DeleteOf, Swap as SwapOf}
use Rattle.clover_plain.specs.Preset.{dealt_from, tag_at}
use Rattle.clover_rule.specs.Accesses.{wrote_link}
use Rattle.clover_rule.specs.Learned.{rest_of}
use Rattle.clover_rule.specs.Lists.{Within}
use Rattle.clover_rule.specs.Steps.{Step, StoreShort, act_of, reply_of}
use Rattle.clover_rule.specs.declared.access.Act.{Act}
use Rattle.clover_rule.specs.declared.view.View.{View}
use Rattle.clover_rule.proofs.Steps.{within_last}
use Rattle.clover_walk.specs.Walking.{key_at}
use Rattle.clover_put.specs.Answering.{IsBefore}
use Rattle.clover_put.specs.Holding.{Fills}
use Rattle.clover_put.specs.Putting.{Putting, Stage, Storing, Flushing, Seeking, AtMeta, AtLink, Deciding, AtBad, AtRaise, AtShort, Over, put_step, put_on, staged, walked}
use Rattle.clover_walk.specs.Walking.{goes_on}
use Rattle.clover_call.specs.Going.{GoesOn, Turns}
use Rattle.clover_call.specs.Caller.{CallHolds, HasCommitted, IsUncommitted, call_under, is_first, new_tag, next_step, slot_of}
use Rattle.clover_call.specs.declared.answer.Answer.{Answer}
use Rattle.clover_call.specs.declared.answer.CallerTurn.TheVariants.{More, Decided, Done}
use Rattle.clover_call.specs.declared.under.Underway.{Underway}
use Rattle.clover_call.specs.declared.under.Underway.TheVariants.{Nothing, Get, Write}
use Rattle.clover_call.proofs.Staying.{raises_at, shortens_at}
use Rattle.clover_event.specs.declared.event.CallRefusal.TheVariants as why
use Rattle.clover_event.specs.Client.{HasLinked, LinkedAt}
use Rattle.clover_event.specs.Run.{Flushes, Shortens, lost}

unlinked_before : (s : Stage) (t : ℕ) (acts : List Act) → IsBefore s → LinkedAt s t acts
unlinked_before (Storing j) t acts b = tt
unlinked_before (Flushing j) t acts b = tt
unlinked_before Seeking t acts b = tt
unlinked_before (AtMeta u) t acts b = tt
unlinked_before (AtLink u) t acts b = tt
unlinked_before (Deciding u y) t acts b = tt
unlinked_before (AtBad u) t acts b = tt
unlinked_before (AtRaise u) t acts b = absurd b
unlinked_before AtShort t acts b = absurd b
unlinked_before Over t acts b = absurd b

module _ (p : Pool) (x y : Underway) (v w : View) (room room1 : ValueBuf) (n : ℕ) where
  abbrev Since : Underway → Type 0
  Since u = w.pass.since ≡ cond (is_first u) [] v.pass.since ++ act_of (next_step u v room) n ∷ []

  -- a call that goes on behind its exchange has raised its link
  raised : (c : Putting) (t : ℕ) → c.stage ≡ AtRaise t → CallHolds p (Write c) v room → LinkedAt c.stage c.own v.pass.since → Since (Write c) → Flushes c.own w.pass.since
  raised c t e held linked since = record {
    from = t;
    old = n;
    before = v.pass.since;
    all = since ∙ (λ i. cond (subst (λ (s : Stage). Fills s c v) e held.1.fills i) [] v.pass.since ++ act_of (put_step (record c { stage = e i }) v) n ∷ []);
    wrote = subst (λ (s : Stage). LinkedAt s c.own v.pass.since) e linked;
  }

  more_so : (u : Underway) → CallHolds p u v room → GoesOn u room n More y room1 → Turns More u y → HasLinked u v.pass.since → Since u → HasLinked y w.pass.since
  more_so Nothing held go turns linked since = absurd go
  more_so (Get g) held go turns linked since = subst (λ (k : Underway). HasLinked k w.pass.since) (sym go.3) tt
  more_so (Write c) held go (inl b) linked since = subst (λ (k : Underway). HasLinked k w.pass.since) (sym go.0) (unlinked_before (put_on c n).stage (put_on c n).own w.pass.since (subst IsUncommitted go.0 b.1))
  more_so (Write c) held go (inr b) linked since =
      let (t, e) = raises_at c n b.0 (subst HasCommitted go.0 b.1) in
      subst (λ (k : Underway). HasLinked k w.pass.since) (sym (go.0 ∙ ap (λ (s : Stage). Write (put_on (record c { stage = s }) n)) e)) (raised c t e held linked since)

  pub linked_more : CallHolds p x v room → GoesOn x room n More y room1 → Turns More x y → HasLinked x v.pass.since → Since x → HasLinked y w.pass.since
  linked_more = more_so x

  -- the exchange of a call that commits is no store of a shortcut
  pub link_act : (u : Underway) (a : Answer) → GoesOn u room n (Decided a) y room1 → HasCommitted y → Shortens (act_of (next_step u v room) n) → ⊥
  link_act Nothing a go h s = go
  link_act (Get g) a go h s = subst HasCommitted go.3 h
  link_act (Write c) a go h s = subst (λ (t : Stage). Shortens (act_of (put_step (record c { stage = t }) v) n)) go.3.1 s

  -- and behind it the link is written
  pub linked_now : (u : Underway) (a : Answer) → GoesOn u room n (Decided a) y room1 → HasCommitted y → Since u → HasLinked y w.pass.since
  linked_now Nothing a go h since = absurd go
  linked_now (Get g) a go h since = absurd (subst HasCommitted go.3 h)
  linked_now (Write c) a go h since =
      let t = go.3.0 in let e = go.3.1 in let hit = go.3.2 in
      let on : put_on (record c { stage = AtLink t }) (unlinked t) ≡ record c { stage = AtRaise t } = ap (λ (b : Bool). cond b (staged c (AtRaise t)) (walked c (goes_on c.walk (unlinked t)))) (eq-eqb (unlinked t) (unlinked t) refl) in
      let is : y ≡ Write (record c { stage = AtRaise t }) = go.0 ∙ (λ i. Write (put_on (record c { stage = e i }) (hit i))) ∙ ap Write on in
      let acts : w.pass.since ≡ cond c.walk.first [] v.pass.since ++ wrote_link t c.own ∷ [] = since ∙ (λ i. cond c.walk.first [] v.pass.since ++ act_of (put_step (record c { stage = e i }) v) (hit i) ∷ []) in
      subst (λ (k : Underway). HasLinked k w.pass.since) (sym is) (subst (Within (wrote_link t c.own)) (sym acts) (within_last (wrote_link t c.own) (cond c.walk.first [] v.pass.since)))

-- a call that has committed is refused as linked
pub lost_commit : (t : ℕ) (call : Call) → lost (Some (reply_of t call)) ≡ why.Linked t
lost_commit t (GetOf key) = refl
lost_commit t (PutOf key x) = refl
lost_commit t (DeleteOf key) = refl
lost_commit t (SwapOf key e x) = refl
