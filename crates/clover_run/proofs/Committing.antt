-- Behind an access of a call that goes on: the note is quiet, an entry is of a commit, and the tag that the call may commit, its task and its acts are what they were with this one.
use Rattle.std.proofs.Common.{◌≡◌, ℕ, List, [], ◌∷◌, ◌++◌, true, false, refl, sym, ap, ◌∙◌, subst}
use Rattle.std.specs.Prelude.{Option, Some, None, IfSome}
use Rattle.clover_words.specs.declared.pool.Pool.{Pool}
use Rattle.clover_map.specs.History.{is_commit}
use Rattle.clover_map.specs.declared.call.Entry.{Entry}
use Rattle.clover_map.specs.declared.call.Reply.{Reply}
use Rattle.clover_map.specs.declared.call.Reply.TheVariants.{Stored, Deleted, Found, Absent, Differs}
use Rattle.clover_rule.specs.declared.access.Act.{Act}
use Rattle.clover_run.specs.Folds.{Doing, entered, ends}
use Rattle.clover_run.specs.Record.{Record}
use Rattle.clover_run.specs.Run.{Standing, IsEntry, TakesFirst, IsCause, first_of, own_tag}
use Rattle.clover_run.specs.declared.event.Note.{Note}
use Rattle.clover_run.specs.declared.event.Note.TheVariants.{Quiet, Waits, Answered, Refused, Full, NoSlot, Granted, Recycled, Unlinked, Unbound, Swept, Unreached, Busy, Missing}

-- such a step is quiet
pub only_quiet : (p : Pool) (st : Standing) (e : Option Entry) (act : Act) (note : Note) → ends note ≡ false → IsCause p st e act note → note ≡ Quiet
only_quiet p st e act Quiet goes cause = refl
only_quiet p st e act Waits goes cause = absurd cause
only_quiet p st e act (Answered c reply) goes cause = absurd cc
only_quiet p st e act (Refused c why) goes cause = absurd cc
only_quiet p st e act (Full c bound worn out) goes cause = absurd cause
only_quiet p st e act (NoSlot c) goes cause = absurd cause
only_quiet p st e act (Granted c names) goes cause = absurd cause
only_quiet p st e act (Recycled t) goes cause = absurd cause
only_quiet p st e act Unlinked goes cause = absurd cause
only_quiet p st e act Unbound goes cause = absurd cause
only_quiet p st e act (Swept n) goes cause = absurd cause
only_quiet p st e act Unreached goes cause = absurd cause
only_quiet p st e act (Busy a) goes cause = absurd cause
only_quiet p st e act (Missing a) goes cause = absurd cause

-- and an entry there is of a commit
pub commits_of : (p : Pool) (st : Standing) (e : Option Entry) (act : Act) (note : Note) → note ≡ Quiet → IsCause p st e act note → IfSome e (λ (x : Entry). is_commit x.reply ≡ true)
commits_of p st e act note quiet cause = (subst (IsCause p st e act) quiet cause).0

pub undecided : (p : Pool) (st : Standing) (r : Record) (e : Option Entry) → IfSome e (IsEntry p st r) → IfSome e (λ (x : Entry). st.does.decided ≡ None)
undecided p st r None h = tt
undecided p st r (Some e) h = h.first

-- the tag that a call may commit, by its reply and its client's stock
abbrev pub own_of : Option Reply → List ℕ → ℕ
own_of (Some (Stored t)) ts = t
own_of (Some (Deleted t)) ts = t
own_of o ts = first_of ts

pub own_at : (st : Standing) (o : Option Reply) → st.does.decided ≡ o → own_tag st ≡ own_of o st.does.stock
own_at st o e = ap (λ (r : Option Reply). own_tag (record st { does = record st.does { decided = r } })) e ∙ at o
  where
    at : (r : Option Reply) → own_tag (record st { does = record st.does { decided = r } }) ≡ own_of r st.does.stock
    at None = refl
    at (Some (Stored t)) = refl
    at (Some (Deleted t)) = refl
    at (Some (Found t v)) = refl
    at (Some Absent) = refl
    at (Some (Differs t)) = refl

-- an entry leaves the task and the acts, and the tag that the call may commit: a commit took it from the stock
pub entered_task : (d : Doing) (e : Option Entry) → (entered d e).task ≡ d.task
entered_task d None = refl
entered_task d (Some e) = refl

pub entered_since : (d : Doing) (e : Option Entry) → (entered d e).since ≡ d.since
entered_since d None = refl
entered_since d (Some e) = refl

module _ (st st1 : Standing) (act : Act) where
  abbrev behind : Doing
  behind = record st.does { since = st.does.since ++ act ∷ []; refusing = false }

  pub own_entered : (e : Option Entry) → st1.does ≡ entered behind e → IfSome e (λ (x : Entry). is_commit x.reply ≡ true) → IfSome e (TakesFirst st) → IfSome e (λ (x : Entry). st.does.decided ≡ None) → own_tag st1 ≡ own_tag st
  own_entered None is commits takes first = own_at st1 st.does.decided (ap (λ (d : Doing). d.decided) is) ∙ ap (own_of st.does.decided) (ap (λ (d : Doing). d.stock) is) ∙ sym (own_at st st.does.decided refl)
  own_entered (Some e) is commits takes first = own_at st1 (Some e.reply) (ap (λ (d : Doing). d.decided) is) ∙ by_reply e.reply refl commits ∙ sym (own_at st None first)
    where
      by_reply : (r : Reply) → e.reply ≡ r → is_commit r ≡ true → own_of (Some r) st1.does.stock ≡ first_of st.does.stock
      by_reply (Stored t) same commit = sym (ap first_of ((takes t).0 same).1)
      by_reply (Deleted t) same commit = sym (ap first_of ((takes t).1 same).1)
      by_reply (Found t v) same commit = absurd cc
      by_reply Absent same commit = absurd cc
      by_reply (Differs t) same commit = absurd cc
