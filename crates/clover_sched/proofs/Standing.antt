-- What stands over all runs is one legal history.
use Rattle.std.proofs.Common.{◌≡◌, ℕ, List, [], ◌∷◌, ◌++◌, Bool, true, false, cond, refl, sym, ap, ◌∙◌, subst, inl, inr, ⊎_elim, append-nil, append_assoc}
use Rattle.std.specs.Prelude.{◌⊎◌, not, map, Option, Some, None}
use Rattle.clover_map.specs.Does.{Does}
use Rattle.clover_map.specs.Legal.{Legal, Leads, handed, used_by}
use Rattle.clover_map.specs.Tagged.{Tagged}
use Rattle.clover_map.specs.Tags.{IsFresh, new_tags}
use Rattle.clover_map.specs.declared.call.Call.{Call}
use Rattle.clover_map.specs.declared.call.Call.TheVariants.{Get, Put, Delete, Swap}
use Rattle.clover_map.specs.declared.call.Entry.{Entry}
use Rattle.clover_map.specs.declared.call.Reply.{Reply}
use Rattle.clover_map.specs.declared.call.Reply.TheVariants.{Stored, Found, Absent, Deleted, Differs}
use Rattle.clover_rule.specs.History.{Version, commit_of, kept, lost_in}
use Rattle.clover_script.specs.declared.run_entry.RunEntry.{RunEntry}
use Rattle.clover_run.specs.Folds.{entries_in}
use Rattle.clover_run.specs.Run.{Opening}
use Rattle.clover_run.specs.Told.{told}
use Rattle.clover_sched.specs.Cuts.{AllFollow, AreNew, EachRun, StandsLegal}
use Rattle.clover_sched.specs.Items.{Item, Happened, Loses, Shows, Present, first_present, history_at, is_in, marked, none_gone, present_after, present_by, run_entries}
use Rattle.clover_sched.specs.Laws.{IsLegalRun, RunsStandLaw, StandsOnce, handed_in}

-- a step over which other tags are used as well is one, where its tag is not among them
does_anew : (m o : Tagged) (used more : List ℕ) (call : Call) (reply : Reply) (n q : Tagged) → Does m used call reply n → Does o more call reply q → Does m more call reply n
does_anew m o used more (Put k v) (Stored t) n q d e = (e.0, d.1)
does_anew m o used more (Delete k) (Deleted t) n q d e = (d.0, d.1, e.2, d.3)
does_anew m o used more (Swap k x v) (Stored t) n q d e = (d.0, d.1, d.2, e.3, d.4)
does_anew m o used more (Get k) reply n q d e = get_anew reply d
  where
    get_anew : (r : Reply) → Does m used (Get k) r n → Does m more (Get k) r n
    get_anew (Found t v) d = d
    get_anew Absent d = d
    get_anew (Stored t) d = d
    get_anew (Deleted t) d = d
    get_anew (Differs t) d = d
does_anew m o used more (Put k v) (Found t x) n q d e = d
does_anew m o used more (Put k v) Absent n q d e = d
does_anew m o used more (Put k v) (Deleted t) n q d e = d
does_anew m o used more (Put k v) (Differs t) n q d e = d
does_anew m o used more (Delete k) (Stored t) n q d e = d
does_anew m o used more (Delete k) (Found t x) n q d e = d
does_anew m o used more (Delete k) Absent n q d e = d
does_anew m o used more (Delete k) (Differs t) n q d e = d
does_anew m o used more (Swap k x v) (Found t y) n q d e = d
does_anew m o used more (Swap k x v) Absent n q d e = d
does_anew m o used more (Swap k x v) (Deleted t) n q d e = d
does_anew m o used more (Swap k x v) (Differs t) n q d e = d

-- the standing entries lead from the one map to the other
abbrev StandsLeads : Tagged → List ℕ → List RunEntry → Tagged → Type 0
StandsLeads m used [] n = n ≡ m
StandsLeads m used (x ∷ xs) n = ((x.stands ≡ true) × (between : Tagged) × Does m used x.entry.call x.entry.reply between × StandsLeads between (used ++ new_tags x.entry.reply) xs n) ⊎ ((x.stands ≡ false) × StandsLeads m (used ++ new_tags x.entry.reply) xs n)

-- what a cut keeps of a legal run leads on, with the tags of what it took as used
stands_kept : (run : ℕ) (gone tells : ℕ → Bool) (m o n : Tagged) (used more : List ℕ) (es : List Entry) → Leads m used (kept gone es) n → Legal o more es → StandsLeads m more (map (marked run gone tells) es) n
stands_kept run gone tells m o n used more [] leads legal = leads
stands_kept run gone tells m o n used more (e ∷ es) leads legal = go (lost_in gone (commit_of e)) refl leads (λ a u h. stands_kept run gone tells a legal.0 n u (more ++ new_tags e.reply) es h legal.2)
  where
    go : (b : Bool) → lost_in gone (commit_of e) ≡ b → Leads m used (cond b (kept gone es) (e ∷ kept gone es)) n → ((a : Tagged) (u : List ℕ) → Leads a u (kept gone es) n → StandsLeads a (more ++ new_tags e.reply) (map (marked run gone tells) es) n)
        → StandsLeads m more (map (marked run gone tells) (e ∷ es)) n
    go true is leads on = inr (ap not is, on m used leads)
    go false is leads on = inl (ap not is, leads.0, does_anew m o used more e.call e.reply leads.0 legal.0 leads.1 legal.1, on leads.0 (used ++ new_tags e.reply) leads.2)

-- where nothing is gone all of a legal run stands
stands_all : (run : ℕ) (tells : ℕ → Bool) (m : Tagged) (used : List ℕ) (es : List Entry) → Legal m used es → StandsLegal m used (map (marked run none_gone tells) es)
stands_all run tells m used [] legal = tt
stands_all run tells m used (e ∷ es) legal = inl (ap not (none (commit_of e)), legal.0, legal.1, stands_all run tells legal.0 (used ++ new_tags e.reply) es legal.2)
  where
    none : (w : Option Version) → lost_in none_gone w ≡ false
    none None = refl
    none (Some w) = refl

-- the tags of entries, of some and of more
handed_marked : (run : ℕ) (gone tells : ℕ → Bool) (es : List Entry) → handed_in (map (marked run gone tells) es) ≡ handed es
handed_marked run gone tells [] = refl
handed_marked run gone tells (e ∷ es) = ap (λ (l : List ℕ). new_tags e.reply ++ l) (handed_marked run gone tells es)

handed_more : (xs ys : List RunEntry) → handed_in (xs ++ ys) ≡ handed_in xs ++ handed_in ys
handed_more [] ys = refl
handed_more (x ∷ xs) ys = ap (λ (l : List ℕ). new_tags x.entry.reply ++ l) (handed_more xs ys) ∙ sym (append_assoc (new_tags x.entry.reply) (handed_in xs) (handed_in ys))

-- one list of entries behind another
legal_behind : (m n : Tagged) (used : List ℕ) (xs ys : List RunEntry) → StandsLeads m used xs n → StandsLegal n (used ++ handed_in xs) ys → StandsLegal m used (xs ++ ys)
legal_behind m n used [] ys leads legal = subst (λ (u : List ℕ). StandsLegal m u ys) (append-nil used) (subst (λ (a : Tagged). StandsLegal a (used ++ []) ys) leads legal)
legal_behind m n used (x ∷ xs) ys leads legal = ⊎_elim
    (λ a. inl (a.0, a.1, a.2, legal_behind a.1 n more xs ys a.3 on))
    (λ a. inr (a.0, legal_behind m n more xs ys a.1 on))
    leads
  where
    more : List ℕ
    more = used ++ new_tags x.entry.reply

    on : StandsLegal n (more ++ handed_in xs) ys
    on = subst (λ (u : List ℕ). StandsLegal n u ys) (sym (append_assoc used (new_tags x.entry.reply) (handed_in xs))) legal

leads_behind : (m n o : Tagged) (used : List ℕ) (xs ys : List RunEntry) → StandsLeads m used xs n → StandsLeads n (used ++ handed_in xs) ys o → StandsLeads m used (xs ++ ys) o
leads_behind m n o used [] ys leads more = subst (λ (u : List ℕ). StandsLeads m u ys o) (append-nil used) (subst (λ (a : Tagged). StandsLeads a (used ++ []) ys o) leads more)
leads_behind m n o used (x ∷ xs) ys leads more = ⊎_elim
    (λ a. inl (a.0, a.1, a.2, leads_behind a.1 n o all xs ys a.3 on))
    (λ a. inr (a.0, leads_behind m n o all xs ys a.1 on))
    leads
  where
    all : List ℕ
    all = used ++ new_tags x.entry.reply

    on : StandsLeads n (all ++ handed_in xs) ys o
    on = subst (λ (u : List ℕ). StandsLeads n u ys o) (sym (append_assoc used (new_tags x.entry.reply) (handed_in xs))) more

-- new tags behind new ones
new_behind : (used ts us : List ℕ) → AreNew used ts → AreNew (used ++ ts) us → AreNew used (ts ++ us)
new_behind used [] us a b = subst (λ (u : List ℕ). AreNew u us) (append-nil used) b
new_behind used (t ∷ ts) us a b = (a.0, new_behind (used ++ t ∷ []) ts us a.1 (subst (λ (u : List ℕ). AreNew u us) (sym (append_assoc used (t ∷ []) ts)) b))

-- a step's tag is new, and so are those of a legal history
new_of_does : (m : Tagged) (used : List ℕ) (call : Call) (reply : Reply) (n : Tagged) → Does m used call reply n → AreNew used (new_tags reply)
new_of_does m used (Put k v) (Stored t) n d = (d.0, tt)
new_of_does m used (Delete k) (Deleted t) n d = (d.2, tt)
new_of_does m used (Swap k x v) (Stored t) n d = (d.3, tt)
new_of_does m used (Get k) (Stored t) n d = absurd d
new_of_does m used (Delete k) (Stored t) n d = absurd d
new_of_does m used (Get k) (Deleted t) n d = absurd d
new_of_does m used (Put k v) (Deleted t) n d = absurd d
new_of_does m used (Swap k x v) (Deleted t) n d = absurd d
new_of_does m used call (Found t v) n d = tt
new_of_does m used call Absent n d = tt
new_of_does m used call (Differs t) n d = tt

new_of_legal : (m : Tagged) (used : List ℕ) (es : List Entry) → Legal m used es → AreNew used (handed es)
new_of_legal m used [] legal = tt
new_of_legal m used (e ∷ es) legal = new_behind used (new_tags e.reply) (handed es) (new_of_does m used e.call e.reply legal.0 legal.1) (new_of_legal legal.0 (used ++ new_tags e.reply) es legal.2)

-- where some items led from an opening: what stands of the ended runs leads to where the present run began
record Reached (o : Opening) (at : Present) : Type 0 where
  leads : StandsLeads o.first o.used at.past at.opening.first
  used : at.opening.used ≡ o.used ++ handed_in at.past
  once : AreNew o.used (handed_in at.past)

module _ (o : Opening) where
  -- the tags of the ended runs and of the present one
  once_more : (at : Present) (gone : ℕ → Bool) → Reached o at → IsLegalRun at → AreNew o.used (handed_in (at.past ++ run_entries at gone))
  once_more at gone r legal = subst (AreNew o.used) (sym (handed_more at.past (run_entries at gone)))
      (new_behind o.used (handed_in at.past) (handed_in (run_entries at gone)) r.once
      (subst (λ (u : List ℕ). AreNew u (handed_in (run_entries at gone))) r.used
      (subst (AreNew at.opening.used) (sym (handed_marked at.opening.run gone (told at.records) (entries_in at.records))) (new_of_legal at.opening.first at.opening.used (entries_in at.records) legal))))

  stands_on : (at : Present) (items : List Item) → Reached o at → AllFollow at items → EachRun IsLegalRun at items → StandsOnce o (history_at (present_after at items))
  stands_on at [] r follows runs = record {
    legal = legal_behind o.first at.opening.first o.used at.past (run_entries at none_gone) r.leads
        (subst (λ (u : List ℕ). StandsLegal at.opening.first u (run_entries at none_gone)) r.used (stands_all at.opening.run (told at.records) at.opening.first at.opening.used (entries_in at.records) runs.1));
    once = once_more at none_gone r runs.1;
  }
  stands_on at (Happened x ∷ items) r follows runs = stands_on (present_by at (Happened x)) items (record { leads = r.leads; used = r.used; once = r.once }) follows.1 runs
  stands_on at (Shows choice image ∷ items) r follows runs = stands_on at items r follows.1 runs
  stands_on at (Loses choice more l ∷ items) r follows runs = stands_on (present_by at (Loses choice more l)) items reached follows.1 (runs.0.1, runs.1)
    where
      mine : List RunEntry
      mine = run_entries at (is_in l.gone)

      kept_on : StandsLeads at.opening.first at.opening.used mine l.left
      kept_on = stands_kept at.opening.run (is_in l.gone) (told at.records) at.opening.first at.opening.first l.left at.opening.used at.opening.used (entries_in at.records) follows.0.takes.leads runs.0.0

      reached : Reached o (present_by at (Loses choice more l))
      reached = record {
        leads = leads_behind o.first at.opening.first l.left o.used at.past mine r.leads (subst (λ (u : List ℕ). StandsLeads at.opening.first u mine l.left) r.used kept_on);
        used = ap (λ (u : List ℕ). u ++ handed (entries_in at.records)) r.used ∙ append_assoc o.used (handed_in at.past) (handed (entries_in at.records))
            ∙ ap (λ (u : List ℕ). o.used ++ (handed_in at.past ++ u)) (sym (handed_marked at.opening.run (is_in l.gone) (told at.records) (entries_in at.records)))
            ∙ ap (λ (u : List ℕ). o.used ++ u) (sym (handed_more at.past mine));
        once = once_more at (is_in l.gone) r runs.0.0;
      }

pub runs_stand : RunsStandLaw
runs_stand o items follows runs = stands_on o (first_present o) items (record { leads = refl; used = sym (append-nil o.used); once = tt }) follows runs
