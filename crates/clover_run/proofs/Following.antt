-- what holds of every run: its accesses replay, and each client's entries are numbered; and of the records behind which a machine stands
use Rattle.std.proofs.Common.{suc, ◌≡◌, ◌+◌, ℕ, Bool, true, false, List, [], ◌∷◌, ◌++◌, length, Option, Some, None, refl, ap, subst, sym, ◌∙◌, arith, append-nil, append_assoc, option_to_list}
use Rattle.std.specs.Prelude.{IfSome, if◌then◌else◌}
use Rattle.clover_words.specs.declared.pool.Pool.{Pool}
use Rattle.clover_map.specs.History.{own, IsNumberedByClient}
use Rattle.clover_map.specs.declared.call.Call.{Call}
use Rattle.clover_map.specs.declared.call.Entry.{Entry}
use Rattle.clover_script.specs.declared.line.Task.{Task}
use Rattle.clover_script.specs.declared.line.Task.TheVariants.{Client as ClientTask, Recycle, Sweep}
use Rattle.clover_run.specs.declared.want.Want.{Want}
use Rattle.clover_run.specs.declared.want.Want.TheVariants.{Nothing, Stock, Names}
use Rattle.clover_map.proofs.Parts.{numbered_by_client_push}
use Rattle.clover_rule.specs.Accesses.{CameBack, words_after_act, ActsReplay, done, Replays}
use Rattle.clover_rule.specs.declared.access.Access.{Access}
use Rattle.clover_rule.specs.declared.access.Act.{Act}
use Rattle.clover_run.specs.Folds.{accesses_in, entries_in, words_after}
use Rattle.clover_event.specs.Folds.{words_by}
use Rattle.clover_run.specs.Machine.{Parts, IsAt}
use Rattle.clover_run.specs.Record.{Record}
use Rattle.clover_run.specs.Run.{Opening, IsAccess, IsEntry, IsStepFor, IsStepOf, Fits, GoesOn, IsRun, standing, want_in}
use Rattle.clover_event.specs.declared.event.Event.{Event}
use Rattle.clover_event.specs.declared.event.Event.TheVariants.{Begin, Step, Refuse}
use Rattle.clover_run.proofs.Pasts.{entries_more, words_more}
use Rattle.clover_run.proofs.Paying.{all_paid}
use Rattle.clover_run.proofs.Rounding.{all_rounds}
use Rattle.clover_run.specs.Lawful.{IsLawful}

-- an access that was made came back with what the words give
fits_access : (o : Opening) (before : List Record) (r : Record) (e : Event) → Fits o before r e → (x : Access) → r.access ≡ Some x → x.refused ≡ false → CameBack o.setup.pool (words_after o.setup.pool o.words before) x.act
fits_access o before r (Begin a t) still x is made = let no : None ≡ Some x = sym still.access ∙ is in cc
fits_access o before r (Step a) step x is made =
    let P : Option Access → Type 0 = λ y. IfSome y (IsAccess o.setup.pool (standing o a before)) in
    (subst P is step.accesses).replays made
fits_access o before r (Refuse a) still x is made = let no : None ≡ Some x = sym still.access ∙ is in cc

-- an entry of a step has its client's next number; only a step of a call's own has one
own_entry : (o : Opening) (a : ℕ) (before : List Record) (r : Record) (x : Entry) → r.entry ≡ Some x → IsEntry o.setup.pool (standing o a before) r x → x.number ≡ suc (length (own (entries_in before) x.client))
own_entry o a before r x is here = here.number ∙ ap (λ c. suc (length (own (entries_in before) c))) (sym here.client)

served_entry : (o : Opening) (a : ℕ) (before : List Record) (r : Record) (x : Entry) (call : Call) (want : Want) → r.entry ≡ Some x → IsStepFor o.setup.pool (standing o a before) call want r → x.number ≡ suc (length (own (entries_in before) x.client))
served_entry o a before r x call Nothing is step =
    let P : Option Entry → Type 0 = λ y. IfSome y (IsEntry o.setup.pool (standing o a before) r) in
    own_entry o a before r x is (subst P is step.own.entry)
served_entry o a before r x call Stock is step = let no : None ≡ Some x = sym step.entry ∙ is in cc
served_entry o a before r x call Names is step = let no : None ≡ Some x = sym step.entry ∙ is in cc

step_entry : (o : Opening) (a : ℕ) (before : List Record) (r : Record) (x : Entry) (task : Option Task) → r.entry ≡ Some x → IsStepOf o.setup.pool (standing o a before) task r → x.number ≡ suc (length (own (entries_in before) x.client))
step_entry o a before r x None is still = let no : None ≡ Some x = sym still.entry ∙ is in cc
step_entry o a before r x (Some (ClientTask call written)) is step = served_entry o a before r x call (want_in (standing o a before) call) is step
step_entry o a before r x (Some (Recycle slot)) is step = let no : None ≡ Some x = sym step.entry ∙ is in cc
step_entry o a before r x (Some Sweep) is step = let no : None ≡ Some x = sym step.entry ∙ is in cc

fits_entry : (o : Opening) (before : List Record) (r : Record) (e : Event) → Fits o before r e → (x : Entry) → r.entry ≡ Some x → x.number ≡ suc (length (own (entries_in before) x.client))
fits_entry o before r (Begin a t) still x is = let no : None ≡ Some x = sym still.entry ∙ is in cc
fits_entry o before r (Step a) step x is = step_entry o a before r x (standing o a before).does.task is step.is
fits_entry o before r (Refuse a) still x is = let no : None ≡ Some x = sym still.entry ∙ is in cc

one_act : (b : Bool) (p : Pool) (ws : List ℕ) (act : Act) (xs : List Access) → (b ≡ false → CameBack p ws act) → ActsReplay p (if b then ws else words_after_act p ws act) (done xs) → ActsReplay p ws (if b then done xs else act ∷ done xs)
one_act true p ws act xs came rest = rest
one_act false p ws act xs came rest = (came refl, rest)

first_act : (p : Pool) (ws : List ℕ) (o : Option Access) (xs : List Access) → ((x : Access) → o ≡ Some x → x.refused ≡ false → CameBack p ws x.act) → ActsReplay p (words_by p ws o) (done xs) → ActsReplay p ws (done (option_to_list o ++ xs))
first_act p ws None xs came rest = rest
first_act p ws (Some x) xs came rest = one_act x.refused p ws x.act xs (λ made. came x refl made) rest

replays_on : (o : Opening) (before rs : List Record) → GoesOn o before rs → ActsReplay o.setup.pool (words_after o.setup.pool o.words before) (done (accesses_in rs))
replays_on o before [] h = tt
replays_on o before (r ∷ rs) h =
    let P : List ℕ → Type 0 = λ ws. ActsReplay o.setup.pool ws (done (accesses_in rs)) in
    first_act o.setup.pool (words_after o.setup.pool o.words before) r.access (accesses_in rs) (fits_access o before r r.event h.0)
    (subst P (words_more o.setup.pool o.words before r) (replays_on o (before ++ r ∷ []) rs h.1))

-- the accesses of a run replay
pub run_replays : (o : Opening) (rs : List Record) → IsRun o rs → Replays o.setup.pool o.words (accesses_in rs)
run_replays o rs run = replays_on o [] rs run

entry_numbered : (h : List Entry) (o : Option Entry) → IsNumberedByClient h → ((x : Entry) → o ≡ Some x → x.number ≡ suc (length (own h x.client))) → IsNumberedByClient (h ++ option_to_list o)
entry_numbered h None all number = subst IsNumberedByClient (sym (append-nil h)) all
entry_numbered h (Some e) all number = numbered_by_client_push h e all (number e refl ∙ (let one : suc (length (own h e.client)) ≡ 1 + length (own h e.client) = omega arith in one))

numbered_on : (o : Opening) (before rs : List Record) → GoesOn o before rs → IsNumberedByClient (entries_in before) → IsNumberedByClient (entries_in (before ++ rs))
numbered_on o before [] h all = subst (λ l. IsNumberedByClient (entries_in l)) (sym (append-nil before)) all
numbered_on o before (r ∷ rs) h all =
    subst (λ l. IsNumberedByClient (entries_in l)) (append_assoc before (r ∷ []) rs)
    (numbered_on o (before ++ r ∷ []) rs h.1
    (subst IsNumberedByClient (sym (entries_more before r)) (entry_numbered (entries_in before) r.entry all (fits_entry o before r r.event h.0))))

-- each client's entries of a run are numbered from 1
pub run_numbered : (o : Opening) (rs : List Record) → IsRun o rs → IsNumberedByClient (entries_in rs)
run_numbered o rs run = numbered_on o [] rs run (λ c. tt)

-- what holds of the records behind which a machine stands
pub lawful_at : (o : Opening) (m : Parts) (rs : List Record) → IsAt o m rs → IsLawful o rs
lawful_at o m rs at = record {
  run = at.run;
  replays = run_replays o rs at.run;
  legal = at.legal;
  numbered = run_numbered o rs at.run;
  found = at.found;
  counted = at.counted;
  free = at.free;
  alone = at.alone.all;
  paid = all_paid o rs at.begins at.run;
  rounds = all_rounds o rs at.begins at.run at.alone.all;
}
