-- What the machine's step of a recycler with a task comes to, by what the server's side did; and that want of memory changes nothing.
use Rattle.std.proofs.Common.{◌≡◌, ◌≢◌, ◌<◌, List, Bool, true, false, refl, ap, ◌∙◌, subst}
use Rattle.std.specs.Prelude.{Option, Some, None, Result, Ok, Err, IfOk, OnErr}
use Rattle.std.proofs.lemmas.Result.{IfOk-weaker}
use Rattle.clover_list.specs.declared.memory.OutOfMemory.{OutOfMemory}
use Rattle.clover_plain.specs.Plain.{Plain, Kept, Running}
use Rattle.clover_event.specs.declared.event.Event.TheVariants.{Step}
use Rattle.clover_run.specs.Left.{left}
use Rattle.clover_run.specs.Machine.{Parts, IsAt, IsBehind, IsSame, IsBusy, Continues, Happens, OnlyWaits}
use Rattle.clover_run.specs.Record.{Record}
use Rattle.clover_run.specs.Recycling.{MayClean, WasCleaned}
use Rattle.clover_run.specs.Run.{Opening}
use Rattle.clover_run.specs.Served.{is_elsewhere}
use Rattle.clover_run.specs.declared.event.Note.{Note}
use Rattle.clover_run.specs.declared.recycler.Chore.{Chore}
use Rattle.clover_run.specs.declared.recycler.Recycler.{Recycler}
use Rattle.clover_run.specs.declared.served.Served.{Served}
use Rattle.clover_run.proofs.BehindRecycler.{with_recycler}
use Rattle.clover_run.proofs.Cleaned.{cleaned_recycler, cleaned_told}
use Rattle.clover_run.proofs.Happening.{behind}
use Rattle.clover_run.proofs.Occurring.{kept_at}

-- what a step of the recycler says in every run
abbrev pub GoesCleaned : Parts → Recycler → Served → Plain → Note → Type 0
GoesCleaned m y w q note = (o : Opening) → MayClean o m.recycler m.served m.pool → WasCleaned o m.recycler y m.served w m.pool q note

-- a recycler that is busy has a chore
chore_of : (k : Option Chore) → k ≢ None → (chore : Chore) × (k ≡ Some chore)
chore_of None busy = absurd (busy refl)
chore_of (Some chore) busy = (chore, refl)

module _ (m : Parts) (busy : IsBusy m 0) where
  has : (chore : Chore) × (m.recycler.chore ≡ Some chore)
  has = chore_of m.recycler.chore busy

  may : (o : Opening) (rs : List Record) → IsAt o m rs → MayClean o m.recycler m.served m.pool
  may o rs at = record { setup = at.pool.setup; chore = has.0; has = has.1; bound = at.recycler.bound; read = at.recycler.read; done = at.recycler.done; server = at.server }

  -- so it may have its step
  pub cleaned_may : IsBehind m → (o : Opening) × MayClean o m.recycler m.served m.pool
  cleaned_may (o, rs, at) = (o, may o rs at)

  module _ (y : Recycler) (w : Served) (q : Plain) (runs : q.opened ≡ true → Running q) where
    pub cleaned_happens : (note : Note) → GoesCleaned m y w q note → Happens m (with_recycler m y w q) (Step 0) note
    cleaned_happens note went o rs at =
        let had = went o (may o rs at) in
        let running : Running q = runs (had.moved.opened ∙ at.pool.opened) in
        (_, refl, refl, cleaned_recycler o m rs at y w q note has.0 has.1 had running, cleaned_told o m rs at y w q note has.0 has.1 had running)

    -- want of memory changed nothing
    same_parts : y ≡ m.recycler → w ≡ m.served → Kept m.pool q → IsSame m (with_recycler m y w q)
    same_parts e side k = record { setup = refl; pool = k; served = side; recycler = e; clients = refl }

    pub cleaned_behind : (r : Result Note OutOfMemory) → IfOk r (GoesCleaned m y w q) → OnErr r ((y ≡ m.recycler) × (w ≡ m.served) × Kept m.pool q) → IsBehind m → IsBehind (with_recycler m y w q)
    cleaned_behind (Ok note) went same b = behind m (with_recycler m y w q) (Step 0) note (cleaned_happens note went) b
    cleaned_behind (Err fault) went same b = (b.0, b.1, kept_at b.0 m (with_recycler m y w q) b.1 (same_parts same.0 same.1 same.2) b.2)

    pub cleaned_ok : (p : Parts) (r : Result Note OutOfMemory) → m ≡ p → IfOk r (GoesCleaned m y w q) → IfOk r (Happens p (with_recycler m y w q) (Step 0))
    cleaned_ok p r same went = IfOk-weaker r (GoesCleaned m y w q) (Happens p (with_recycler m y w q) (Step 0)) (λ note g. subst (λ (z : Parts). Happens z (with_recycler m y w q) (Step 0) note) same (cleaned_happens note g)) went

    pub cleaned_parts : (p : Parts) (r : Result Note OutOfMemory) → m ≡ p → IfOk r (GoesCleaned m y w q) → IsBehind m → IfOk r (λ note. Continues p (with_recycler m y w q))
    cleaned_parts p r same went b = IfOk-weaker r (GoesCleaned m y w q) (λ note. Continues p (with_recycler m y w q)) (λ note g.
        record { setup = ap (λ (z : Parts). z.setup) same; traced = (g b.0 (may b.0 b.1 b.2)).moved.traced ∙ ap (λ (z : Parts). z.pool.traced) same }) went

    pub cleaned_same : (p : Parts) (r : Result Note OutOfMemory) → m ≡ p → OnErr r ((y ≡ m.recycler) × (w ≡ m.served) × Kept m.pool q) → OnErr r (IsSame p (with_recycler m y w q))
    cleaned_same p (Ok note) same kept = tt
    cleaned_same p (Err fault) same kept = subst (λ (z : Parts). IsSame z (with_recycler m y w q)) same (same_parts kept.0 kept.1 kept.2)

    -- nobody else holds the server, where it does not only wait
    acts : (OnlyWaits m 0 → ⊥) → is_elsewhere m.served.holder 0 ≡ false
    acts not = go (is_elsewhere m.served.holder 0) refl
      where
        go : (b : Bool) → is_elsewhere m.served.holder 0 ≡ b → is_elsewhere m.served.holder 0 ≡ false
        go false e = e
        go true e = absurd (not (busy, e))

    less : (note : Note) → GoesCleaned m y w q note → IsBehind m → (OnlyWaits m 0 → ⊥) → left (with_recycler m y w q) 0 < left m 0
    less note went (o, rs, at) not = (went o (may o rs at)).lessens (acts not)

    pub cleaned_lowers : (p : Parts) (r : Result Note OutOfMemory) → m ≡ p → IfOk r (GoesCleaned m y w q) → IsBehind m → IfOk r (λ note. (OnlyWaits p 0 → ⊥) → left (with_recycler m y w q) 0 < left p 0)
    cleaned_lowers p r same went b = IfOk-weaker r (GoesCleaned m y w q) (λ note. (OnlyWaits p 0 → ⊥) → left (with_recycler m y w q) 0 < left p 0)
        (λ note g. subst (λ (z : Parts). (OnlyWaits z 0 → ⊥) → left (with_recycler m y w q) 0 < left z 0) same (less note g b)) went
