-- A restart of a plain pool begins behind a power cut, goes on by its stores, and leaves what the next run begins with.
use Rattle.std.proofs.Common.{◌≡◌, ℕ, suc, get_or, List, [], ◌∷◌, ◌++◌, length, Bool, true, false, append-nil, sym, ap, ◌∙◌, subst}
use Rattle.std.specs.Prelude.{Result, Ok, Err, IfOk}
use Rattle.std.proofs.lemmas.List.{append_assoc}
use Rattle.clover_words.specs.declared.pool.Pool.{Pool}
use Rattle.clover_words.specs.declared.setup.Setup.{Setup}
use Rattle.clover_words.specs.Place.{durable_words}
use Rattle.clover_map.specs.Tagged.{Tagged}
use Rattle.clover_map.specs.Legal.{used_by}
use Rattle.clover_map.specs.declared.call.Entry.{Entry}
use Rattle.clover_rule.specs.Cut.{IsSound, image_of}
use Rattle.clover_rule.specs.Learned.{words_after_step}
use Rattle.clover_rule.specs.Moves.{nobody}
use Rattle.clover_rule.specs.Restart.{plan, rested_words, words_after_stores}
use Rattle.clover_rule.specs.Sound.{Sound}
use Rattle.clover_rule.specs.Steps.{Restart}
use Rattle.clover_rule.specs.declared.view.RestartStore.{RestartStore}
use Rattle.clover_rule.specs.declared.view.View.{View}
use Rattle.clover_port.specs.declared.Failed.{Failed}
use Rattle.clover_plain.specs.Plain.{IsDown, Kept, Plain, Stepped, history, restart_view, view_at}
use Rattle.clover_plain.specs.Ports.{MadeBy}
use Rattle.clover_plain.specs.Reopening.{AreOfWords}
use Rattle.clover_plain.specs.Waking.{IsWaking, IsWoken}
use Rattle.clover_plain.specs.declared.port.PlainPort.{PlainPort}
use Rattle.clover_plain.proofs.Resting.{down_history, stores_more}
use Rattle.clover_image.specs.Image.{PoolImage}
use Rattle.clover_restart.specs.Begun.{IsNextRun, IsRestartOf}
use Rattle.clover_restart.specs.Going.{OnEnd, OnStored, Stored}
use Rattle.clover_restart.specs.Reading.{decoded}
use Rattle.clover_restart.specs.Restart.{RestartState}
use Rattle.clover_restart.specs.UnderWay.{IsRestarting, IsUnderWay}
use Rattle.clover_restart.proofs.NextRun.{next_run_law}

-- whatever the pool was before its power failed, restart begins with some map and used tags
pub woken : (b : Bool) (p : Pool) (first : Tagged) (used : List ℕ) (vs : List View) (h : List Entry) (im : List ℕ) (v : View) → IsWoken b p first used vs h im v → (n : Tagged) × (us : List ℕ) × IsWaking p im n us v
woken true p first used vs h im v w = (w.0.map, used_by used h, (w.0.rests, w.1))
woken false p first used vs h im v w = (first, used, w)

-- a restart of the image begins, with no store made yet
pub way_begins : (p : Pool) (ws image : List ℕ) (a : IsSound p image) (r : RestartState) → length image ≡ durable_words p → ws ≡ rested_words p image → IsRestartOf p (image_of p image) a.reads r → IsNextRun p r.books r.directory → IsUnderWay p ws r
way_begins p ws image a r sized words is next = record { image = image; sound = a; stored = []; plan = sym is.rest; words = words; next = next; agree = next_run_law p image a r sized is }

-- one store more
pub way_goes_on : (p : Pool) (ws : List ℕ) (r : RestartState) (x : RestartStore) (others : List RestartStore) → r.rest ≡ x ∷ others → IsUnderWay p ws r → IsUnderWay p (words_after_step p (Restart x) ws) (record r { rest = others })
way_goes_on p ws r x others first u = record {
  image = u.image;
  sound = u.sound;
  stored = u.stored ++ x ∷ [];
  plan = u.plan ∙ ap (λ (xs : List RestartStore). u.stored ++ xs) first ∙ sym (append_assoc u.stored (x ∷ []) others);
  words = ap (words_after_step p (Restart x)) u.words ∙ sym (stores_more p (rested_words p u.image) u.stored x);
  next = u.next;
  agree = u.agree;
}

-- once none is left, books and directory are those of the words
pub way_ends : (p : Pool) (ws : List ℕ) (r : RestartState) → IsUnderWay p ws r → r.rest ≡ [] → AreOfWords p ws r.books r.directory
way_ends p ws r u none =
    let all = u.plan ∙ ap (λ (xs : List RestartStore). u.stored ++ xs) none ∙ append-nil u.stored in
    subst (λ (vs : List ℕ). AreOfWords p vs r.books r.directory) (ap (words_after_stores p (rested_words p u.image)) all ∙ sym u.words) u.agree

-- behind a power cut the restart of the image that it left has all its stores to make
pub restarting : {E : Type 0} (m : PoolImage) (o : Pool) (kept : List ℕ) (q : Plain) → m.pool ≡ o → kept ≡ m.words → length m.words ≡ durable_words m.pool → q.opened ≡ false → q.setup.pool ≡ o → q.words ≡ rested_words o kept → (w : (n : Tagged) × (us : List ℕ) × IsWaking o kept n us (restart_view q))
    → (r : Result RestartState E) → IfOk r (λ x. x.pool ≡ m.pool) → IfOk r (λ x. (s : Sound m.pool (decoded m)) → IsRestartOf m.pool (decoded m) s x) → IfOk r (λ x. IsNextRun m.pool x.books x.directory) → IfOk r (IsRestarting q)
restarting m o kept q eo ek sized down setup words w (Err e) a b next = tt
restarting m o kept q eo ek sized down setup words w (Ok r) a b next =
    let wakes = subst (λ (z : Pool). IsWaking z m.words w.0 w.1 (restart_view q)) (sym eo) (subst (λ (ws : List ℕ). IsWaking o ws w.0 w.1 (restart_view q)) ek w.2) in
    let sound = wakes.0.sound in let is = b sound.reads in
    record {
      down = down;
      pool = a ∙ eo ∙ sym setup;
      rest = ap (λ (v : View). v.plan) wakes.1 ∙ sym is.rest;
      way = subst (λ (z : Pool). IsUnderWay z q.words r) (eo ∙ sym setup) (way_begins m.pool q.words m.words sound r sized (words ∙ (λ i. rested_words (sym eo i) (ek i))) is next);
    }

-- a pool of the same words and views, as after making room
pub restarting_kept : (p q : Plain) (r : RestartState) → Kept p q → IsRestarting p r → IsRestarting q r
restarting_kept p q r k a = record {
  down = k.opened ∙ a.down;
  pool = a.pool ∙ ap (λ (s : Setup). s.pool) (sym k.setup);
  rest = (λ i. (get_or (k.views i) (suc (k.setup i).clients) nobody).plan) ∙ a.rest;
  way = subst (λ (z : Setup × List ℕ). IsUnderWay z.0.pool z.1 r) (λ i. (sym k.setup i, sym k.words i)) a.way;
}

-- a pool that is down has entered each entry of its history, since there is none
pub entered : (p : Plain) → IsDown p → p.entries ≡ history p
entered p d = d.entries ∙ sym (down_history p d)

-- restart made its next store
one_stored : (p q : Plain) (list : Bool) (seat y : ℕ) (r n : RestartState) (x : RestartStore) (others : List RestartStore) → IsRestarting p r → seat ≡ suc p.setup.clients → r.rest ≡ x ∷ others → Stepped (Restart x) false list seat y p q → n ≡ record r { rest = others } → (view_at q seat).plan ≡ n.rest → IsRestarting q n
one_stored p q list seat y r n x others a at first st left plan = record {
  down = st.same.opened ∙ a.down;
  pool = ap (λ (z : RestartState). z.pool) left ∙ a.pool ∙ ap (λ (s : Setup). s.pool) (sym st.same.setup);
  rest = ap (λ (i : ℕ). (view_at q i).plan) (ap (λ (s : Setup). suc s.clients) st.same.setup ∙ sym at) ∙ plan;
  way = subst (λ (z : Setup × List ℕ × RestartState). IsUnderWay z.0.pool z.1 z.2) (λ i. (sym st.same.setup i, sym st.words i, sym left i)) (way_goes_on p.setup.pool p.words r x others first a.way);
}

-- restart was to make its next store, and made it or had none left
pub restarting_on : (p q : PlainPort) (r n : RestartState) (b : Bool) → IsRestarting p.pool.now r → p.seat ≡ suc p.pool.now.setup.clients → OnStored {E = Failed} (Ok b) (Stored p.pool.now.setup.pool r (λ x. (y : ℕ) × MadeBy p (Restart x) false y q) n (view_at q.pool.now q.seat))
    → OnEnd {E = Failed} (Ok b) ((r.rest ≡ []) × (n ≡ r) × (q ≡ p)) → IsRestarting q.pool.now n
restarting_on p q r n true a at s e =
    let made = s.made.1 in
    one_stored p.pool.now q.pool.now p.list p.seat s.made.0 r n s.store s.others a at s.first made.0 s.left (ap (λ (i : ℕ). (view_at q.pool.now i).plan) (sym made.2) ∙ s.holds.plan)
restarting_on p q r n false a at s e = subst (λ (z : PlainPort × RestartState). IsRestarting z.0.pool.now z.1) (λ i. (sym e.2 i, sym e.1 i)) a
