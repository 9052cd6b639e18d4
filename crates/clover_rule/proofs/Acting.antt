-- What an access is, by its step: the word and the copy, what it finds and leaves, and whose step it is.
use Rattle.std.proofs.Common.{◌≡◌, ℕ, ◌==◌, List, [], ◌∷◌, ◌++◌, length, Bool, true, false, cond, refl, sym, ap, ◌∙◌, subst}
use Rattle.std.specs.Prelude.{Option, Some, None, slice_index, slice_set}
use Rattle.std.proofs.lemmas.List.{set-get_or}
use Rattle.clover_words.specs.declared.pool.Pool.{Pool}
use Rattle.clover_words.specs.declared.word.Word.{Word}
use Rattle.clover_words.specs.declared.word.Side.{Side}
use Rattle.clover_words.specs.declared.word.Side.TheVariants.{Current, Flushed}
use Rattle.clover_words.specs.Place.{IsWithin, HasSide, address_of}
use Rattle.clover_words.specs.Tag.{home}
use Rattle.clover_words.specs.Version.{unlinked}
use Rattle.clover_map.specs.declared.call.Entry.{Entry}
use Rattle.clover_map.specs.declared.call.Reply.TheVariants.{Absent}
use Rattle.clover_rule.specs.Accesses.{CameBack, words_after_act}
use Rattle.clover_rule.specs.Knowing.{link_entry, link_view}
use Rattle.clover_rule.specs.Laws.{AccessLaw}
use Rattle.clover_rule.specs.Learned.{seen, started, decided, missed, counts, rest_of, looked, learned, found, words_after_step, next_view, next_history}
use Rattle.clover_rule.specs.Lists.{IsPrefix}
use Rattle.clover_rule.specs.Memory.{Next, word}
use Rattle.clover_rule.specs.Steps.{Operation, loads, stores, exchanges, raises, side_in, result, act_on, Step, LoadNext, DecideNext, LinkNext, StoreContent, FlushContent, LoadContent, ReadRoot, ReadShort, AbsentCount, ReadVersion, Restart, operation_of, word_of, side_of, act_of, client, reply_of, restart_word, restart_operation}
use Rattle.clover_rule.specs.Words.{next_of, root_of}
use Rattle.clover_rule.specs.declared.access.Act.{Act}
use Rattle.clover_rule.specs.declared.access.Act.TheVariants.{Load, Store, Exchange, Raise}
use Rattle.clover_rule.specs.declared.view.RestartStore.{RestartStore}
use Rattle.clover_rule.specs.declared.view.RestartStore.TheVariants.{ClearRoot, ClearFlushedRoot, Lift, LiftFlushed, SetCount}
use Rattle.clover_rule.specs.declared.view.View.{View}
use Rattle.clover_rule.proofs.Steps.{prefix_self}
use Rattle.clover_rule.proofs.Ties.{content_side}

-- the word of an act, and the copy that it is on
abbrev pub act_word : Act → Word
act_word (Load w x) = w
act_word (Store w s x) = w
act_word (Exchange w e n x) = w
act_word (Raise w n x) = w

abbrev pub act_side : Act → Side
act_side (Load w x) = Current
act_side (Store w s x) = s
act_side (Exchange w e n x) = Current
act_side (Raise w n x) = Flushed

pub step_word : (a : Step) (x : ℕ) → (act_word (act_of a x) ≡ word_of a) × (act_side (act_of a x) ≡ side_of a)
step_word a x = by (operation_of a)
  where
    by : (o : Operation) → (act_word (act_on o (word_of a) x) ≡ word_of a) × (act_side (act_on o (word_of a) x) ≡ side_in o)
    by loads = (refl, refl)
    by (stores s y) = (refl, refl)
    by (exchanges e n) = (refl, refl)
    by (raises y) = (refl, refl)

-- the access of a step comes back with what the words give, and leaves what the step leaves
pub access_law : AccessLaw
access_law p ws a = by (operation_of a) (word_of a)
  where
    by : (o : Operation) (w : Word) → CameBack p ws (act_on o w (slice_index ws (address_of p w (side_in o)))) × (words_after_act p ws (act_on o w (slice_index ws (address_of p w (side_in o)))) ≡ slice_set ws (address_of p w (side_in o)) (result o (slice_index ws (address_of p w (side_in o)))))
    by loads w = (refl, sym (set-get_or ws (address_of p w Current) 0))
    by (stores s y) w = (tt, refl)
    by (exchanges e n) w = (refl, refl)
    by (raises y) w = (refl, refl)

restart_side : (x : RestartStore) → HasSide (restart_word x) (side_in (restart_operation x))
restart_side (ClearRoot s) = tt
restart_side (ClearFlushedRoot s) = tt
restart_side (Lift b g) = tt
restart_side (LiftFlushed b g) = tt
restart_side (SetCount n) = tt

-- the word of a step has the copy that the step is on
pub step_side : (a : Step) → HasSide (word_of a) (side_of a)
step_side (StoreContent t j x) = content_side (home t) j Current
step_side (FlushContent t j x) = content_side (home t) j Flushed
step_side (LoadContent s t j) = content_side (home t) j Current
step_side (Restart x) = restart_side x
step_side a = tt

-- what no step changes of its actor's view, the accesses and the turns before they are counted
pub record Stays (v w : View) : Type 0 where
  pub pool : w.pass.pool ≡ v.pass.pool
  pub map : w.pass.map ≡ v.pass.map
  pub used : w.pass.used ≡ v.pass.used
  pub role : w.pass.role ≡ v.pass.role
  pub names : w.pass.names ≡ v.pass.names
  pub since : w.pass.since ≡ v.pass.since
  pub turns : w.pass.turns ≡ v.pass.turns

stays_either : (b : Bool) (v w w1 : View) → Stays v w → Stays v w1 → Stays v (cond b w w1)
stays_either true v w w1 h h1 = h
stays_either false v w w1 h h1 = h1

seen_stays : (s t : ℕ) (v : View) (n : Next) → Stays v (seen s t v n)
seen_stays s t v (word a None) = record { pool = refl; map = refl; used = refl; role = refl; names = refl; since = refl; turns = refl }
seen_stays s t v (word a (Some u)) = record { pool = refl; map = refl; used = refl; role = refl; names = refl; since = refl; turns = refl }

looked_stays : (s r : ℕ) (v : View) (n : Next) → Stays v (looked s r v n)
looked_stays s r v (word a None) = record { pool = refl; map = refl; used = refl; role = refl; names = refl; since = refl; turns = refl }
looked_stays s r v (word a (Some t)) = record { pool = refl; map = refl; used = refl; role = refl; names = refl; since = refl; turns = refl }

started_stays : (s : ℕ) (v : View) (o : Option ℕ) → Stays v (started s v o)
started_stays s v None = record { pool = refl; map = refl; used = refl; role = refl; names = refl; since = refl; turns = refl }
started_stays s v (Some t) = record { pool = refl; map = refl; used = refl; role = refl; names = refl; since = refl; turns = refl }

pub learned_stays : (a : Step) (h : List Entry) (v : View) (x : ℕ) → Stays v (learned a h v x)
learned_stays (LoadNext s t) h v x = seen_stays s t v (next_of x)
learned_stays (DecideNext s t c r) h v x = stays_either (x == unlinked t) v (decided v h t c r) (seen s t v (next_of x)) (record { pool = refl; map = refl; used = refl; role = refl; names = refl; since = refl; turns = refl }) (seen_stays s t v (next_of x))
learned_stays (LinkNext s u t c) h v x = stays_either (x == unlinked u) v (link_view v h (client v) s u t c (reply_of t c) (rest_of v.pass.stock)) (seen s u v (next_of x)) (record { pool = refl; map = refl; used = refl; role = refl; names = refl; since = refl; turns = refl }) (seen_stays s u v (next_of x))
learned_stays (ReadRoot s) h v x = started_stays s v (root_of x)
learned_stays (ReadShort s) h v x = started_stays s v (root_of x)
learned_stays (AbsentCount c) h v x = stays_either (x == length v.pass.names) v (missed v h c x) (counts v x) (record { pool = refl; map = refl; used = refl; role = refl; names = refl; since = refl; turns = refl }) (record { pool = refl; map = refl; used = refl; role = refl; names = refl; since = refl; turns = refl })
learned_stays (ReadVersion s r) h v x = looked_stays s r v (next_of x)
learned_stays a h v x = record { pool = refl; map = refl; used = refl; role = refl; names = refl; since = refl; turns = refl }

-- an actor stays what it is
pub role_kept : (a : Step) (b : Bool) (h : List Entry) (v : View) (x : ℕ) → (next_view b a h v x).pass.role ≡ v.pass.role
role_kept a b h v x = (learned_stays a h v x).role

cond_grows : (b : Bool) (h : List Entry) (e : Entry) → IsPrefix h (cond b (h ++ e ∷ []) h)
cond_grows true h e = (e ∷ [], refl)
cond_grows false h e = prefix_self h

-- the history only grows
pub history_grows : (a : Step) (h : List Entry) (v : View) (x : ℕ) → IsPrefix h (next_history a h v x)
history_grows (DecideNext s t c r) h v x = cond_grows (x == unlinked t) h (link_entry v (client v) c r)
history_grows (LinkNext s u t c) h v x = cond_grows (x == unlinked u) h (link_entry v (client v) c (reply_of t c))
history_grows (AbsentCount c) h v x = cond_grows (x == length v.pass.names) h (link_entry v (client v) c Absent)
history_grows a h v x = prefix_self h

-- an access that is meant as a step: its word, what it finds, and the words after it
module _ (p : Pool) (ws : List ℕ) (a : Step) (act : ℕ → Act) (is : (n : ℕ) → act_of a n ≡ act n) where
  word_as : act_word (act 0) ≡ word_of a
  word_as = ap act_word (sym (is 0)) ∙ (step_word a 0).0

  side_as : act_side (act 0) ≡ side_of a
  side_as = ap act_side (sym (is 0)) ∙ (step_word a 0).1

  pub words_as : words_after_step p a ws ≡ words_after_act p ws (act (found p a ws))
  words_as = sym (access_law p ws a).1 ∙ ap (words_after_act p ws) (is (found p a ws))

  pub found_as : (at x : ℕ) → at ≡ address_of p (act_word (act 0)) (act_side (act 0)) → x ≡ slice_index ws at → x ≡ found p a ws
  found_as at x e f = f ∙ ap (slice_index ws) e ∙ ap (λ (w : Word). slice_index ws (address_of p w (act_side (act 0)))) word_as ∙ ap (λ (s : Side). slice_index ws (address_of p (word_of a) s)) side_as

pub within_as : (p : Pool) (a : Step) (act : ℕ → Act) → ((n : ℕ) → act_of a n ≡ act n) → IsWithin p (word_of a) → IsWithin p (act_word (act 0)) × HasSide (act_word (act 0)) (act_side (act 0))
within_as p a act is h =
    let w : word_of a ≡ act_word (act 0) = sym (step_word a 0).0 ∙ ap act_word (is 0) in
    let s : side_of a ≡ act_side (act 0) = sym (step_word a 0).1 ∙ ap act_side (is 0) in
    (subst (IsWithin p) w h, subst (HasSide (act_word (act 0))) s (subst (λ (z : Word). HasSide z (side_of a)) w (step_side a)))
