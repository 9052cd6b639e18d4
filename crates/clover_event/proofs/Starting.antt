-- A call that begins where its slot's chain leads over some tags to a tail: it ends in as many accesses as it costs, if it runs alone.
use Rattle.std.proofs.Common.{◌≡◌, ◌≢◌, ℕ, ◌+◌, ◌*◌, ◌<◌, ◌≤◌, List, [], ◌∷◌, ◌++◌, length, Bool, cond, eqb, refl, sym, ap, ◌∙◌, subst, arith, eq-eqb}
use Rattle.std.specs.Prelude.{Option, Some, None, IfSome}
use Rattle.clover_words.specs.declared.bytes.ValueBuf.{ValueBuf}
use Rattle.clover_words.specs.declared.pool.Pool.{Pool}
use Rattle.clover_words.specs.declared.setup.Setup.{Setup}
use Rattle.clover_words.specs.Tag.{TagParts, tag_number, home}
use Rattle.clover_words.specs.Version.{unlinked}
use Rattle.clover_map.specs.declared.bytes.Value.{Value}
use Rattle.clover_map.specs.declared.call.Call.{Call}
use Rattle.clover_map.specs.declared.call.Call.TheVariants.{Get as GetOf, Put as PutOf, Delete as DeleteOf, Swap as SwapOf}
use Rattle.clover_rule.specs.Content.{InRange}
use Rattle.clover_rule.specs.Lists.{Each}
use Rattle.clover_rule.specs.Learned.{turn_at, turn_of}
use Rattle.clover_rule.specs.Steps.{Step}
use Rattle.clover_rule.specs.Words.{mem_of}
use Rattle.clover_rule.specs.declared.view.View.{View}
use Rattle.clover_plain.specs.Preset.{tag_at}
use Rattle.clover_plain.proofs.Dealing.{tag_young, tag_inside}
use Rattle.clover_walk.specs.Alone.{Way, way_from, LeadsOver, ComesBy, HasVersion, raised, version_words}
use Rattle.clover_walk.specs.Walking.{Walking, made_walk}
use Rattle.clover_get.specs.Alone.{EndsAfter as GetEndsAfter}
use Rattle.clover_get.specs.Getting.{getting, Seeking}
use Rattle.clover_get.proofs.Alone.{get_law}
use Rattle.clover_put.specs.Alone.{tail_accesses, last_stage, EndsAfter}
use Rattle.clover_put.specs.Putting.{Putting, commits, made_put}
use Rattle.clover_put.specs.declared.job.Job.{Job}
use Rattle.clover_put.specs.declared.job.Job.TheVariants.{Put, Delete, Swap}
use Rattle.clover_put.proofs.Alone.{put_law}
use Rattle.clover_call.specs.declared.under.Underway.{Underway}
use Rattle.clover_event.specs.Alone.{GetEnds, PutEnds, EndsIn, cost}
use Rattle.clover_call.specs.Beginning.{IsBegun, no_value, size_of}
use Rattle.clover_event.specs.Run.{room}
use Rattle.clover_call.proofs.Begins.{made_pool}
use Rattle.clover_event.proofs.Chains.{few_links}

-- a load that shows the tail unlinked makes no turn
no_turn : (a b : Step) (u x : ℕ) → turn_of b x ≡ turn_at u x → a ≡ b → x ≡ unlinked u → turn_of a x ≡ 0
no_turn a b u x t e f = ap (λ (s : Step). turn_of s x) e ∙ t ∙ ap (λ (c : Bool). cond c 0 1) (eq-eqb x (unlinked u) f)

-- a walk that was just made comes on its way
pub comes_made : (p : Pool) (ws : List ℕ) (slot : ℕ) (known : Option ℕ) (y : Way) (ts : List ℕ) (u : ℕ) → slot < p.slots → IfSome known (InRange p) → IfSome ((mem_of p ws).short slot) (InRange p) → y ≡ way_from (mem_of p ws) slot known → LeadsOver p ws y.from ts u → y.stale ≤ 2
    → ComesBy ws (made_walk p slot known) known y ts u
comes_made p ws slot None y ts u low cursor short way leads few = record { start = refl; stand = refl; slot = low; cursor = cursor; short = short; way = way; leads = leads; below = (let l = few_links p ws y.from ts u leads in omega arith) }
comes_made p ws slot (Some t) y ts u low cursor short way leads few = record { start = refl; stand = refl; slot = low; cursor = cursor; short = short; way = way; leads = leads; below = (let l = few_links p ws y.from ts u leads in omega arith) }

module _ (p : Pool) (ws : List ℕ) (w : Walking) (pool : w.pool ≡ p) (known : Option ℕ) (y : Way) (ts : List ℕ) (u : ℕ) (x : Option Value) (comes : ComesBy ws w known y ts u) (has : HasVersion p ws u x) where
  has_there : HasVersion w.pool ws u x
  has_there = subst (λ (q : Pool). HasVersion q ws u x) (sym pool) has

  pub get_ends : (into : ValueBuf) → GetEnds p (y.loads + 2 * length ts + 2 + version_words x) (record { words = ws; call = getting w Seeking; room = into })
  get_ends into = subst (λ (q : Pool). GetEnds q (y.loads + 2 * length ts + 2 + version_words x) (record { words = ws; call = getting w Seeking; room = into })) pool (record {
    before = λ v k b l r. (law v).before k b l r;
    last = λ v k b z e r. let q = (law v).last k b z e r in no_turn _ _ u _ refl q.0 q.1;
    over = λ v b r. ((law v).over b r).0;
  })
    where
      law : (v : ℕ → View) → GetEndsAfter (y.loads + 2 * length ts + 2 + version_words x) v (record { words = ws; call = getting w Seeking; room = into }) u x (raised w.pool w.slot (ts ++ u ∷ []) ws)
      law v = get_law v ws w into known y ts u x comes has_there

  pub put_ends : (job : Job) (own : ℕ) (value : Value) → InRange p own → Each (λ (t : ℕ). home t ≢ home own) (ts ++ u ∷ []) → version_words (commits job value) ≤ p.words + 1
      → PutEnds p (2 * version_words (commits job value) + y.loads + 2 * length ts + 1 + tail_accesses job u x) ws (made_put w job own value)
  put_ends job own value range apart fits = subst (λ (q : Pool). PutEnds q (2 * version_words (commits job value) + y.loads + 2 * length ts + 1 + tail_accesses job u x) ws (made_put w job own value)) pool (record {
    before = λ v. (law v).before;
    last = λ v. (law v).still;
    over = λ v. (law v).over;
  })
    where
      law : (v : ℕ → View) → EndsAfter w.pool (2 * version_words (commits job value) + y.loads + 2 * length ts + 1 + tail_accesses job u x) v ws (made_put w job own value) (last_stage job u x)
      law v = put_law v ws (made_put w job own value) known y ts u x refl comes has_there (subst (λ (q : Pool). InRange q own) (sym pool) range) apart (subst (λ (q : Pool). version_words (commits job value) ≤ q.words + 1) (sym pool) fits)

-- a value that the room is enough for
pub value_fits : (p : Pool) (x : Value) → length x.bytes ≤ 8 * p.words → version_words (Some x) ≤ p.words + 1
value_fits p x h = omega arith

pub dead_fits : (p : Pool) → version_words None ≤ p.words + 1
dead_fits p = omega arith
