-- The stores of a restart are those of the plan.
use Rattle.std.proofs.Common.{◌≡◌, ℕ, ◌*◌, List, [], ◌∷◌, ◌++◌, length, sym, ap, ◌∙◌}
use Rattle.std.specs.Prelude.{map}
use Rattle.std.proofs.lemmas.List.{map-append, length-map}
use Rattle.clover_words.specs.declared.pool.Pool.{Pool}
use Rattle.clover_words.specs.Place.{IsWithin}
use Rattle.clover_rule.specs.Image.{Image}
use Rattle.clover_rule.specs.Memory.{gen}
use Rattle.clover_rule.specs.Restart.{buffers_of, clears, is_dead, lifts, moves, plan}
use Rattle.clover_rule.specs.Sound.{Sound}
use Rattle.clover_rule.specs.Steps.{restart_word}
use Rattle.clover_rule.specs.declared.view.RestartStore.{RestartStore}
use Rattle.clover_rule.specs.declared.view.RestartStore.TheVariants.{ClearRoot, ClearFlushedRoot, Lift, LiftFlushed, SetCount}
use Rattle.clover_rule.proofs.RestartLaw.{plan_in_pool}
use Rattle.clover_rule.proofs.Steps.{each_map}
use Rattle.clover_rule.proofs.StoredWords.{IsInPool}
use Rattle.clover_rule.proofs.Ties.{buffer_in}
use Rattle.clover_alloc.specs.Ledger.{Ledger}
use Rattle.clover_restart.specs.Begun.{IsRestartOf}
use Rattle.clover_restart.specs.Kept.{AreWithin}
use Rattle.clover_restart.specs.Lifting.{AreLifted}
use Rattle.clover_restart.specs.Slots.{AreRead}
use Rattle.clover_restart.specs.Stores.{store_of}
use Rattle.clover_restart.specs.declared.slots.Slots.{Slots}
use Rattle.clover_restart.specs.declared.store.Store.{Store}
use Rattle.clover_restart.specs.declared.store.Store.TheVariants.{Count}

within_pool : (p : Pool) (x : RestartStore) → IsInPool p x → IsWithin p (restart_word x)
within_pool p (ClearRoot s) h = h
within_pool p (ClearFlushedRoot s) h = h
within_pool p (Lift b g) h = buffer_in p b h
within_pool p (LiftFlushed b g) h = buffer_in p b h
within_pool p (SetCount n) h = tt

-- each store of the plan is on a word of the pool
pub plan_within : (p : Pool) (im : Image) (sound : Sound p im) → AreWithin p (plan p im sound)
plan_within p im sound = each_map (within_pool p) (plan p im sound) (plan_in_pool p im sound)

module _ (p : Pool) (im : Image) (sound : Sound p im) (a : Slots) (lifted all : List Store) (books : Ledger) (r : AreRead p im sound p.slots a) (l : AreLifted p im sound (p.nodes * p.buffers) a.stores.items lifted books) (n : ℕ) (counted : n ≡ length a.directory.list) (last : all ≡ lifted ++ Count n ∷ []) where
  -- the roots, the buffers and the count make up the plan
  pub plan_is : map store_of all ≡ plan p im sound
  plan_is =
      ap (map store_of) last ∙ map-append store_of lifted (Count n ∷ [])
      ∙ ap (λ (xs : List RestartStore). xs ++ SetCount n ∷ []) (l.stores ∙ ap (λ (xs : List RestartStore). xs ++ lifts (moves p im sound) (λ (b : ℕ). gen (im.next b)) (buffers_of p)) r.stores)
      ∙ ap (λ (m : ℕ). (clears (is_dead p im sound) 0 p.slots ++ lifts (moves p im sound) (λ (b : ℕ). gen (im.next b)) (buffers_of p)) ++ SetCount m ∷ []) (counted ∙ r.count)

  pub restarts : IsRestartOf p im sound (record { pool = p; rest = map store_of all; books = books; directory = a.directory; stores = length all })
  restarts = record { rest = plan_is; stores = sym (length-map all store_of); lines = l.lines; list = r.list; roots = r.roots }
