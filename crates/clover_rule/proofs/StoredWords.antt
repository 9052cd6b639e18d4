-- The words after some of a restart's stores: what they decode to.
use Rattle.std.proofs.Common.{◌≡◌, ℕ, ◌<◌, List, [], ◌∷◌, length, length-set, true, refl, ap, ◌∙◌, arith}
use Rattle.std.specs.Prelude.{None}
use Rattle.clover_words.specs.declared.pool.Pool.{Pool}
use Rattle.clover_words.specs.Place.{IsWithin, HasSide, address_of, pool_words}
use Rattle.clover_words.proofs.Places.{address_below}
use Rattle.clover_rule.specs.Content.{inside}
use Rattle.clover_rule.specs.Learned.{found, words_after_step}
use Rattle.clover_rule.specs.Lists.{Each, upd}
use Rattle.clover_rule.specs.Meets.{IsCode, Decodes}
use Rattle.clover_rule.specs.Memory.{Mem, Next, word}
use Rattle.clover_rule.specs.Restart.{words_after_stores}
use Rattle.clover_rule.specs.Steps.{Restart, becomes, restart_word, side_of}
use Rattle.clover_rule.specs.Words.{mem_of, next_code, next_of}
use Rattle.clover_rule.specs.declared.view.RestartStore.{RestartStore}
use Rattle.clover_rule.specs.declared.view.RestartStore.TheVariants.{ClearRoot, ClearFlushedRoot, Lift, LiftFlushed, SetCount}
use Rattle.clover_rule.proofs.Keeping.{code_is, decodes_set}
use Rattle.clover_rule.proofs.RestartStores.{store_mem, stores_mem}
use Rattle.clover_rule.proofs.Ties.{buffer_in, next_again, write_next, write_fnext, write_root, write_froot, write_count}

-- the store is on a word of the pool
abbrev pub IsInPool : Pool → RestartStore → Type 0
IsInPool p (ClearRoot s) = s < p.slots
IsInPool p (ClearFlushedRoot s) = s < p.slots
IsInPool p (Lift b g) = inside p b ≡ true
IsInPool p (LiftFlushed b g) = inside p b ≡ true
IsInPool p (SetCount n) = Unit {0}

unlinked_again : (g : ℕ) → next_of (next_code (word g None)) ≡ word g None
unlinked_again g = next_again g None (omega arith)

module _ (p : Pool) where
  is_within : (x : RestartStore) → IsInPool p x → IsWithin p (restart_word x)
  is_within (ClearRoot s) h = h
  is_within (ClearFlushedRoot s) h = h
  is_within (Lift b g) h = buffer_in p b h
  is_within (LiftFlushed b g) h = buffer_in p b h
  is_within (SetCount n) h = tt

  has_side : (x : RestartStore) → HasSide (restart_word x) (side_of (Restart x))
  has_side (ClearRoot s) = tt
  has_side (ClearFlushedRoot s) = tt
  has_side (Lift b g) = tt
  has_side (LiftFlushed b g) = tt
  has_side (SetCount n) = tt

  is_code : (x : RestartStore) (n : ℕ) → IsCode (restart_word x) (becomes (Restart x) n)
  is_code (ClearRoot s) n = refl
  is_code (ClearFlushedRoot s) n = refl
  is_code (Lift b g) n = code_is (word g None) (unlinked_again g)
  is_code (LiftFlushed b g) n = code_is (word g None) (unlinked_again g)
  is_code (SetCount k) n = tt

  in_reach : (ws : List ℕ) (x : RestartStore) → length ws ≡ pool_words p → IsInPool p x → address_of p (restart_word x) (side_of (Restart x)) < length ws
  in_reach ws x e h = let q = address_below p (restart_word x) (side_of (Restart x)) (is_within x h) (has_side x) in omega arith

  store_write : (ws : List ℕ) (x : RestartStore) → IsInPool p x → address_of p (restart_word x) (side_of (Restart x)) < length ws → mem_of p (words_after_step p (Restart x) ws) ≡ store_mem (mem_of p ws) x
  store_write ws (ClearRoot s) h q = write_root p ws 0 s h q
  store_write ws (ClearFlushedRoot s) h q = write_froot p ws 0 s h q
  store_write ws (Lift b g) h q = write_next p ws (next_code (word g None)) b h q ∙ ap (λ (n : Next). record (mem_of p ws) { next = upd (mem_of p ws).next b n }) (unlinked_again g)
  store_write ws (LiftFlushed b g) h q = write_fnext p ws (next_code (word g None)) b h q ∙ ap (λ (n : Next). record (mem_of p ws) { fnext = upd (mem_of p ws).fnext b n }) (unlinked_again g)
  store_write ws (SetCount n) h q = write_count p ws n q

  store_length : (ws : List ℕ) (x : RestartStore) → length (words_after_step p (Restart x) ws) ≡ length ws
  store_length ws x = length-set ws (address_of p (restart_word x) (side_of (Restart x))) (becomes (Restart x) (found p (Restart x) ws))

  pub stored_length : (ws : List ℕ) (xs : List RestartStore) → length (words_after_stores p ws xs) ≡ length ws
  stored_length ws [] = refl
  stored_length ws (x ∷ xs) = stored_length (words_after_step p (Restart x) ws) xs ∙ store_length ws x

  -- the words after some stores decode to what the stores make of the decoded words
  pub stored_mem : (ws : List ℕ) (xs : List RestartStore) → length ws ≡ pool_words p → Each (IsInPool p) xs → mem_of p (words_after_stores p ws xs) ≡ stores_mem (mem_of p ws) xs
  stored_mem ws [] e h = refl
  stored_mem ws (x ∷ xs) e h = stored_mem (words_after_step p (Restart x) ws) xs (store_length ws x ∙ e) h.1 ∙ ap (λ (m : Mem). stores_mem m xs) (store_write ws x h.0 (in_reach ws x e h.0))

  pub stored_decodes : (ws : List ℕ) (xs : List RestartStore) → length ws ≡ pool_words p → Each (IsInPool p) xs → Decodes p ws → Decodes p (words_after_stores p ws xs)
  stored_decodes ws [] e h d = d
  stored_decodes ws (x ∷ xs) e h d = stored_decodes (words_after_step p (Restart x) ws) xs (store_length ws x ∙ e) h.1
      (decodes_set p ws (restart_word x) (side_of (Restart x)) (becomes (Restart x) (found p (Restart x) ws)) d (is_within x h.0) (has_side x) (in_reach ws x e h.0) (is_code x (found p (Restart x) ws)))
