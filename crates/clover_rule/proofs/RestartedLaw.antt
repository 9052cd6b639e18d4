-- The law of what is left: the words after all stores of a restart decode to the image with its dead slots cleared and its buffers gone on.
use Rattle.std.proofs.Common.{◌≡◌, ℕ, suc, ◌&&◌, List, [], ◌∷◌, length, Bool, true, false, cond, refl, sym, ap, ◌∙◌, subst}
use Rattle.std.specs.Prelude.{Option, Some, None}
use Rattle.clover_words.specs.declared.pool.Pool.{Pool}
use Rattle.clover_words.specs.Place.{durable_words, pool_words}
use Rattle.clover_rule.specs.Content.{inside}
use Rattle.clover_rule.specs.Cut.{IsSound, image_of}
use Rattle.clover_rule.specs.Image.{Image, Chain}
use Rattle.clover_rule.specs.Laws.{RestartedLaw}
use Rattle.clover_rule.specs.Meets.{Decodes}
use Rattle.clover_rule.specs.Memory.{Mem, gen, word}
use Rattle.clover_rule.specs.Restart.{IsRestarted, is_dead, moves, plan, rested_words, restarted_words}
use Rattle.clover_rule.specs.Sound.{Sound, Restarting}
use Rattle.clover_rule.specs.Words.{mem_of}
use Rattle.clover_rule.proofs.RestartLaw.{plan_in_pool, same_map}
use Rattle.clover_rule.proofs.RestartStores.{shorts_kept, stores_mem}
use Rattle.clover_rule.proofs.Restarted.{Restarted, all_left, image_in, next_up, restarted}
use Rattle.clover_rule.proofs.RestedWords.{rested_copies, rested_decodes, rested_length, rested_short}
use Rattle.clover_rule.proofs.Restarts.{restart_chain, restart_sound, shown_chain}
use Rattle.clover_rule.proofs.StoredWords.{stored_decodes, stored_length, stored_mem}

module _ (p : Pool) (im : List ℕ) (a : IsSound p im) (sized : length im ≡ durable_words p) where
  abbrev old : Image
  old = image_of p im

  abbrev pub ws : List ℕ
  ws = restarted_words p im a.reads

  abbrev before : List ℕ
  before = rested_words p im

  made : mem_of p ws ≡ stores_mem (mem_of p before) (plan p old a.reads)
  made = stored_mem p before (plan p old a.reads) (rested_length p im sized) (plan_in_pool p old a.reads)

  pub restarted_length : length ws ≡ pool_words p
  restarted_length = stored_length p before (plan p old a.reads) ∙ rested_length p im sized

  pub restarted_decodes : Decodes p ws
  restarted_decodes = stored_decodes p before (plan p old a.reads) (rested_length p im sized) (plan_in_pool p old a.reads) (rested_decodes p im sized a.decodes)

  -- no slot has a shortcut
  pub restarted_short : (s : ℕ) → (mem_of p ws).short s ≡ None
  restarted_short s = ap (λ (m : Mem). m.short s) made ∙ ap (λ (f : ℕ → Option ℕ). f s) (shorts_kept (mem_of p before) (plan p old a.reads)) ∙ rested_short p im sized s

  pub restarted_mem : Restarted p old a.reads (mem_of p ws)
  restarted_mem = subst (Restarted p old a.reads) (sym made) (restarted p old a.reads (mem_of p before) (rested_copies p im sized))

  pub restarted_left : Restarting p old a.reads (image_of p ws)
  restarted_left = subst (λ (m : Mem). Restarting p old a.reads (image_in m)) (sym made) (all_left p old a.reads (mem_of p before) (rested_copies p im sized))

  -- the words' image is sound
  abbrev pub read_again : Sound p (image_of p ws)
  read_again = restart_sound p old a.reads (image_of p ws) restarted_left

  next_inside : (b : ℕ) (x : Bool) → x ≡ true → cond (x && moves p old a.reads b) (next_up p old a.reads b) (old.next b) ≡ cond (moves p old a.reads b) (word (suc (gen (old.next b))) None) (old.next b)
  next_inside b true e = refl
  next_inside b false e = absurd cc

  chain_left : (s : ℕ) → read_again.chain s ≡ cond (is_dead p old a.reads s) [] (a.reads.chain s)
  chain_left s = restart_chain p old a.reads (image_of p ws) restarted_left s ∙ ap (λ (x : Option ℕ). shown_chain x (a.reads.chain s)) (restarted_mem.root s).0 ∙ go (is_dead p old a.reads s) (old.root s) refl
    where
      bare : (us : List ℕ) → Chain old None us → [] ≡ us
      bare [] c = refl
      bare (u ∷ us) c = absurd c

      go : (d : Bool) (x : Option ℕ) → old.root s ≡ x → shown_chain (cond d None x) (a.reads.chain s) ≡ cond d [] (a.reads.chain s)
      go true x e = refl
      go false (Some t) e = refl
      go false None e = bare (a.reads.chain s) (subst (λ (x : Option ℕ). Chain old x (a.reads.chain s)) e (a.reads.walk s))

  pub is_restarted : IsRestarted p old a.reads (image_of p ws)
  is_restarted = record {
    root = λ s. (restarted_mem.root s).0;
    next = λ b i. (restarted_mem.next b).0 ∙ next_inside b (inside p b) i;
    body = λ b j. (restarted_mem.body b j).0;
    key = λ s j. (restarted_mem.key s j).0;
    sound = read_again;
    chain = chain_left;
    stands = same_map p old a.reads (image_of p ws) restarted_left;
  }

pub restarted_law : RestartedLaw
restarted_law p im a sized = is_restarted p im a sized
