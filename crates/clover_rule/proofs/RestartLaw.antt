-- The law of restarts: any image of any stop of a restart has what the first image had, and stands for the same map.
use Rattle.std.proofs.Common.{◌≡◌, ℕ, ◌≤◌, List, refl, sym, ap, ◌∙◌, ⊎_elim, arith, subst}
use Rattle.std.specs.Prelude.{Option, Some, None}
use Rattle.std.specs.FinMap.{get}
use Rattle.clover_words.specs.declared.pool.Pool.{Pool}
use Rattle.clover_words.specs.Tag.{home}
use Rattle.clover_map.specs.declared.bytes.Held.{Held}
use Rattle.clover_map.specs.Tagged.{Tagged}
use Rattle.clover_rule.specs.Content.{Spells}
use Rattle.clover_rule.specs.Cut.{IsUsedIn, StandsFor, image_of}
use Rattle.clover_rule.specs.Image.{Image, IsImage}
use Rattle.clover_rule.specs.Laws.{RestartLaw}
use Rattle.clover_rule.specs.Lists.{Each}
use Rattle.clover_rule.specs.Memory.{Mem, gen, link}
use Rattle.clover_rule.specs.Restart.{buffers_of, plan, rested_words, words_after_stores}
use Rattle.clover_rule.specs.Sound.{Sound, Restarting}
use Rattle.clover_rule.specs.Words.{mem_of}
use Rattle.clover_rule.proofs.CutImages.{cut_decodes, decoded_image}
use Rattle.clover_rule.proofs.Plans.{each_clear, each_lift}
use Rattle.clover_rule.proofs.PoolBuffers.{inside_listed}
use Rattle.clover_rule.proofs.RestedWords.{rested_copies, rested_decodes, rested_length}
use Rattle.clover_rule.proofs.Restarts.{restart_sound, restart_ends, rooted}
use Rattle.clover_rule.proofs.Steps.{each_map}
use Rattle.clover_rule.proofs.Stopped.{dead_below, each_front, each_store, g, gone, on, stopped}
use Rattle.clover_rule.proofs.StoredWords.{IsInPool, stored_decodes, stored_mem}

-- what a restart may leave has what the image had
module _ (p : Pool) (im : Image) (sound : Sound p im) (im2 : Image) (r : Restarting p im sound im2) where
  pub same_map : (n : Tagged) → StandsFor p im sound n → StandsFor p im2 (restart_sound p im sound im2 r) n
  same_map n a = record {
    bound = λ s t k e ik sp. a.bound s t k (rooted p im sound im2 r s t e) ik (λ j x q. sym (r.key s j) ∙ sp j x q) ∙ sym (restart_ends p im sound im2 r s);
    unbound = λ k f. none k f (get n k) refl;
    keys = a.keys;
  }
    where
      none : (k : List ℕ) → ((s t : ℕ) → im2.root s ≡ Some t → Spells (im2.key s) k → ⊥) → (x : Option Held) → get n k ≡ x → get n k ≡ None
      none k f None q = q
      none k f (Some h) q = a.unbound k (λ s t e sp. ⊎_elim (λ z. f s t (z ∙ e) (λ j x y. r.key s j ∙ sp j x y)) (λ z. absurd (let y = a.bound s t k e (a.keys k h q) sp in let d = z.1 in cc (y, d, q))) (r.root s))

  -- generations only rise
  rises : (b : ℕ) → gen (im.next b) ≤ gen (im2.next b)
  rises b = ⊎_elim (λ a. let z = ap gen a in omega arith) (λ a. let z = ap gen a.0 in omega arith) (r.next b)

  pub worn_still : ((b : ℕ) → gen (im.next b) ≡ p.wear → link (im.next b) ≡ None) → (b : ℕ) → gen (im2.next b) ≡ p.wear → link (im2.next b) ≡ None
  worn_still h b e = ⊎_elim (λ a. ap link a ∙ h b (sym (ap gen a) ∙ e)) (λ a. ap link a.0) (r.next b)

  pub used_still : (used : List ℕ) → Each (IsUsedIn p im) used → Each (IsUsedIn p im2) used
  used_still used h = each_map (λ t a. (a.0, a.1, (let z = rises (home t) in let y = a.2 in omega arith))) used h

-- each store of a plan is on a word of the pool
pub plan_in_pool : (p : Pool) (im : Image) (sound : Sound p im) → Each (IsInPool p) (plan p im sound)
plan_in_pool p im sound = each_store p im sound (IsInPool p)
    (each_clear (IsInPool p) (gone p im sound) (λ s e. (dead_below p im sound s e, dead_below p im sound s e)) 0 p.slots)
    (each_lift (IsInPool p) (on p im sound) (g p im sound) (buffers_of p) (λ b w e. (inside_listed p b w, inside_listed p b w))) tt

pub restart_law : RestartLaw
restart_law p n used im im2 a made rest sized is cut =
    let read : Sound p (image_of p im) = a.sound.reads in
    let there : Each (IsInPool p) made = each_front (IsInPool p) made rest (subst (Each (IsInPool p)) is (plan_in_pool p (image_of p im) read)) in
    let long = rested_length p im sized in
    let image = subst (λ (m : Mem). IsImage m (image_of p im2)) (stored_mem p (rested_words p im) made long there) (decoded_image p (words_after_stores p (rested_words p im) made) im2 cut) in
    let r = stopped p (image_of p im) read (mem_of p (rested_words p im)) (rested_copies p im sized) made rest (image_of p im2) is image in
    record {
      sound = record {
        decodes = cut_decodes p (words_after_stores p (rested_words p im) made) im2 cut (stored_decodes p (rested_words p im) made long there (rested_decodes p im sized a.sound.decodes));
        reads = restart_sound p (image_of p im) read (image_of p im2) r;
      };
      stands = same_map p (image_of p im) read (image_of p im2) r n a.stands;
      ages = used_still p (image_of p im) read (image_of p im2) r used a.ages;
      worn = worn_still p (image_of p im) read (image_of p im2) r a.worn;
    }
