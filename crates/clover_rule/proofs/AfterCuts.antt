-- The law of cuts over the words of a pool.
use Rattle.std.proofs.Common.{◌≡◌, ℕ, ◌≢◌, ◌⊎◌, List, [], ◌∷◌, refl, sym, ap, ◌∙◌, inl, inr, ⊎_elim, subst}
use mathlib.Core.Logic.{dite}
use Rattle.std.specs.Prelude.{Option, Some, None}
use Rattle.clover_words.specs.declared.pool.Pool.{Pool}
use Rattle.clover_words.specs.Tag.{home}
use Rattle.clover_map.specs.declared.call.Entry.{Entry}
use Rattle.clover_map.specs.Key.{IsKey}
use Rattle.clover_map.specs.Tagged.{Tagged}
use Rattle.clover_map.specs.declared.bytes.Held.{Held}
use Rattle.clover_rule.specs.Content.{Spells}
use Rattle.clover_rule.specs.Cut.{IsCut, image_of, IsKnownDurable, AfterCut, CutLaw}
use Rattle.clover_map.specs.Legal.{Legal}
use Rattle.clover_rule.specs.History.{Version, kept, ends}
use Rattle.clover_rule.specs.Image.{Image, IsImage, Reads, missing, tags, Chain}
use Rattle.clover_rule.specs.Lists.{Within}
use Rattle.clover_rule.specs.Meets.{Meets}
use Rattle.clover_rule.specs.Memory.{Mem}
use Rattle.clover_rule.specs.Sound.{Sound}
use Rattle.clover_rule.specs.Story.{Story, Durable, Chained}
use Rattle.clover_rule.specs.Words.{mem_of}
use Rattle.clover_rule.specs.declared.view.View.{View}
use Rattle.clover_rule.proofs.Steps.{each_within}
use Rattle.clover_rule.proofs.Snocs.{within_nth}
use Rattle.clover_rule.proofs.Cuts.{ReadsMap, last_lost, untold, legal_left, cut_stands}
use Rattle.clover_rule.proofs.Rested.{cut_ages, cut_rested}
use Rattle.clover_rule.proofs.Soundness.{cut_sound, cut_ends, bound_root as bound_key, spelled as spelled_key, chain_placed}
use Rattle.clover_rule.proofs.Spelling.{one_key}
use Rattle.clover_rule.proofs.OneReading.{one_chain}
use Rattle.clover_rule.proofs.Keys.{key_discrete}
use Rattle.clover_rule.proofs.KeyMaps.{Map, shows, leads}
use Rattle.clover_rule.proofs.TaggedMaps.{legal_history}
use Rattle.clover_rule.proofs.CutImages.{decoded_image, cut_decodes, outside_words}

module _ (p : Pool) (first : Tagged) (used ws : List ℕ) (vs : List View) (st : Story) (h : List Entry) (r : Meets p first used ws vs st h) (im : List ℕ) (cut : IsCut p ws im) where
  abbrev m : Mem
  m = mem_of p ws

  abbrev i : Image
  i = image_of p im

  abbrev is : IsImage m i
  is = decoded_image p ws im cut

  abbrev sound : Sound p i
  sound = cut_sound p first used m vs st h r.whole i is

  abbrev rest : List Entry
  rest = kept (missing st i) h

  legal_rest : Legal first used rest
  legal_rest = legal_left m st r.whole.basis.core i is first used h r.whole.basis.tale

  told_durable : (t : ℕ) → IsKnownDurable vs t → (s : ℕ) × Durable st s t
  told_durable t (v, w, (s, d)) = let x = within_nth v vs w in (s, each_within (λ (q : ℕ × ℕ). Durable st q.0 q.1) (s, t) v.pass.durable (r.whole.basis.views x.0 v x.1).knows.durable d)

  reads : ReadsMap st i (leads (shows first) rest)
  reads = cut_stands m st r.whole.basis.core i is first used h r.whole.basis.tale

  -- a slot without a root reads as nothing
  bare_reads : (s : ℕ) (y : Option Held) → Reads i s y → i.root s ≡ None → y ≡ None
  bare_reads s y q e = go q.versions (subst (λ (x : Option ℕ). Chain i x (tags q.versions)) e q.chain) q.last
    where
      go : (ws : List Version) → Chain i None (tags ws) → ends None ws ≡ y → y ≡ None
      go [] c l = sym l
      go (w ∷ ws) c l = absurd c

  -- the slot that has a key
  slot_of_key : (k : List ℕ) → ((s : ℕ) × (st.keys s ≡ Some k)) ⊎ ((s : ℕ) → st.keys s ≢ Some k)
  slot_of_key k = go (st.keys (st.slot_named k)) refl
    where
      go : (x : Option (List ℕ)) → st.keys (st.slot_named k) ≡ x → ((s : ℕ) × (st.keys s ≡ Some k)) ⊎ ((s : ℕ) → st.keys s ≢ Some k)
      go None e = inr (λ s z. absurd (let f = r.whole.help.naming.found s k z in let y : ◌≡◌ {A = Option (List ℕ)} None (Some k) = sym e ∙ ap st.keys f ∙ z in cc))
      go (Some j) e = dite (key_discrete j k) (λ d. inl (st.slot_named k, e ∙ ap Some d))
          (λ n. inr (λ s z. let f = r.whole.help.naming.found s k z in n (let y : Some j ≡ Some k = sym e ∙ ap st.keys f ∙ z in cc)))

  -- a slot with a root is bound to the key that its words spell
  key_of_slot : (s t : ℕ) (k : List ℕ) → i.root s ≡ Some t → IsKey k → Spells (i.key s) k → st.keys s ≡ Some k
  key_of_slot s t k e ik sp = let a = bound_key p first used m vs st h r.whole i is s t e in
      a.1 ∙ ap Some (one_key (i.key s) a.0 k (r.whole.help.keyed.valid s a.0 a.1) ik (spelled_key p first used m vs st h r.whole i is s a.0 a.1) sp)

  -- what the map has where no slot with a root spells the key
  unspelled : (k : List ℕ) → ((s t : ℕ) → i.root s ≡ Some t → Spells (i.key s) k → ⊥) → leads (shows first) rest k ≡ None
  unspelled k f = ⊎_elim (λ a. bare_reads a.0 (leads (shows first) rest k) (reads.bound a.0 k a.1) (no_root a.0 a.1 (i.root a.0) refl)) (λ g. reads.unbound k g) (slot_of_key k)
    where
      no_root : (s : ℕ) → st.keys s ≡ Some k → (x : Option ℕ) → i.root s ≡ x → i.root s ≡ None
      no_root s q None e = e
      no_root s q (Some t) e = absurd (f s t e (spelled_key p first used m vs st h r.whole i is s k q))

  -- a key at which something is left is one
  valid_key : (k : List ℕ) → (leads (shows first) rest k ≡ None → ⊥) → IsKey k
  valid_key k n = ⊎_elim (λ a. r.whole.help.keyed.valid a.0 k a.1) (λ g. absurd (n (reads.unbound k g))) (slot_of_key k)

  after : AfterCut p first used vs h im
  after = let l = legal_history first used rest legal_rest in record {
    rest = rest;
    survives = record {
      lost = missing st i;
      without = refl;
      last = last_lost m st r.whole.basis.core i is first used h r.whole.basis.tale;
      untold = λ t e q. untold m st r.whole.basis.core i is first used h r.whole.basis.tale t e (told_durable t q);
      legal = legal_rest;
    };
    map = l.0;
    leads = l.1;
    rests = record {
      sound = record { decodes = cut_decodes p ws im cut r.decodes; reads = sound };
      stands = record {
        bound = λ s t k e ik sp. ap (λ (f : Map). f k) l.2 ∙ sym (cut_ends p first used m vs st h r.whole i is s t k e (key_of_slot s t k e ik sp));
        unbound = λ k f. ap (λ (g : Map). g k) l.2 ∙ unspelled k f;
        keys = λ k x e. valid_key k (λ z. absurd (let y = ap (λ (g : Map). g k) l.2 in cc (y, e, z)));
      };
      ages = cut_ages p first used m vs st h r.whole (outside_words p ws) i is;
      worn = cut_rested p first used m vs st h r.whole (outside_words p ws) i is;
    };
  }

-- a buffer that stands on no slot's chain stands on no chain of an image of these words
pub nowhere : (p : Pool) (first : Tagged) (used ws : List ℕ) (vs : List View) (st : Story) (h : List Entry) → Meets p first used ws vs st h → (b : ℕ) → ((s : ℕ) → st.place b ≢ Chained s)
    → (im : List ℕ) → IsCut p ws im → (s : ℕ) (ts : List ℕ) → Chain (image_of p im) ((image_of p im).root s) ts → (t : ℕ) → Within t ts → home t ≢ b
nowhere p first used ws vs st h r b off im cut s ts c t w e =
    let i : Image = image_of p im in
    let so : Sound p i = cut_sound p first used (mem_of p ws) vs st h r.whole i (is p first used ws vs st h r im cut) in
    let q = within_nth t (so.chain s) (subst (Within t) (one_chain i (i.root s) ts (so.chain s) c (so.walk s)) w) in
    off s (ap st.place (sym e) ∙ chain_placed p first used (mem_of p ws) vs st h r.whole i (is p first used ws vs st h r im cut) s q.0 t q.1)

pub cut_law : CutLaw
cut_law p first used ws vs h im r cut = after p first used ws vs r.story h r.helped im cut
