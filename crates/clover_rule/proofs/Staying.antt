-- What stays of the helping facts where each buffer that the task holds is left alone.
use Rattle.std.proofs.Common.{◌≡◌, ℕ, ◌<◌, ap, ◌∙◌}
use Rattle.std.specs.Prelude.{Option, Some}
use Rattle.clover_words.specs.declared.pool.Pool.{Pool}
use Rattle.clover_words.specs.Tag.{home}
use Rattle.clover_rule.specs.Memory.{Next, Mem}
use Rattle.clover_rule.specs.Server.{Ranged, AtStage, Help, holding}
use Rattle.clover_rule.specs.Story.{Place, Taken, Story, Durable}
use Rattle.clover_rule.specs.declared.view.ServerTask.{ServerTask}
use Rattle.clover_rule.specs.declared.view.ServerTask.TheVariants.{Idle, Storing, Rooted, Waiting, Loaded, Raised, Led, Both, Exchanged}
use Rattle.clover_rule.proofs.Standings.{exchanged_tag}

-- flushed next words, contents, shortcuts, places and what is sure are others, but not those of a held buffer
module _ (l : Pool) (m : Mem) (st : Story) (fnext : ℕ → Next) (body fbody : ℕ → ℕ → ℕ) (short : ℕ → Option ℕ) (place : ℕ → Place) (sure : ℕ → ℕ) (more : (s j : ℕ) → j < st.sure s → j < sure s)
    (held : (b : ℕ) → st.place b ≡ Taken → (place b ≡ Taken) × (fnext b ≡ m.fnext b) × (body b ≡ m.body b) × (fbody b ≡ m.fbody b)) where
  abbrev m' : Mem
  m' = record m { fnext = fnext; body = body; fbody = fbody; short = short }

  abbrev st' : Story
  st' = record st { place = place; sure = sure }

  -- the task stands where it stood
  here : (T : ServerTask) → AtStage l m st T → AtStage l m' st' T
  here Idle a = tt
  here (Storing bind n) a = let k = held (home bind.tag) a.place in record {
    place = k.0;
    now = a.now;
    safe = k.1 ∙ a.safe;
    range = a.range;
    slot = a.slot;
    bare = a.bare;
    unnamed = a.unnamed;
    absent = a.absent;
    valid = a.valid;
    body = λ q. ap (λ (f : ℕ → ℕ). f 0) k.2 ∙ a.body q;
    fbody = λ q. ap (λ (f : ℕ → ℕ). f 0) k.3 ∙ a.fbody q;
    key = a.key;
    fkey = a.fkey;
  }
  here (Rooted bind) a = (record { key = a.0.key; unnamed = a.0.unnamed; alone = a.0.alone; tag = a.0.tag; gone = a.0.gone }, a.1)
  here (Waiting bind) a = (record { key = a.0.key; unnamed = a.0.unnamed; alone = a.0.alone; tag = a.0.tag; gone = a.0.gone }, a.1)
  here (Loaded cycle) a = record { root = a.root; next = a.next }
  here (Raised cycle) a = (record { root = a.0.root; next = a.0.next }, more cycle.slot _ a.1)
  here (Led cycle) a = (record { root = a.0.root; next = a.0.next }, more cycle.slot _ a.1, a.2, a.3)
  here (Both cycle) a = (record { root = a.0.root; next = a.0.next }, more cycle.slot _ a.1, a.2, a.3)
  here (Exchanged cycle) a =
      let k = held (home cycle.root) a.place in
      let b = held (home a.body.0.tag) (ap (λ (t : ℕ). st.place (home t)) (exchanged_tag l m st cycle a) ∙ a.place) in
      record {
        place = k.0;
        now = a.now;
        safe = k.1 ∙ a.safe;
        old = a.old;
        root = a.root;
        body = (a.body.0, a.body.1, λ i y q. let z = a.body.2 i y q in (ap (λ (f : ℕ → ℕ). f i) b.2 ∙ z.0, ap (λ (f : ℕ → ℕ). f i) b.3 ∙ z.1));
        inside = a.inside;
        young = a.young;
      }

  -- so do the helping facts, where ranges, held buffers and shortcuts are as they must be
  pub help_kept : Help l m st → Ranged l m' st' → ((b : ℕ) → place b ≡ Taken → holding st.task ≡ Some b) → ((s t : ℕ) → short s ≡ Some t → Durable st' s t) → Help l m' st'
  help_kept p ranged holds shorts = record {
    ranged = ranged;
    keyed = let a = p.keyed in record { valid = a.valid; current = a.current; flushed = a.flushed; bare = a.bare; nameless = a.nameless; filled = a.filled; slots = a.slots };
    naming = let a = p.naming in record { counted = a.counted; found = a.found; listed = a.listed; waiting = a.waiting; once = a.once };
    stage = record { settled = p.stage.settled; holds = holds; names = p.stage.names; here = here st.task p.stage.here };
    short = shorts;
  }
