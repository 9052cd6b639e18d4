-- What a get has copied of the tail: how it grows by one load, and what it shows at the last load.
use Prim.Native.Nat.{suc}
use Rattle.std.proofs.Common.{◌≡◌, ◌≢◌, ℕ, ◌+◌, ◌*◌, ◌^◌, ◌<◌, ◌≤◌, List, [], ◌∷◌, ◌++◌, length, Bool, true, false, ltb, refl, sym, ap, ◌∙◌, inl, inr, ⊎_elim, subst, arith}
use Rattle.std.specs.Prelude.{◌⊎◌, slice_index, None}
use Rattle.std.proofs.lemmas.List.{length-take-le, get_or-take}
use Rattle.std.proofs.lemmas.Bool.Decides.{nat_tests}
use Rattle.clover_words.specs.declared.bytes.ValueBuf.{ValueBuf}
use Rattle.clover_words.specs.declared.meta.Kind.TheVariants.{Value as IsValue, Tombstone}
use Rattle.clover_words.specs.declared.pool.Pool.{Pool}
use Rattle.clover_words.specs.declared.word.Word.TheVariants.{Meta, Value as ValueOf}
use Rattle.clover_words.specs.Meta.{meta_word, tombstone}
use Rattle.clover_words.specs.Pack.{packed, words_of}
use Rattle.clover_words.proofs.Packing.{packed_spells}
use Rattle.clover_words.specs.Tag.{home}
use Rattle.clover_words.specs.Version.{buffer_at}
use Rattle.clover_map.specs.declared.call.Call.TheVariants.{Get}
use Rattle.clover_map.specs.declared.call.Reply.TheVariants.{Found, Absent}
use Rattle.clover_rule.specs.Content.{InRange, value_meta, Unpacks}
use Rattle.clover_rule.specs.Lists.{Within}
use Rattle.clover_rule.specs.Asks.{Asks}
use Rattle.clover_rule.specs.Steps.{LoadNext, DecideNext, LoadContent}
use Rattle.clover_rule.specs.Told.{IsMetaWord}
use Rattle.clover_rule.specs.declared.access.Act.{Act}
use Rattle.clover_rule.specs.declared.access.Act.TheVariants.{Load}
use Rattle.clover_rule.specs.declared.view.Content.{Content}
use Rattle.clover_rule.specs.declared.view.View.{View}
use Rattle.clover_words.proofs.Packing.{eight_byte}
use Rattle.clover_rule.proofs.Spelling.{meta_apart, meta_parts, short_enough}
use Rattle.clover_rule.proofs.Steps.{within_last, within_prefix}
use Rattle.clover_rule.proofs.Ties.{buffer_in, content_in}
use Rattle.clover_walk.specs.Walking.{Walking, Stand, StandsOn as WalkStandsOn, Holds, key_at}
use Rattle.clover_get.specs.Copying.{Copied, CopiedDead, CopiedBad, copy}
use Rattle.clover_get.specs.Getting.{Reads, value_in}
use Rattle.clover_get.specs.Holding.{IsAt}

join_last : {A : Type 0} (xs ys : List A) (a b : A) → (xs ++ a ∷ ys) ++ b ∷ [] ≡ xs ++ a ∷ (ys ++ b ∷ [])
join_last [] ys a b = refl
join_last (x ∷ xs) ys a b = ap (λ (zs : List _). x ∷ zs) (join_last xs ys a b)

-- the value in the room
module _ (f : ℕ) (into : ValueBuf) where
  pub value_length : length (value_in f into).bytes ≡ into.length
  value_length = length-take-le into.length into.bytes (let a = into.length_fits in let b = into.room.size in omega arith)

  pub value_meta_is : meta_word (record { kind = IsValue; flags = f; length = into.length }) ≡ value_meta (value_in f into)
  value_meta_is = ap (λ (n : ℕ). meta_word (record { kind = IsValue; flags = f; length = n })) (sym value_length)

  -- each word of the room spells the value's bytes there, as far as they go
  pub value_unpacks : (k : ℕ) → Unpacks (packed into.bytes k) (value_in f into) k
  value_unpacks k i lt in_value =
      let n = value_length in
      ap (λ (bs : List ℕ). slice_index bs i) (packed_spells into.bytes k into.room.bytes) ∙ eight_byte into.bytes k i lt ∙ sym (get_or-take into.length into.bytes (8 * k + i) 0 (omega arith))

-- what a get may ask of the tail that it stands on
module _ (p : Pool) (w : Walking) (t : ℕ) (v : View) (of : p ≡ w.pool) (holds : Holds w v) (at : IsAt w t) where
  tail_known : Within (w.slot, t) v.pass.durable
  tail_known = subst (λ (z : Stand). WalkStandsOn w.slot z v) at.0 holds.stand

  range_here : InRange p t
  range_here = subst (λ (q : Pool). InRange q t) (sym of) at.2

  pub asks_found : (f : ℕ) (into : ValueBuf) → Copied w.pool w.slot t f (words_of into.length) v into
      → Asks p (DecideNext w.slot t (Get (key_at v.pass.names w.slot)) (Found t (value_in f into))) v
  asks_found f into c = (
    buffer_in p (home t) range_here.0,
    record {
      client = holds.client;
      tail = tail_known;
      name = holds.named;
      reply = (
        refl,
        record {
          flags_fit = c.flags;
          size_fits = subst (λ (n : ℕ). n ≤ 1024) (sym (value_length f into)) into.length_fits;
          meta = subst (λ (x : ℕ). Within (w.slot, copy t 0 x) v.pass.copied) (value_meta_is f into) c.meta;
          words = λ k h. (packed into.bytes k, c.words k (subst (λ (n : ℕ). k < words_of n) (value_length f into) h), value_unpacks f into k);
        },
      );
    },
  )

  pub asks_dead : CopiedDead w.slot t v → Asks p (DecideNext w.slot t (Get (key_at v.pass.names w.slot)) Absent) v
  asks_dead c = (buffer_in p (home t) range_here.0, record { client = holds.client; tail = tail_known; name = holds.named; reply = c.meta })

  pub asks_next : Asks p (LoadNext w.slot t) v
  asks_next = (buffer_in p (home t) range_here.0, (holds.client, tail_known))

  pub asks_content : (j : ℕ) → j < 1 + p.words → Asks p (LoadContent w.slot t j) v
  asks_content j h = (content_in p (home t) j range_here.0 h, (holds.client, tail_known))

-- one value word more
module _ (p : Pool) (s t f j : ℕ) (v v1 : View) (into into1 : ValueBuf) (x : ℕ)
    (c : Copied p s t f j v into) (copied : v1.pass.copied ≡ (s, copy t (suc j) x) ∷ v.pass.copied)
    (since : v1.pass.since ≡ v.pass.since ++ Load (ValueOf (buffer_at (home t)) j) x ∷ [])
    (size : into1.length ≡ into.length) (packs : packed into1.bytes j ≡ x) (kept : (k : ℕ) → k ≢ j → packed into1.bytes k ≡ packed into.bytes k) where
  more_copied : (k : ℕ) → k < suc j → (k ≡ j) ⊎ (k < j) → Within (s, copy t (suc k) (packed into1.bytes k)) v1.pass.copied
  more_copied k h (inl e) = subst (λ (cs : List (ℕ × Content)). Within (s, copy t (suc k) (packed into1.bytes k)) cs) (sym copied) (inl (λ i. (s, copy t (suc (sym e i)) ((sym packs ∙ ap (packed into1.bytes) (sym e)) i))))
  more_copied k h (inr l) = subst (λ (cs : List (ℕ × Content)). Within (s, copy t (suc k) (packed into1.bytes k)) cs) (sym copied)
      (inr (subst (λ (y : ℕ). Within (s, copy t (suc k) y) v.pass.copied) (sym (kept k (λ e. omega arith))) (c.words k l)))

  more_loads : (k : ℕ) → (k ≡ j) ⊎ (k < j) → Within (Load (ValueOf (buffer_at (home t)) k) (packed into1.bytes k)) (c.loads.after ++ Load (ValueOf (buffer_at (home t)) j) x ∷ [])
  more_loads k (inl e) = subst (λ (a : Act). Within a (c.loads.after ++ Load (ValueOf (buffer_at (home t)) j) x ∷ []))
      (λ i. Load (ValueOf (buffer_at (home t)) (sym e i)) ((sym packs ∙ ap (packed into1.bytes) (sym e)) i)) (within_last (Load (ValueOf (buffer_at (home t)) j) x) c.loads.after)
  more_loads k (inr l) = within_prefix _ c.loads.after _ (subst (λ (y : ℕ). Within (Load (ValueOf (buffer_at (home t)) k) y) c.loads.after) (sym (kept k (λ e. omega arith))) (c.loads.words k l))

  here_or_below : (k : ℕ) → k < suc j → (k ≡ j) ⊎ (k < j)
  here_or_below k h = by (ltb k j) refl
    where
      by : (b : Bool) → ltb k j ≡ b → (k ≡ j) ⊎ (k < j)
      by true e = inr (grind (arith, nat_tests))
      by false e = inl (let q : ¬ (k < j) = λ l. grind (arith, nat_tests) in omega arith)

  pub more_value : Copied p s t f (suc j) v1 into1
  more_value = record {
    flags = c.flags;
    size = subst (λ (n : ℕ). n ≤ 8 * p.words) (sym size) c.size;
    meta = subst (λ (cs : List (ℕ × Content)). Within (s, copy t 0 (meta_word (record { kind = IsValue; flags = f; length = into1.length }))) cs) (sym copied)
        (inr (subst (λ (n : ℕ). Within (s, copy t 0 (meta_word (record { kind = IsValue; flags = f; length = n }))) v.pass.copied) (sym size) c.meta));
    words = λ k h. more_copied k h (here_or_below k h);
    loads = record {
      before = c.loads.before;
      after = c.loads.after ++ Load (ValueOf (buffer_at (home t)) j) x ∷ [];
      split = since ∙ ap (λ (zs : List Act). zs ++ Load (ValueOf (buffer_at (home t)) j) x ∷ []) c.loads.split
          ∙ join_last c.loads.before c.loads.after (Load (Meta (buffer_at (home t))) (meta_word (record { kind = IsValue; flags = f; length = into.length }))) (Load (ValueOf (buffer_at (home t)) j) x)
          ∙ ap (λ (n : ℕ). c.loads.before ++ Load (Meta (buffer_at (home t))) (meta_word (record { kind = IsValue; flags = f; length = n })) ∷ (c.loads.after ++ Load (ValueOf (buffer_at (home t)) j) x ∷ [])) (sym size);
      words = λ k h. more_loads k (here_or_below k h);
    };
  }

-- the meta word
module _ (p : Pool) (s t : ℕ) (v v1 : View) (x : ℕ) (copied : v1.pass.copied ≡ (s, copy t 0 x) ∷ v.pass.copied) (since : v1.pass.since ≡ v.pass.since ++ Load (Meta (buffer_at (home t))) x ∷ []) where
  first_copied : Within (s, copy t 0 x) v1.pass.copied
  first_copied = subst (λ (cs : List (ℕ × Content)). Within (s, copy t 0 x) cs) (sym copied) (inl refl)

  pub first_value : (f : ℕ) (into1 : ValueBuf) → f < 2 ^ 32 → into1.length ≤ 8 * p.words → meta_word (record { kind = IsValue; flags = f; length = into1.length }) ≡ x → Copied p s t f 0 v1 into1
  first_value f into1 fits size e = record {
    flags = fits;
    size = size;
    meta = subst (λ (y : ℕ). Within (s, copy t 0 y) v1.pass.copied) (sym e) first_copied;
    words = λ k h. absurd (omega arith);
    loads = record {
      before = v.pass.since;
      after = [];
      split = since ∙ ap (λ (y : ℕ). v.pass.since ++ Load (Meta (buffer_at (home t))) y ∷ []) (sym e);
      words = λ k h. absurd (omega arith);
    };
  }

  pub first_dead : tombstone ≡ x → CopiedDead s t v1
  first_dead e = record {
    meta = subst (λ (y : ℕ). Within (s, copy t 0 y) v1.pass.copied) (sym e) first_copied;
    load = subst (λ (acts : List Act). Within (Load (Meta (buffer_at (home t))) tombstone) acts) (sym (since ∙ ap (λ (y : ℕ). v.pass.since ++ Load (Meta (buffer_at (home t))) y ∷ []) (sym e))) (within_last (Load (Meta (buffer_at (home t))) tombstone) v.pass.since);
  }

  pub first_bad : (IsMetaWord p x → ⊥) → CopiedBad p s t v1
  first_bad bad = record { word = x; meta = first_copied; bad = bad }

-- a number that is no meta word is no version's, nor is the meta word of a value that the buffers have no room for
pub undecoded : (p : Pool) (x : ℕ) → Reads x None → IsMetaWord p x → ⊥
undecoded p x r m = ⊎_elim (λ e. absurd (let q = r.only (record { kind = Tombstone; flags = 0; length = 0 }) (refl, refl) (sym e) in cc))
    (λ u. absurd (let q = r.only (record { kind = IsValue; flags = u.0.flags; length = length u.0.bytes }) (u.1.0, short_enough p (length u.0.bytes) u.1.1) (sym u.2) in cc)) m

pub too_long : (p : Pool) (f n x : ℕ) → f < 2 ^ 32 → n ≤ 1024 → 8 * p.words < n → meta_word (record { kind = IsValue; flags = f; length = n }) ≡ x → IsMetaWord p x → ⊥
too_long p f n x fits size long e m = ⊎_elim (λ d. meta_apart f n fits size (e ∙ d))
    (λ u. let q = meta_parts f n u.0.flags (length u.0.bytes) fits size u.1.0 (short_enough p (length u.0.bytes) u.1.1) (e ∙ u.2) in let l = u.1.1 in omega arith) m
