-- What a get has copied of the tail's version, and what it means that its accesses show a value.
use Prim.Native.Nat.{suc}
use Rattle.std.specs.Prelude.{◌≡◌, ℕ, ◌*◌, ◌^◌, ◌<◌, ◌≤◌, List, ◌∷◌, ◌++◌}
use Rattle.clover_words.specs.declared.bytes.ValueBuf.{ValueBuf}
use Rattle.clover_words.specs.declared.meta.Kind.TheVariants.{Value as IsValue}
use Rattle.clover_words.specs.declared.pool.Pool.{Pool}
use Rattle.clover_words.specs.declared.word.Word.TheVariants.{Meta, Value as ValueOf}
use Rattle.clover_words.specs.Meta.{meta_word, tombstone}
use Rattle.clover_words.specs.Pack.{packed}
use Rattle.clover_words.specs.Tag.{home}
use Rattle.clover_words.specs.Version.{buffer_at}
use Rattle.clover_rule.specs.Lists.{Within}
use Rattle.clover_rule.specs.Told.{IsMetaWord}
use Rattle.clover_rule.specs.declared.access.Act.{Act}
use Rattle.clover_rule.specs.declared.access.Act.TheVariants.{Load}
use Rattle.clover_rule.specs.declared.view.Content.{Content}
use Rattle.clover_rule.specs.declared.view.View.{View}

-- a content word of a tag's version
abbrev pub copy : ℕ → ℕ → ℕ → Content
copy t j x = record { tag = t; place = j; word = x }

-- a load of the meta word, and behind it loads of the first n value words, as they stand in the room
pub record Loads (t meta n : ℕ) (bytes : List ℕ) (acts : List Act) : Type 0 where
  pub before : List Act
  pub after : List Act
  pub split : acts ≡ before ++ Load (Meta (buffer_at (home t))) meta ∷ after
  pub words : (k : ℕ) → k < n → Within (Load (ValueOf (buffer_at (home t)) k) (packed bytes k)) after

-- the meta word of a value that the buffers have room for is copied of the tail, and the first n value words stand in the room
pub record Copied (p : Pool) (s t f n : ℕ) (v : View) (into : ValueBuf) : Type 0 where
  pub flags : f < 2 ^ 32
  pub size : into.length ≤ 8 * p.words
  pub meta : Within (s, copy t 0 (meta_word (record { kind = IsValue; flags = f; length = into.length }))) v.pass.copied
  pub words : (k : ℕ) → k < n → Within (s, copy t (suc k) (packed into.bytes k)) v.pass.copied
  pub loads : Loads t (meta_word (record { kind = IsValue; flags = f; length = into.length })) n into.bytes v.pass.since

-- a tombstone is copied of the tail
pub record CopiedDead (s t : ℕ) (v : View) : Type 0 where
  pub meta : Within (s, copy t 0 tombstone) v.pass.copied
  pub load : Within (Load (Meta (buffer_at (home t))) tombstone) v.pass.since

-- a meta word is copied of the tail that is no version's
pub record CopiedBad (p : Pool) (s t : ℕ) (v : View) : Type 0 where
  pub word : ℕ
  pub meta : Within (s, copy t 0 word) v.pass.copied
  pub bad : IsMetaWord p word → ⊥
