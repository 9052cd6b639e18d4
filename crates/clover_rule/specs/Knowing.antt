-- What a client knows of what it loaded and stored, and its view after a store or a commit.
use Rattle.clover_words.specs.Meta.{tombstone, meta_word}
use Rattle.clover_words.specs.Tag.{home, age}
use Rattle.clover_rule.specs.Content.{value_meta, Unpacks, content}
use Rattle.clover_rule.specs.Lists.{nth, upd, Within}
use Rattle.clover_rule.specs.Memory.{Mem}
use Rattle.clover_rule.specs.Views.{shown, without}
use Rattle.clover_rule.specs.declared.view.Content.{Content}
use Rattle.clover_rule.specs.declared.view.Role.TheVariants.{Client}
use Rattle.clover_rule.specs.declared.view.View.{View}
use Prim.Native.Nat.{suc}
use Rattle.std.specs.Prelude.{◌≡◌, ℕ, ◌^◌, ◌<◌, ◌≤◌, ◌&&◌, List, [], ◌∷◌, ◌++◌, length, Option, Some, if◌then◌else◌, ◌==◌}
use Rattle.clover_map.specs.declared.bytes.Value.{Value}
use Rattle.clover_map.specs.declared.call.Call.{Call}
use Rattle.clover_map.specs.declared.call.Reply.{Reply}
use Rattle.clover_map.specs.declared.call.Entry.{Entry}
use Rattle.clover_words.specs.declared.meta.Kind.TheVariants.{Value as IsValue}
use Rattle.clover_words.specs.Pack.{words_of}

-- what a seat must know to link its own tag t behind u in slot s with the content y
pub record MayLink (v : View) (n s : ℕ) (k : List ℕ) (u t : ℕ) (y : Option Value) (rest : List ℕ) : Type 0 where
  pub client : v.pass.role ≡ Client n
  pub stock : v.pass.stock ≡ t ∷ rest
  pub tail : Within (s, u) v.pass.durable
  pub name : Within (s, k) v.pass.names
  pub stored : (j x : ℕ) → nth (content y) j ≡ Some x → Within (record { tag = t; place = j; word = x }) v.pass.written × Within (record { tag = t; place = j; word = x }) v.pass.flushed

-- the entry that a client adds
abbrev pub link_entry : View → ℕ → Call → Reply → Entry
link_entry v n call reply = record { client = n; number = suc (length v.pass.calls); call = call; reply = reply }

-- the view after the exchange that commits: the entry is in, the tag has left the stock, its link is known
abbrev pub link_view : View → List Entry → ℕ → ℕ → ℕ → ℕ → Call → Reply → List ℕ → View
link_view v h n s u t call reply rest = record v {
  pass = record v.pass {
    stock = rest;
    links = record { slot = s; from = u; to = t } ∷ v.pass.links;
    words = shown (home u) (age u) (Some t) ∷ v.pass.words;
    written = without t v.pass.written;
    flushed = without t v.pass.flushed;
    calls = v.pass.calls ++ link_entry v n call reply ∷ [];
    history = h ++ link_entry v n call reply ∷ [];
  };
}

-- the copied meta word of a tag was a tombstone's
abbrev pub SawTombstone : View → ℕ → ℕ → Type 0
SawTombstone v s t = Within (s, record { tag = t; place = 0; word = tombstone }) v.pass.copied

-- the copied meta word of a tag gave kind value
pub record SawValue (v : View) (s t : ℕ) : Type 0 where
  pub flags : ℕ
  pub size : ℕ
  pub flags_fit : flags < 2 ^ 32
  pub size_fits : size ≤ 1024
  pub copied : Within (s, record { tag = t; place = 0; word = meta_word (record { kind = IsValue; flags = flags; length = size }) }) v.pass.copied

-- the words that were copied of a tag unpack to the value
pub record CopiedValue (v : View) (s t : ℕ) (x : Value) : Type 0 where
  pub flags_fit : x.flags < 2 ^ 32
  pub size_fits : length x.bytes ≤ 1024
  pub meta : Within (s, record { tag = t; place = 0; word = value_meta x }) v.pass.copied
  pub words : (k : ℕ) → k < words_of (length x.bytes) → (y : ℕ) × Within (s, record { tag = t; place = suc k; word = y }) v.pass.copied × Unpacks y x k

-- what a seat had stored at this place of its buffer is forgotten
abbrev pub dropped : ℕ → ℕ → List Content → List Content
dropped t j [] = []
dropped t j (c ∷ cs) = if c.tag == t && c.place == j then dropped t j cs else c ∷ dropped t j cs

-- the view after a store of a content word
abbrev pub stored_view : View → ℕ → ℕ → ℕ → View
stored_view v t j x = record v { pass = record v.pass { written = record { tag = t; place = j; word = x } ∷ dropped t j v.pass.written } }

-- the decoded words after that store
abbrev pub stored_mem : Mem → ℕ → ℕ → ℕ → Mem
stored_mem m t j x = record m { body = upd m.body (home t) (upd (m.body (home t)) j x) }

-- the view after a store of the flushed copy of a content word
abbrev pub flushed_view : View → ℕ → ℕ → ℕ → View
flushed_view v t j x = record v { pass = record v.pass { flushed = record { tag = t; place = j; word = x } ∷ dropped t j v.pass.flushed } }

-- the decoded words after that store
abbrev pub flushed_mem : Mem → ℕ → ℕ → ℕ → Mem
flushed_mem m t j x = record m { fbody = upd m.fbody (home t) (upd (m.fbody (home t)) j x) }
