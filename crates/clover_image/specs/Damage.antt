-- What it is for a word of an image to break a rule, and where the first one is that does.
use Rattle.std.specs.Prelude.{◌≡◌, ◌≢◌, ℕ, ◌*◌, ◌/◌, ◌%◌, ◌<◌, ◌≤◌, List, take, true, Option, Some, None}
use Rattle.std.specs.Int.{w64, to_be_bytes}
use Rattle.clover_words.specs.declared.pool.Pool.{Pool}
use Rattle.clover_words.specs.declared.word.Buffer.{Buffer}
use Rattle.clover_words.specs.declared.word.Word.TheVariants.{Next, Meta, Value, Root, Key}
use Rattle.clover_words.specs.Meta.{MetaParts, IsMeta, meta_word}
use Rattle.clover_words.specs.Pack.{packed}
use Rattle.clover_words.specs.Place.{buffer_of}
use Rattle.clover_words.specs.Tag.{TagParts, tag_number, home, age}
use Rattle.clover_words.specs.Version.{buffer_at}
use Rattle.clover_map.specs.Key.{IsKey}
use Rattle.clover_rule.specs.Content.{InRange, Spells}
use Rattle.clover_rule.specs.Memory.{gen}
use Rattle.clover_rule.specs.Told.{IsShown}
use Rattle.clover_image.specs.declared.damage.Damage.{Damage}
use Rattle.clover_image.specs.declared.damage.DamageRule.TheVariants.{Next as NextRule, Root as RootRule, Key as KeyRule, SameKey, Generation, Twice, Meta as MetaRule, Padding}
use Rattle.clover_image.specs.declared.damage.SoundFault.{SoundFault}
use Rattle.clover_image.specs.declared.damage.SoundFault.TheVariants.{Damaged, OutOfMemory}
use Rattle.clover_image.specs.Image.{PoolImage}
use Rattle.clover_image.specs.Reading.{HasKey, decoded, number_in, of_value}
use Rattle.clover_image.specs.Walking.{IsMet, IsWalked}

-- the target, where there is one, is a tag of the pool below the wear
abbrev pub LinkHolds : Pool → Option TagParts → Type 0
LinkHolds p None = Unit {0}
LinkHolds p (Some t) = InRange p (tag_number t)

-- the next word decodes, its own generation is at most the wear, and its target is a tag of the pool below the wear
pub record NextHolds (m : PoolImage) (b : Buffer) : Type 0 where
  pub shown : IsShown m.pool (Next b) (number_in m (Next b))

-- the root decodes, and its target is a tag of the pool below the wear
pub record RootHolds (m : PoolImage) (s : ℕ) : Type 0 where
  pub shown : IsShown m.pool (Root s) (number_in m (Root s))

-- it does not hold at n, and holds at all below
abbrev pub IsFirstAt : (ℕ → Type 0) → ℕ → Type 0
IsFirstAt P n = ((i : ℕ) → i < n → P i) × (P n → ⊥)

-- the first next word that does not hold
pub record NextDamage (m : PoolImage) (d : Damage) : Type 0 where
  pub number : ℕ
  pub within : number < m.pool.nodes * m.pool.buffers
  pub first : IsFirstAt (λ i. NextHolds m (buffer_of m.pool i)) number
  pub named : d ≡ record { rule = NextRule; word = Next (buffer_of m.pool number) }

-- the first root that does not hold
pub record RootDamage (m : PoolImage) (d : Damage) : Type 0 where
  pub slot : ℕ
  pub within : slot < m.pool.slots
  pub first : IsFirstAt (RootHolds m) slot
  pub named : d ≡ record { rule = RootRule; word = Root slot }

-- each next word holds, and each root
abbrev pub NextsHold : PoolImage → Type 0
NextsHold m = (i : ℕ) → i < m.pool.nodes * m.pool.buffers → NextHolds m (buffer_of m.pool i)

abbrev pub RootsHold : PoolImage → Type 0
RootsHold m = (s : ℕ) → s < m.pool.slots → RootHolds m s

-- where the slot has a root it has a key, and no earlier slot with a root has the same
pub record KeyHolds (m : PoolImage) (s : ℕ) : Type 0 where
  pub own : (t : ℕ) → (decoded m).root s ≡ Some t → HasKey (decoded m) s
  pub new : (s1 t1 t : ℕ) (k : List ℕ) → s1 < s → (decoded m).root s1 ≡ Some t1 → (decoded m).root s ≡ Some t → IsKey k → Spells ((decoded m).key s1) k → Spells ((decoded m).key s) k → ⊥

-- each key holds
abbrev pub KeysHold : PoolImage → Type 0
KeysHold m = (s : ℕ) → s < m.pool.slots → KeyHolds m s

-- the slot has a root, and no key
pub record LacksKey (m : PoolImage) (s : ℕ) : Type 0 where
  pub tag : ℕ
  pub root : (decoded m).root s ≡ Some tag
  pub none : HasKey (decoded m) s → ⊥

-- the slot has a root, and the key of an earlier slot with one
pub record SharesKey (m : PoolImage) (s : ℕ) : Type 0 where
  pub tag : ℕ
  pub root : (decoded m).root s ≡ Some tag
  pub earlier : ℕ
  pub before : earlier < s
  pub earlier_tag : ℕ
  pub earlier_root : (decoded m).root earlier ≡ Some earlier_tag
  pub key : List ℕ
  pub is_key : IsKey key
  pub its : Spells ((decoded m).key earlier) key
  pub own : Spells ((decoded m).key s) key

-- what is wrong with the key of a slot
pub data KeyFault (m : PoolImage) (s : ℕ) (d : Damage) : Type 0 where
  lacks : LacksKey m s → d ≡ record { rule = KeyRule; word = Key s 0 } → KeyFault m s d
  shares : SharesKey m s → d ≡ record { rule = SameKey; word = Key s 0 } → KeyFault m s d

-- the first slot whose key does not hold
pub record KeyDamage (m : PoolImage) (d : Damage) : Type 0 where
  pub slot : ℕ
  pub within : slot < m.pool.slots
  pub before : (s : ℕ) → s < slot → KeyHolds m s
  pub fault : KeyFault m slot d

-- the meta word of the buffer says this, and a buffer has room for it
abbrev pub SaysMeta : PoolImage → Buffer → MetaParts → Type 0
SaysMeta m b n = IsMeta n × (meta_word n ≡ number_in m (Meta b)) × (n.length ≤ 8 * m.pool.words)

-- behind its first bytes, so many of them, the word has only zeros
abbrev pub IsPadded : ℕ → ℕ → Type 0
IsPadded word used = packed (take used (to_be_bytes w64 word)) 0 ≡ word

-- a value ends within a word that has something behind the end
pub record LacksPadding (m : PoolImage) (b : Buffer) (n : MetaParts) : Type 0 where
  pub says : SaysMeta m b n
  pub value : of_value n.kind ≡ true
  pub inside : 1 ≤ n.length % 8
  pub behind : IsPadded (number_in m (Value b (n.length / 8))) (n.length % 8) → ⊥

-- what is wrong with the content of a buffer
pub data ContentDamage (m : PoolImage) (b : Buffer) (d : Damage) : Type 0 where
  meta : ((n : MetaParts) → SaysMeta m b n → ⊥) → d ≡ record { rule = MetaRule; word = Meta b } → ContentDamage m b d
  padding : (n : MetaParts) → LacksPadding m b n → d ≡ record { rule = Padding; word = Value b (n.length / 8) } → ContentDamage m b d

-- what is wrong with a tag that a chain comes to, where Met says that its buffer was met before
pub data TagFault (m : PoolImage) (t : ℕ) (Met : Type 0) (d : Damage) : Type 0 where
  generation : gen ((decoded m).next (home t)) ≢ age t → d ≡ record { rule = Generation; word = Next (buffer_at (home t)) } → TagFault m t Met d
  twice : gen ((decoded m).next (home t)) ≡ age t → Met → d ≡ record { rule = Twice; word = Next (buffer_at (home t)) } → TagFault m t Met d
  content : gen ((decoded m).next (home t)) ≡ age t → (Met → ⊥) → ContentDamage m (buffer_at (home t)) d → TagFault m t Met d

-- the first tag, slot by slot and along each chain, at which a chain breaks a rule
pub record ChainDamage (m : PoolImage) (slot : ℕ) (d : Damage) : Type 0 where
  pub tag : ℕ
  pub tags : ℕ → List ℕ
  pub walked : IsWalked m slot (Some tag) tags
  pub fault : TagFault m tag (IsMet tags tag) d

-- the first rule that an image breaks, in the order of the passes, and the first word at which it does
pub data Breaks (m : PoolImage) (d : Damage) : Type 0 where
  next : NextDamage m d → Breaks m d
  root : NextsHold m → RootDamage m d → Breaks m d
  key : NextsHold m → RootsHold m → KeyDamage m d → Breaks m d
  chain : NextsHold m → RootsHold m → KeysHold m → (slot : ℕ) → slot < m.pool.slots → ChainDamage m slot d → Breaks m d

-- P holds of the damage that a fault names; want of memory names none
abbrev pub IfDamaged : SoundFault → (Damage → Type 0) → Type 0
IfDamaged (Damaged d) P = P d
IfDamaged OutOfMemory P = Unit {0}
