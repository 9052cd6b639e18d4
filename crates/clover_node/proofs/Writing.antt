-- A call that writes, as its job, its flags and its bytes say: its key, its size, and the buffer that it needs.
use Rattle.std.proofs.Common.{◌≡◌, ℕ, ◌≤◌, List, [], ◌∷◌, length, refl, arith}
use Rattle.std.specs.Prelude.{None, Result, Ok, Err, OnOk, slice_get}
use Rattle.clover_words.specs.Tag.{TagParts}
use Rattle.clover_map.specs.History.{key_of}
use Rattle.clover_map.specs.declared.bytes.Value.{Value}
use Rattle.clover_rule.specs.Lists.{Within}
use Rattle.clover_put.specs.Putting.{call_of}
use Rattle.clover_put.specs.declared.job.Job.{Job}
use Rattle.clover_put.specs.declared.job.Job.TheVariants.{Put, Delete, Swap}
use Rattle.clover_dir.specs.Names.{IsNew}
use Rattle.clover_call.specs.Beginning.{given_number, size_of}
use Rattle.clover_node.specs.Beginning.{NeedsBuffer, own_tag}
use Rattle.clover_node.specs.Node.{NodeState}

pub write_key : (j : Job) (key : List ℕ) (value : Value) → key_of (call_of j key value) ≡ key
write_key Put key value = refl
write_key Delete key value = refl
write_key (Swap t) key value = refl

pub write_size : (j : Job) (key : List ℕ) (value : Value) → size_of (call_of j key value) ≤ length value.bytes
write_size Put key value = omega arith
write_size Delete key value = omega arith
write_size (Swap t) key value = omega arith

-- on a known key it needs a buffer
pub needs_named : (n : NodeState) (j : Job) (key : List ℕ) (value : Value) (slot : ℕ) → Within (slot, key) n.names → NeedsBuffer n (call_of j key value)
needs_named n Put key value slot at = tt
needs_named n Delete key value slot at = (slot, at)
needs_named n (Swap t) key value slot at = (slot, at)

-- on a new one a put alone does
pub needs_new : (n : NodeState) (j : Job) (key : List ℕ) (value : Value) → IsNew key n.names → NeedsBuffer n (call_of j key value) → j ≡ Put
needs_new n Put key value new needs = refl
needs_new n Delete key value new (slot, at) = absurd (new slot at)
needs_new n (Swap t) key value new (slot, at) = absurd (new slot at)

pub write_tag : (n : NodeState) (j : Job) (key : List ℕ) (value : Value) → own_tag n (call_of j key value) ≡ given_number (slice_get n.stock 0)
write_tag n Put key value = refl
write_tag n Delete key value = refl
write_tag n (Swap t) key value = refl

-- a stock without a first tag is empty
pub no_first : (ts : List TagParts) → None ≡ slice_get ts 0 → ts ≡ []
no_first [] e = refl
no_first (t ∷ ts) e = absurd cc

-- what is said where a result is good
pub on_ok : {X E A B : Type 0} (r : Result X E) → (A → B) → OnOk r A → OnOk r B
on_ok (Ok x) f a = f a
on_ok (Err e) f a = tt
