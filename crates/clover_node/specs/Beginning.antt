-- A call as a node starts it, and where it does not.
use Rattle.std.specs.Prelude.{◌≡◌, ◌≢◌, ℕ, ◌*◌, ◌<◌, ◌≤◌, List, [], slice_get, true}
use Rattle.clover_words.specs.declared.bytes.ValueBuf.{ValueBuf}
use Rattle.clover_map.specs.History.{key_of}
use Rattle.clover_map.specs.declared.call.Call.{Call}
use Rattle.clover_map.specs.declared.call.Call.TheVariants.{Get, Put, Delete, Swap}
use Rattle.clover_rule.specs.Lists.{Within}
use Rattle.clover_rule.specs.declared.view.View.{View}
use Rattle.clover_dir.specs.Names.{IsNew}
use Rattle.clover_call.specs.Beginning.{Starts, given_number, size_of}
use Rattle.clover_node.specs.Going.{IsOpen}
use Rattle.clover_node.specs.Node.{NodeState, NodeHolds, IsIdle, node_first}
use Rattle.clover_node.specs.declared.answer.NodeRefusal.{NodeRefusal}
use Rattle.clover_node.specs.declared.answer.NodeRefusal.TheVariants.{TooLong, NeedsStock}
use Rattle.clover_node.specs.declared.counting.Counting.{Counting}
use Rattle.clover_node.specs.declared.counting.Counting.TheVariants.{Names, Absence}

-- how many bytes a value may have
abbrev pub room_of : NodeState → ℕ
room_of n = 8 * n.caller.pool.words

-- the key has a slot in the node's copy
abbrev pub IsNamed : NodeState → List ℕ → Type 0
IsNamed n key = (slot : ℕ) × Within (slot, key) n.names

-- the call may commit a version of the node's before any names are handed to it: it is a put, or writes on a known key
abbrev pub NeedsBuffer : NodeState → Call → Type 0
NeedsBuffer n (Get key) = ⊥
NeedsBuffer n (Put key value) = Unit {0}
NeedsBuffer n (Delete key) = IsNamed n key
NeedsBuffer n (Swap key expected value) = IsNamed n key

-- why a call does not start: its value has more bytes than there is room for; else it needs a buffer, and the stock is empty
abbrev pub Refuses : NodeState → Call → NodeRefusal → Type 0
Refuses n call (TooLong length room) = (length ≡ size_of call) × (room ≡ room_of n) × (room_of n < size_of call)
Refuses n call NeedsStock = (size_of call ≤ room_of n) × (n.stock ≡ []) × NeedsBuffer n call
Refuses n call y = ⊥

-- the tag for a call's version: the first of the stock; a get takes none
abbrev pub own_tag : NodeState → Call → ℕ
own_tag n (Get key) = 0
own_tag n call = given_number (slice_get n.stock 0)

-- what a call whose key is not known loads the count for
abbrev pub counts_for : Call → Counting
counts_for (Put key value) = Names
counts_for call = Absence

-- The node n has started the call: no cause of a refusal is there; on the slot of its key, with the first tag of the stock, or where the key is not in the copy by the load of the count. Nothing is committed, and stock and names stay. What its client held before still holds, of this call now.
pub record NodeStarts (n : NodeState) (call : Call) (n1 : NodeState) : Type 0 where
  pub fits : size_of call ≤ room_of n
  pub stocked : NeedsBuffer n call → n.stock ≢ []
  pub named : (slot : ℕ) → Within (slot, key_of call) n.names → (n1 ≡ record n { caller = n1.caller }) × Starts n.caller slot (own_tag n call) call n1.caller
  pub unnamed : IsNew (key_of call) n.names → n1 ≡ record n { counting = counts_for call }
  pub kept : n1 ≡ record n { caller = n1.caller; counting = n1.counting }
  pub uncommitted : IsOpen n1.caller.under
  pub busy : IsIdle n1 → ⊥
  pub first : node_first n1 ≡ true
  pub holds : (other : Call) (v : View) (room : ValueBuf) → NodeHolds n other v room → NodeHolds n1 call v room
