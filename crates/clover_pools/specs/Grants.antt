-- A small pool between the run's begin and the client's first call: the server hands a batch to the client and its node, binds a key, and hands over its name.
use Rattle.std.specs.Prelude.{◌≡◌, ℕ, ◌≤◌, List, [], ◌∷◌, length, Some}
use Rattle.clover_rule.specs.Asks.{IsAt}
use Rattle.clover_rule.specs.Moves.{giving}
use Rattle.clover_rule.specs.Views.{root_at}
use Rattle.clover_rule.specs.declared.view.ServerTask.TheVariants.{Idle}
use Rattle.clover_rule.specs.declared.view.View.{View}
use Rattle.clover_plain.specs.Plain.{Plain, first_view, view_at}
use Rattle.clover_words.specs.Tag.{TagParts}
use Rattle.clover_words.specs.declared.setup.Setup.{Setup}
use Rattle.clover_alloc.specs.Ledger.{Ledger, IsLedger, new_ledger}
use Rattle.clover_alloc.specs.Taking.{Takes}
use Rattle.clover_node.specs.Node.{NodeState}
use Rattle.clover_pools.specs.Calls.{Stands}
use Rattle.clover_pools.specs.Small.{IsReady, IsSmall}

-- nothing was entered yet
pub record IsNew (p : Plain) : Type 0 where
  pub ready : IsReady p
  pub small : IsSmall p
  pub entries : p.entries ≡ []

-- the run begins
pub record IsBegun (p : Plain) : Type 0 where
  pub new : IsNew p
  pub client : view_at p 0 ≡ first_view p.setup 0
  pub server : view_at p 1 ≡ first_view p.setup 1

-- the first two buffers at generation 0
abbrev pub batch : List ℕ
batch = 0 ∷ 1048576 ∷ []

-- the name of slot 0
abbrev pub name : List (ℕ × List ℕ)
name = (0, 97 ∷ []) ∷ []

-- the server's books as the run begins, and once they have given the batch
pub record AreNew (s : Setup) (books : Ledger) : Type 0 where
  pub value : books ≡ new_ledger s.pool
  pub whole : IsLedger books

pub record HaveGiven (s : Setup) (books : Ledger) : Type 0 where
  pub before : Ledger
  pub new : AreNew s before
  pub tags : List TagParts
  pub takes : Takes before 2 tags books

-- the client has the batch
pub record IsDealt (p : Plain) : Type 0 where
  pub new : IsNew p
  pub server : view_at p 1 ≡ giving batch (first_view p.setup 1)

-- the node of a client to which no name was handed, and so many buffers at most
pub record IsNameless (p : Plain) (n : NodeState) : Type 0 where
  pub stands : Stands p n
  pub names : n.names ≡ []
  pub stock : length n.stock ≤ 2

-- the server is idle, and slot 0 is bound to `a`, with the tombstone in buffer 2 as its root version
pub record HasRoot (v : View) : Type 0 where
  pub idle : IsAt v Idle
  pub root : root_at v.server 0 ≡ Some 2097152
  pub directory : v.server.directory ≡ name

-- besides, nothing was entered yet
pub record IsBoundOnce (p : Plain) : Type 0 where
  pub new : IsNew p
  pub server : HasRoot (view_at p 1)
