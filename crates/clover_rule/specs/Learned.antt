-- What a step leaves: what its actor knows afterwards, the history, and the words.
use Prim.Native.Nat.{suc}
use Rattle.std.specs.Prelude.{ℕ, ◌+◌, ◌==◌, length, slice_index, slice_set, List, [], ◌∷◌, ◌++◌, Bool, Option, Some, None, max, if◌then◌else◌}
use Rattle.clover_words.specs.declared.pool.Pool.{Pool}
use Rattle.clover_words.specs.Place.{address_of}
use Rattle.clover_words.specs.Tag.{home, age}
use Rattle.clover_words.specs.Version.{unlinked}
use Rattle.clover_map.specs.declared.call.Call.{Call}
use Rattle.clover_map.specs.declared.call.Reply.{Reply}
use Rattle.clover_map.specs.declared.call.Reply.TheVariants.{Absent}
use Rattle.clover_map.specs.declared.call.Entry.{Entry}
use Rattle.clover_rule.specs.Asks.{key_words}
use Rattle.clover_rule.specs.Knowing.{link_entry, link_view, stored_view, flushed_view}
use Rattle.clover_rule.specs.Memory.{Next, word}
use Rattle.clover_rule.specs.Steps.{Step, LoadNext, DecideNext, RaiseNext, LinkNext, StoreContent, FlushContent, LoadContent, ReadRoot, ReadShort, StoreShort, ReadCount, AbsentCount, ReadVersion, FlushLink, StoreRoot, FlushRoot, PassRoot, FreeRoot, StoreTombstone, FlushTombstone, StoreKey, FlushKey, BindRoot, FlushBoundRoot, StoreCount, Restart, word_of, side_of, becomes, act_of, client, reply_of}
use Rattle.clover_rule.specs.Views.{raise_view, shown, line, free_or_worn}
use Rattle.clover_rule.specs.Words.{next_of, root_of}
use Rattle.clover_rule.specs.declared.access.Act.{Act}
use Rattle.clover_rule.specs.declared.view.BufferState.TheVariants.{Bound, Out}
use Rattle.clover_rule.specs.declared.view.NewBinding.{NewBinding}
use Rattle.clover_rule.specs.declared.view.Recycling.{Recycling}
use Rattle.clover_rule.specs.declared.view.ServerTask.{ServerTask}
use Rattle.clover_rule.specs.declared.view.ServerTask.TheVariants.{Idle, Storing, Rooted, Waiting, Loaded, Raised, Led, Both, Exchanged}
use Rattle.clover_rule.specs.declared.view.View.{View}

-- a next word that a tag of a slot showed
abbrev pub seen : ℕ → ℕ → View → Next → View
seen s t v (word a None) = record v { pass = record v.pass { words = shown (home t) a None ∷ v.pass.words } }
seen s t v (word a (Some u)) = record v { pass = record v.pass { words = shown (home t) a (Some u) ∷ v.pass.words; links = (if a == age t then record { slot = s; from = t; to = u } ∷ v.pass.links else v.pass.links) } }

-- a call that the tail decided
abbrev pub decided : View → List Entry → ℕ → Call → Reply → View
decided v h t c r = record v { pass = record v.pass { calls = v.pass.calls ++ link_entry v (client v) c r ∷ []; history = h ++ link_entry v (client v) c r ∷ []; words = shown (home t) (age t) None ∷ v.pass.words } }

-- a count that was loaded
abbrev pub counts : View → ℕ → View
counts v x = record v { pass = record v.pass { most = max v.pass.most x } }

-- a call that the count decided
abbrev pub missed : View → List Entry → Call → ℕ → View
missed v h c x = record v { pass = record v.pass { calls = v.pass.calls ++ link_entry v (client v) c Absent ∷ []; history = h ++ link_entry v (client v) c Absent ∷ []; most = max v.pass.most x } }

-- a root or a shortcut that was loaded
abbrev pub started : ℕ → View → Option ℕ → View
started s v None = v
started s v (Some t) = record v { pass = record v.pass { durable = (s, t) ∷ v.pass.durable } }

-- a list without its first element
abbrev pub rest_of : {A : Type 0} → List A → List A
rest_of [] = []
rest_of (x ∷ xs) = xs

-- the server's task has got so far
abbrev pub at_task : View → ServerTask → View
at_task v task = record v { server = record v.server { task = task } }

-- what a slot's root version showed: no version behind it, or the link with which a recycling begins
abbrev pub looked : ℕ → ℕ → View → Next → View
looked s r v (word a None) = record (seen s r v (word a None)) { server = record v.server { unlinked = s ∷ v.server.unlinked } }
looked s r v (word a (Some t)) = at_task (seen s r v (word a (Some t))) (Loaded (record { slot = s; root = r; next = t }))

-- the link of a recycling is flushed
abbrev pub link_flushed : View → Recycling → View
link_flushed v c = at_task (record v { pass = record v.pass { durable = (c.slot, c.next) ∷ v.pass.durable } }) (Raised c)

-- the old root version's buffer went on to its next generation
abbrev pub root_passed : View → Recycling → View
root_passed v c = at_task (record v { pass = record v.pass { words = shown (home c.root) (suc (age c.root)) None ∷ v.pass.words } }) (Exchanged c)

-- a recycling has ended: books and roots have the new root version, and the old one's buffer is free or worn
abbrev pub root_freed : ℕ → View → Recycling → View
root_freed wear v c = record v {
  server = record v.server {
    task = Idle;
    roots = (c.slot, c.next) ∷ v.server.roots;
    books = line (home c.root) (suc (age c.root)) (free_or_worn wear (suc (age c.root))) ∷ line (home c.next) (age c.next) Bound ∷ v.server.books;
  };
}

-- a binding has begun: its buffer is out
abbrev pub begun : View → NewBinding → View
begun v b = record v { server = record v.server { task = Storing b 1; books = line (home b.tag) (age b.tag) Out ∷ v.server.books } }

-- its root is stored: the directory has the binding, which waits for its last store
abbrev pub root_bound : View → NewBinding → View
root_bound v b = record v { server = record v.server { task = Rooted b; directory = v.server.directory ++ (b.slot, b.key) ∷ [] } }

-- it has ended: books and roots have its tombstone
abbrev pub entered : View → NewBinding → View
entered v b = record v { server = record v.server { task = Idle; roots = (b.slot, b.tag) ∷ v.server.roots; books = line (home b.tag) (age b.tag) Bound ∷ v.server.books } }

-- what the actor knows after the step, its counts aside
abbrev pub learned : Step → List Entry → View → ℕ → View
learned (LoadNext s t) h v x = seen s t v (next_of x)
learned (DecideNext s t c r) h v x = if x == unlinked t then decided v h t c r else seen s t v (next_of x)
learned (RaiseNext l) h v x = raise_view v l
learned (LinkNext s u t c) h v x = if x == unlinked u then link_view v h (client v) s u t c (reply_of t c) (rest_of v.pass.stock) else seen s u v (next_of x)
learned (StoreContent t j y) h v x = stored_view v t j y
learned (FlushContent t j y) h v x = flushed_view v t j y
learned (LoadContent s t j) h v x = record v { pass = record v.pass { copied = (s, record { tag = t; place = j; word = x }) ∷ v.pass.copied } }
learned (ReadRoot s) h v x = started s v (root_of x)
learned (ReadShort s) h v x = started s v (root_of x)
learned (StoreShort s t) h v x = v
learned ReadCount h v x = counts v x
learned (AbsentCount c) h v x = if x == length v.pass.names then missed v h c x else counts v x
learned (ReadVersion s r) h v x = looked s r v (next_of x)
learned (FlushLink c) h v x = link_flushed v c
learned (StoreRoot c) h v x = at_task v (Led c)
learned (FlushRoot c) h v x = at_task v (Both c)
learned (PassRoot c) h v x = root_passed v c
learned (FreeRoot c) h v x = root_freed v.pass.pool.wear v c
learned (StoreTombstone b) h v x = begun v b
learned (FlushTombstone b) h v x = at_task v (Storing b 2)
learned (StoreKey b j y) h v x = at_task v (Storing b (3 + j))
learned (FlushKey b j y) h v x = at_task v (Storing b (3 + j + key_words b))
learned (BindRoot b) h v x = root_bound v b
learned (FlushBoundRoot b) h v x = at_task v (Waiting b)
learned (StoreCount b n) h v x = entered v b
learned (Restart y) h v x = record v { plan = rest_of v.plan }

-- the history after the step
abbrev pub next_history : Step → List Entry → View → ℕ → List Entry
next_history (DecideNext s t c r) h v x = if x == unlinked t then h ++ link_entry v (client v) c r ∷ [] else h
next_history (LinkNext s u t c) h v x = if x == unlinked u then h ++ link_entry v (client v) c (reply_of t c) ∷ [] else h
next_history (AbsentCount c) h v x = if x == length v.pass.names then h ++ link_entry v (client v) c Absent ∷ [] else h
next_history _ h v x = h

-- a turn: the next word of the tag that was followed is linked, or of another generation
abbrev pub turn_at : ℕ → ℕ → ℕ
turn_at t x = if x == unlinked t then 0 else 1

-- the turns of a step
abbrev pub turn_of : Step → ℕ → ℕ
turn_of (LoadNext s t) x = turn_at t x
turn_of (DecideNext s t c r) x = turn_at t x
turn_of (LinkNext s u t c) x = turn_at u x
turn_of _ x = 0

-- one access more, the first of its call or a later one
abbrev pub counted : Bool → Act → ℕ → View → View
counted first act n v = record v {
  pass = record v.pass {
    since = (if first then [] else v.pass.since) ++ act ∷ [];
    turns = (if first then 0 else v.pass.turns) + n;
    all_turns = v.pass.all_turns + n;
    made = suc v.pass.made;
  };
}

-- the view after the step
abbrev pub next_view : Bool → Step → List Entry → View → ℕ → View
next_view first a h v x = counted first (act_of a x) (turn_of a x) (learned a h v x)

-- the number that the step finds
abbrev pub found : Pool → Step → List ℕ → ℕ
found p a ws = slice_index ws (address_of p (word_of a) (side_of a))

-- the words after the step
abbrev pub words_after_step : Pool → Step → List ℕ → List ℕ
words_after_step p a ws = slice_set ws (address_of p (word_of a) (side_of a)) (becomes a (found p a ws))
