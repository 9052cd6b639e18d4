-- What a client remembers: its cursors behind one record more, and at which cursor its next call may begin.
use Prim.Native.Nat.{suc}
use Rattle.std.proofs.Common.{◌≡◌, ◌≢◌, ℕ, List, [], ◌∷◌, Bool, true, false, inl, inr, refl, sym, ap, ◌∙◌, subst, eq-eqb, ne_eqb}
use Rattle.std.specs.Prelude.{Option, Some, None, IfSome, MatchOption, if◌then◌else◌}
use Rattle.std.proofs.lemmas.List.Elements.{All-nil, All-weaker}
use Rattle.std.specs.Cmp.{nat_eq_equiv}
use Rattle.clover_words.specs.Tag.{TagParts, tag_number}
use Rattle.clover_words.specs.declared.pool.Pool.{Pool}
use Rattle.clover_map.specs.History.{key_of}
use Rattle.clover_map.specs.declared.bytes.Value.{Value}
use Rattle.clover_map.specs.declared.call.Call.{Call}
use Rattle.clover_map.specs.declared.call.Entry.{Entry}
use Rattle.clover_map.specs.declared.call.Reply.{Reply}
use Rattle.clover_script.specs.declared.line.Task.{Task}
use Rattle.clover_script.specs.declared.line.Task.TheVariants.{Client as ClientTask}
use Rattle.clover_rule.specs.Lists.{Within}
use Rattle.clover_rule.specs.declared.access.Access.{Access}
use Rattle.clover_rule.specs.declared.view.View.{View}
use Rattle.clover_walk.specs.Standing.{number_of}
use Rattle.clover_walk.specs.Walking.{key_at}
use Rattle.clover_cache.specs.Node.{Known, cursor_at, asked, IsSet}
use Rattle.clover_cache.proofs.Known.{held_at, last-asked, All-asked, All-set_cursor}
use Rattle.clover_put.specs.Putting.{call_of}
use Rattle.clover_put.specs.declared.job.Job.{Job}
use Rattle.clover_put.specs.declared.job.Job.TheVariants.{Put, Delete, Swap}
use Rattle.clover_call.specs.Caller.{CallHolds, call_under, slot_of}
use Rattle.clover_call.specs.declared.under.Underway.{Underway}
use Rattle.clover_call.specs.declared.under.Underway.TheVariants.{Nothing, Get, Write}

pub key_of_call : (j : Job) (k : List ℕ) (x : Value) → key_of (call_of j k x) ≡ k
key_of_call Put k x = refl
key_of_call Delete k x = refl
key_of_call (Swap t) k x = refl
