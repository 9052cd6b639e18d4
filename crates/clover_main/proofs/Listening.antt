-- what a script says is heard line by line, and each line may be run
use Rattle.std.proofs.Common.{ℕ, List, [], ◌∷◌, ◌++◌, map, refl, ap, subst, sym, inl, inr, arith}
use Rattle.std.specs.Prelude.{All}
use Rattle.std.proofs.lemmas.List.{length-take}
use Rattle.std.proofs.lemmas.List.Elements.{All-head, All-tail}
use Rattle.clover_words.specs.declared.setup.Setup.{Setup}
use Rattle.clover_map.specs.declared.call.Call.{Call}
use Rattle.clover_map.specs.declared.call.Call.TheVariants.{Get, Put, Delete, Swap}
use Rattle.clover_script.specs.Line.{lines_of, pool_line, numbers_of, IsClientCall, Asked, client, recycle, sweep, IsAsked, cut_call, written, kept_task, Spoken, says_begin, says_step, says_finish, says_call, says_refuse, says_cut, says_image, IsSpoken, IsOfCuts, kept_line, IsLineOf, IsNoLine, IsIgnored}
use Rattle.clover_script.specs.Lines.{Say, IsLinesOf}
use Rattle.clover_script.specs.declared.line.Line.{Line}
use Rattle.clover_script.specs.declared.line.PoolLine.{PoolLine}
use Rattle.clover_script.proofs.SpokenLemmas.{no_pool, not_ignored}
use Rattle.clover_event.specs.Client.{IsCallTask}
use Rattle.clover_run.specs.Machine.{IsTaskOfActor}
use Rattle.clover_run.specs.Running.{MayRun}
use Rattle.clover_main.specs.Cuts.{IsUncut}
use Rattle.clover_main.specs.Hearing.{Heard}

-- a line that is passed over is no actor's, and neither is a pool line
pub over_none : (text : List ℕ) → IsIgnored text → IsNoLine text
over_none text over spoken is e = not_ignored spoken (subst IsIgnored e over)

pool_none : (n : PoolLine) → IsNoLine (pool_line n)
pool_none n spoken is e = no_pool spoken n (sym e)

say_heard : (texts : List (List ℕ)) (said : List Spoken) → Say texts said → Heard texts (map kept_line said)
say_heard [] said h = ap (map kept_line) h
say_heard (t ∷ ts) said (inl (over, more)) = inl (over_none t over, say_heard ts said more)
say_heard (t ∷ ts) said (inr (s, rest, is, e, f, more)) = inr (kept_line s, map kept_line rest, (s, is, e, refl), ap (map kept_line) f, say_heard ts rest more)

over_heard : (over rest : List (List ℕ)) (lines : List Line) → All IsIgnored over → Heard rest lines → Heard (over ++ rest) lines
over_heard [] rest lines all heard = heard
over_heard (t ∷ ts) rest lines all heard = inl (over_none t (All-head IsIgnored t ts all), over_heard ts rest lines (All-tail IsIgnored t ts all) heard)

-- the lines of a script are heard
pub lines_heard : (text : List ℕ) (s : Setup) (said : List Spoken) → IsLinesOf text s said → Heard (lines_of text) (map kept_line said)
lines_heard text s said opens =
    subst (λ (ts : List (List ℕ)). Heard ts (map kept_line said)) (sym opens.parts)
    (over_heard opens.over (pool_line (numbers_of s) ∷ opens.rest) (map kept_line said) opens.ignored (inl (pool_none (numbers_of s), say_heard opens.rest said opens.say)))

is_task : (c : Call) → IsClientCall c → IsCallTask (cut_call c) (written c)
is_task (Get k) is = (omega arith, tt)
is_task (Put k v) is = (omega (arith, length-take 1024 v.bytes), tt)
is_task (Delete k) is = (omega arith, tt)
is_task (Swap k e v) is = (omega (arith, length-take 1024 v.bytes), is.1)

-- what an actor may be asked for is one of its tasks
may_ask : (a : ℕ) (asked : Asked) → IsAsked a asked → IsTaskOfActor a (kept_task asked)
may_ask a (client call) is = (is.0, is_task call is.2)
may_ask a (recycle slot) is = is.0
may_ask a sweep is = is

may_say : (s : Spoken) → IsSpoken s → (IsOfCuts s → ⊥) → MayRun (kept_line s)
may_say (says_begin a asked) is uncut = may_ask a asked is
may_say (says_step a n) is uncut = tt
may_say (says_finish a) is uncut = tt
may_say (says_call a asked) is uncut = may_ask a asked is
may_say (says_refuse a) is uncut = tt
may_say (says_cut choice more) is uncut = uncut tt
may_say (says_image choice) is uncut = uncut tt

-- a line that a text says may be run, if it asks for no power cut
pub line_may : (text : List ℕ) (line : Line) → IsUncut text → IsLineOf text line → MayRun line
line_may text line uncut (spoken, is, e, kept) = subst MayRun (sym kept) (may_say spoken is (λ of. uncut (spoken, of, is, e)))
