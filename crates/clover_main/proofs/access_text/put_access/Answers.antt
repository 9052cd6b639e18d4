use Rattle.std.proofs.Common.{List, ℕ, ◌++◌, codes, ap, sym, append_assoc}
use Rattle.std.proofs.lemmas.Result.{err_from_is_err_and}
use Rattle.clover_event.specs.Text.{actor_text, act_text, came_text}
use Rattle.clover_main.proofs.Printing.{first_fails, then_said, then_fails}
use Rattle.clover_main.proofs.access_text.put_access.Goals as goal

pub returns-in_err-put_actor-clause-err : goal.returns-in_err-put_actor-clause-err
returns-in_err-put_actor-clause-err g c =
    let x : List ℕ = codes "a " ++ (actor_text c.args.access.now.actor ++ codes " ") in
    let y : List ℕ = act_text c.args.access.now.act ++ (came_text c.args.access.now.refused c.args.access.now.act ++ codes "\n") in
    let p = err_from_is_err_and c.from_residual.result c.from_residual.ensures.1 in
    rw p.1 (first_fails _ _ _ x y _ (ap (λ (l : List ℕ). codes "a " ++ l) (sym (append_assoc (actor_text c.args.access.now.actor) (codes " ") (act_text c.args.access.now.act ++ (came_text c.args.access.now.refused c.args.access.now.act ++ codes "\n"))))) c.in_err-put_actor.ensures.err)

pub returns-clause-ok : goal.returns-clause-ok
returns-clause-ok g c =
    let x : List ℕ = codes "a " ++ (actor_text c.args.access.now.actor ++ codes " ") in
    let y : List ℕ = act_text c.args.access.now.act ++ (came_text c.args.access.now.refused c.args.access.now.act ++ codes "\n") in
    then_said c.put_done.result _ _ _ _ _ _ x y _ (ap (λ (l : List ℕ). codes "a " ++ l) (sym (append_assoc (actor_text c.args.access.now.actor) (codes " ") (act_text c.args.access.now.act ++ (came_text c.args.access.now.refused c.args.access.now.act ++ codes "\n"))))) c.in_ok-put_actor.ensures.ok c.put_done.ensures.ok

pub returns-clause-err : goal.returns-clause-err
returns-clause-err g c =
    let x : List ℕ = codes "a " ++ (actor_text c.args.access.now.actor ++ codes " ") in
    let y : List ℕ = act_text c.args.access.now.act ++ (came_text c.args.access.now.refused c.args.access.now.act ++ codes "\n") in
    then_fails c.put_done.result _ _ _ _ _ x y _ (ap (λ (l : List ℕ). codes "a " ++ l) (sym (append_assoc (actor_text c.args.access.now.actor) (codes " ") (act_text c.args.access.now.act ++ (came_text c.args.access.now.refused c.args.access.now.act ++ codes "\n"))))) c.in_ok-put_actor.ensures.ok c.put_done.ensures.err
