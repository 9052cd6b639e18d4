use Rattle.std.proofs.Common.{◌≡◌, ◌⊎◌, ℕ, Bool, false, List, ◌++◌, codes, ap, sym, ◌∙◌, inl, inr}
use Rattle.clover_words.specs.declared.word.Word.{Word}
use Rattle.clover_rule.specs.declared.access.Act.{Act}
use Rattle.clover_rule.specs.declared.access.Act.TheVariants.{Exchange, Raise}
use Rattle.clover_event.specs.Text.{back_text, came_text}
use Rattle.clover_main.proofs.Printing.{same_said, same_fails}
use Rattle.clover_main.proofs.access_text.put_came.Goals as goal

-- what was there before comes back of an exchange and of a raise
came_old : (x : Act) (n : ℕ) → ((w : Word) × (expected : ℕ) × (new : ℕ) × (x ≡ Exchange w expected new n)) ⊎ ((w : Word) × (value : ℕ) × (x ≡ Raise w value n)) → came_text false x ≡ back_text n
came_old x n (inl h) = ap (came_text false) h.3
came_old x n (inr h) = ap (came_text false) h.2

-- the end of the line behind what came back of an access that was not refused
came_end : (refused : Bool) (x : Act) (back : List ℕ) → refused ≡ false → came_text false x ≡ back → back ++ codes "\n" ≡ came_text refused x ++ codes "\n"
came_end refused x back made e = ap (λ l. l ++ codes "\n") (sym e) ∙ ap (λ (b : Bool). came_text b x ++ codes "\n") (sym made)

pub returns-in-Load-clause-ok : goal.returns-in-Load-clause-ok
returns-in-Load-clause-ok g c =
    same_said c.put_back.result _ _ _ _ _ _ (came_end c.args.refused c.args.act.now (back_text c.in-Load.got) c.if-refused.false (ap (came_text false) c.in-Load.is)) c.put_back.ensures.ok

pub returns-in-Load-clause-err : goal.returns-in-Load-clause-err
returns-in-Load-clause-err g c =
    same_fails c.put_back.result _ _ _ _ _ (came_end c.args.refused c.args.act.now (back_text c.in-Load.got) c.if-refused.false (ap (came_text false) c.in-Load.is)) c.put_back.ensures.err

pub returns-in-Exchange-clause-ok : goal.returns-in-Exchange-clause-ok
returns-in-Exchange-clause-ok g c =
    same_said c.put_back-in-Exchange.result _ _ _ _ _ _ (came_end c.args.refused c.args.act.now (back_text c.in-Exchange.old) c.if-refused.false (came_old c.args.act.now c.in-Exchange.old c.in-Exchange.is)) c.put_back-in-Exchange.ensures.ok

pub returns-in-Exchange-clause-err : goal.returns-in-Exchange-clause-err
returns-in-Exchange-clause-err g c =
    same_fails c.put_back-in-Exchange.result _ _ _ _ _ (came_end c.args.refused c.args.act.now (back_text c.in-Exchange.old) c.if-refused.false (came_old c.args.act.now c.in-Exchange.old c.in-Exchange.is)) c.put_back-in-Exchange.ensures.err
