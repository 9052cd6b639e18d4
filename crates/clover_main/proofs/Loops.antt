-- records behind records: what is left of a line, and line behind line
use Rattle.std.proofs.Common.{◌≡◌, inl, inr, ℕ, Bool, true, List, [], ◌∷◌, ◌++◌, length, Option, Some, refl, ap, subst, sym, ◌∙◌, arith, append-nil, append_assoc}
use Rattle.std.specs.Prelude.{◌==◌}
use Rattle.clover_script.specs.Line.{lines_of, IsLineOf, IsNoLine}
use Rattle.std.proofs.lemmas.Bool.Decides.{nat_tests}
use Rattle.clover_script.specs.declared.line.Line.{Line}
use Rattle.clover_script.proofs.SpokenLemmas.{one_line}
use Rattle.clover_run.specs.Folds.{listed_in}
use Rattle.clover_run.specs.Lines.{CoversLine, Covers}
use Rattle.clover_run.specs.Machine.{Parts, Continues, IsAt}
use Rattle.clover_run.specs.Record.{Record}
use Rattle.clover_run.specs.Run.{Opening}
use Rattle.clover_run.specs.Running.{steps_line, Advances, Comes, IsLeft, IsPartOrAll}
use Rattle.clover_run.specs.declared.runner.Advance.{Advance}
use Rattle.clover_run.specs.declared.runner.Work.{Work}
use Rattle.clover_run.proofs.Remainders.{left_then, part_then}
use Rattle.clover_main.specs.Beginnings.{IsBegun, CoversFront}
use Rattle.clover_main.specs.Hearing.{Heard}
use Rattle.clover_run.specs.Lawful.{IsLawful}
use Rattle.clover_main.specs.Running.{Ran, Runs, Fails, Stops, IsSaidBy, IsPartOfSaid, Reaches}
use Rattle.clover_main.specs.declared.output.Stop.{Stop}
use Rattle.clover_run.proofs.Following.{lawful_at}
use Rattle.clover_main.proofs.Pieces.{ran_then, fails_then, ran_nothing}

pub continues_then : (m n k : Parts) → Continues m n → Continues n k → Continues m k
continues_then m n k f g = record { setup = g.setup ∙ f.setup; traced = g.traced ∙ f.traced }

-- an event of a line was made, and what it came to was said
module _ (m n : Parts) (l : Line) (came : Option Advance) (listed : ℕ) (adv : Advances m n l came) (has : (o : Opening) (rs : List Record) → IsAt o m rs → listed ≡ length (listed_in o.listed m.pool.traced rs)) where
  has_listed : (o : Opening) (rs : List Record) → IsAt o m rs → listed ≡ length (listed_in o.listed n.pool.traced rs)
  has_listed o rs at = has o rs at ∙ ap (λ t. length (listed_in o.listed t rs)) (sym adv.goes_on.traced)

  pub told_runs : (a b : Option (List ℕ)) (w v : List ℕ) (left : Option Work)
      → ((o : Opening) (rs more : List Record) (line : Line) → IsAt o n (rs ++ more) → Comes line came rs more → listed ≡ length (listed_in o.listed n.pool.traced rs) → Ran o n.pool.traced rs n a b w v (IsLeft line left rs)) → Runs m n a b w v (IsLeft l left)
  told_runs a b w v left tells = record {
    goes_on = adv.goes_on;
    ran = λ o rs at. let x = adv.ran o rs at in subst (λ t. Ran o t rs n a b w v (IsLeft l left rs)) adv.goes_on.traced (tells o rs x.0 l x.1 x.2 (has_listed o rs at));
  }

  pub told_stops : (stop : Stop) (a b : Option (List ℕ)) (w : List ℕ)
      → ((o : Opening) (rs more : List Record) (line : Line) → IsLawful o rs → IsAt o n (rs ++ more) → Comes line came rs more → listed ≡ length (listed_in o.listed n.pool.traced rs) → Fails o n.pool.traced rs stop a b w (IsPartOrAll line rs)) → Stops m stop a b w (IsPartOrAll l)
  told_stops stop a b w tells o rs at = let x = adv.ran o rs at in subst (λ t. Fails o t rs stop a b w (IsPartOrAll l rs)) adv.goes_on.traced (tells o rs x.0 l (lawful_at o m rs at) x.1 x.2 (has_listed o rs at))

-- the first event of a line went on, and then what was left of it
pub left_next : (m n q : Parts) (a b c : Option (List ℕ)) (w v u : List ℕ) (l : Line) (k : Work) (left : Option Work) → Runs m n a b w v (IsLeft l (Some k)) → Runs n q b c v u (IsLeft (steps_line k) left) → Runs m q a c w u (IsLeft l left)
left_next m n q a b c w v u l k left x y = record {
  goes_on = continues_then m n q x.goes_on y.goes_on;
  ran = λ o rs at.
      let first = x.ran o rs at in
      let next = subst (λ t. Ran o t (rs ++ first.more) q b c v u (IsLeft (steps_line k) left (rs ++ first.more))) x.goes_on.traced (y.ran o (rs ++ first.more) first.at) in
      ran_then o m.pool.traced rs n q a b c w v u (IsLeft l (Some k) rs) (IsLeft (steps_line k) left (rs ++ first.more)) (IsLeft l left rs) first next (left_then l k left rs first.more next.more first.kind next.kind);
}

pub left_stop : (stop : Stop) (m n : Parts) (a b c : Option (List ℕ)) (w v : List ℕ) (l : Line) (k : Work) → Runs m n a b w v (IsLeft l (Some k)) → Stops n stop b c v (IsPartOrAll (steps_line k)) → Stops m stop a c w (IsPartOrAll l)
left_stop stop m n a b c w v l k x y o rs at =
    let first = x.ran o rs at in
    let next = subst (λ t. Fails o t (rs ++ first.more) stop b c v (IsPartOrAll (steps_line k) (rs ++ first.more))) x.goes_on.traced (y o (rs ++ first.more) first.at) in
    fails_then o m.pool.traced rs stop n a b c w v (IsLeft l (Some k) rs) (IsPartOrAll (steps_line k) (rs ++ first.more)) (IsPartOrAll l rs) first next (part_then l k rs first.more next.more first.kind next.kind)

pub covers_push : (ls : List Line) (l : Line) (before xs ys : List Record) → Covers ls before xs → CoversLine l (before ++ xs) ys → Covers (ls ++ l ∷ []) before (xs ++ ys)
covers_push [] l before xs ys h k = (ys, [], ap (λ z. z ++ ys) h ∙ sym (append-nil ys), subst (λ z. CoversLine l z ys) (ap (λ z. before ++ z) h ∙ append-nil before) k, refl)
covers_push (m ∷ ls) l before xs ys h k = (
  h.0,
  h.1 ++ ys,
  ap (λ z. z ++ ys) h.2 ∙ append_assoc h.0 h.1 ys,
  h.3,
  covers_push ls l (before ++ h.0) h.1 ys h.4 (subst (λ z. CoversLine l z ys) (ap (λ z. before ++ z) h.2 ∙ sym (append_assoc before h.0 h.1)) k),
)

not_both : (text : List ℕ) (l : Line) → IsNoLine text → IsLineOf text l → ⊥
not_both text l none (spoken, is, e, kept) = none spoken is e

-- what is heard of texts whose first is a line: that line, and the rest
pub heard_line : (text : List ℕ) (texts : List (List ℕ)) (todo : List Line) (l : Line) → Heard (text ∷ texts) todo → IsLineOf text l → (rest : List Line) × (todo ≡ l ∷ rest) × Heard texts rest
heard_line text texts todo l (inl (none, heard)) is = absurd (not_both text l none is)
heard_line text texts todo l (inr (first, rest, is1, e, heard)) is = (rest, e ∙ ap (λ (f : Line). f ∷ rest) (one_line text first l is1 is), heard)

-- and of texts whose first is none
pub heard_none : (text : List ℕ) (texts : List (List ℕ)) (todo : List Line) → Heard (text ∷ texts) todo → IsNoLine text → Heard texts todo
heard_none text texts todo (inl (no1, heard)) none = heard
heard_none text texts todo (inr (first, rest, is, e, heard)) none = absurd (not_both text first none is)

-- what a text says was run where its line was
pub said_runs : (m n : Parts) (a b : Option (List ℕ)) (w v : List ℕ) (text : List ℕ) (l : Line) → IsLineOf text l → Runs m n a b w v (CoversLine l) → Runs m n a b w v (IsSaidBy text)
said_runs m n a b w v text l is x = record {
  goes_on = x.goes_on;
  ran = λ o rs at. let y = x.ran o rs at in record { more = y.more; kind = inr (l, is, y.kind); at = y.at; says = y.says };
}

pub said_stops : (stop : Stop) (m : Parts) (a b : Option (List ℕ)) (w : List ℕ) (text : List ℕ) (l : Line) → IsLineOf text l → Stops m stop a b w (IsPartOrAll l) → Stops m stop a b w (IsPartOfSaid text)
said_stops stop m a b w text l is x o rs at = let y = x o rs at in record { more = y.more; kind = inr (l, is, y.kind); lawful = y.lawful; puts = y.puts }

begun_nothing : (ls : List Line) (before : List Record) → IsBegun ls before []
begun_nothing [] before = refl
begun_nothing (l ∷ ls) before = inl refl

module _ (o : Opening) (t : Bool) (lines : List Line) (text : List ℕ) (texts : List (List ℕ)) (m : Parts) (a b c : Option (List ℕ)) (w v : List ℕ) (x : Reaches o t lines (text ∷ texts) m a b w v) (on : m.pool.traced ≡ t) where
  pub lines_next : (n : Parts) (u : List ℕ) → Ran o m.pool.traced x.ran.more n b c v u (IsSaidBy text x.ran.more) → Reaches o t lines texts n a c w u
  lines_next n u z = let y = subst (λ k. Ran o k x.ran.more n b c v u (IsSaidBy text x.ran.more)) on z in elim y.kind as (λ _. Reaches o t lines texts n a c w u) [
    | inl none ↦ record {
      done = x.done;
      todo = x.todo;
      split = x.split;
      heard = heard_none text texts x.todo x.heard none.0;
      ran = ran_then o t [] m n a b c w v u (Covers x.done []) (IsSaidBy text x.ran.more) (Covers x.done []) x.ran y
          (subst (λ l. Covers x.done [] (x.ran.more ++ l)) (sym none.1) (subst (λ l. Covers x.done [] l) (sym (append-nil x.ran.more)) x.ran.kind));
    }
    | inr some ↦
        let l = some.0 in
        let next = heard_line text texts x.todo l x.heard some.1 in
        record {
          done = x.done ++ l ∷ [];
          todo = next.0;
          split = x.split ∙ ap (λ ls. x.done ++ ls) next.1 ∙ sym (append_assoc x.done (l ∷ []) next.0);
          heard = next.2;
          ran = ran_then o t [] m n a b c w v u (Covers x.done []) (IsSaidBy text x.ran.more) (Covers (x.done ++ l ∷ []) []) x.ran y
              (covers_push x.done l [] x.ran.more y.more x.ran.kind some.2);
        }
  ]

  pub lines_stop : (stop : Stop) → Fails o m.pool.traced x.ran.more stop b c v (IsPartOfSaid text x.ran.more) → Fails o t [] stop a c w (CoversFront lines)
  lines_stop stop z = let y = subst (λ k. Fails o k x.ran.more stop b c v (IsPartOfSaid text x.ran.more)) on z in fails_then o t [] stop m a b c w v (Covers x.done []) (IsPartOfSaid text x.ran.more) (CoversFront lines) x.ran y
      (elim y.kind as (λ _. CoversFront lines (x.ran.more ++ y.more)) [
        | inl none ↦ record {
          done = x.done;
          rest = x.todo;
          before = x.ran.more;
          part = y.more;
          split = x.split;
          all = refl;
          covers = x.ran.kind;
          begun = subst (λ l. IsBegun x.todo x.ran.more l) (sym none) (begun_nothing x.todo x.ran.more);
        }
        | inr some ↦
            let next = heard_line text texts x.todo some.0 x.heard some.1 in
            record {
              done = x.done;
              rest = some.0 ∷ next.0;
              before = x.ran.more;
              part = y.more;
              split = x.split ∙ ap (λ ls. x.done ++ ls) next.1;
              all = refl;
              covers = x.ran.kind;
              begun = inr some.2;
            }
      ])

-- nothing was run
pub lines_first : (o : Opening) (t : Bool) (lines : List Line) (texts : List (List ℕ)) (m : Parts) (a : Option (List ℕ)) (w : List ℕ) → IsAt o m [] → Heard texts lines → Reaches o t lines texts m a a w w
lines_first o t lines texts m a w at heard = record { done = []; todo = lines; split = refl; heard = heard; ran = ran_nothing o t [] m a w (Covers [] []) at refl }

-- all were run
pub lines_last : (o : Opening) (t : Bool) (lines : List Line) (m : Parts) (a b : Option (List ℕ)) (w v : List ℕ) → Reaches o t lines [] m a b w v → Ran o t [] m a b w v (Covers lines [])
lines_last o t lines m a b w v x = subst (λ ls. Ran o t [] m a b w v (Covers ls [])) (sym (x.split ∙ ap (λ ls. x.done ++ ls) x.heard ∙ append-nil x.done)) x.ran

-- a text without bytes has no lines
pub lines_none : (text : List ℕ) → (length text == 0) ≡ true → lines_of text ≡ []
lines_none [] e = refl
lines_none (b ∷ bs) e = absurd (let no : length (b ∷ bs) ≡ 0 = grind (arith, nat_tests) in omega arith)
