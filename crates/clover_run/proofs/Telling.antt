-- What the records told behind one record more: each tag that an answer told is known to be durable.
use Rattle.std.proofs.Common.{◌≡◌, ℕ, ◌⊎◌, inl, inr, ⊎_elim, List, [], ◌∷◌, ◌++◌, true, false, refl, sym, ap, subst, eqb-true}
use Rattle.std.specs.Prelude.{Option, IfSome}
use Rattle.std.proofs.lemmas.Bool.{or_cases, or_left, or_right}
use Rattle.clover_words.specs.Tag.{TagParts}
use Rattle.clover_words.specs.declared.pool.Pool.{Pool}
use Rattle.clover_map.specs.declared.call.Reply.{Reply}
use Rattle.clover_map.specs.declared.call.Reply.TheVariants.{Stored, Found, Absent, Deleted, Differs}
use Rattle.clover_rule.specs.Cut.{IsKnownDurable}
use Rattle.clover_rule.specs.Lists.{Within}
use Rattle.clover_rule.specs.declared.access.Act.{Act}
use Rattle.clover_rule.specs.declared.view.View.{View}
use Rattle.clover_plain.specs.Plain.{Plain}
use Rattle.clover_cache.specs.Node.{Known}
use Rattle.clover_call.specs.Caller.{IsCursor, AreCursors}
use Rattle.clover_run.specs.Client.{IsKeptOrSet, KeepsKnown, SetsCursor}
use Rattle.clover_run.specs.Ends.{end_tags}
use Rattle.clover_run.specs.Record.{Record}
use Rattle.clover_run.specs.Told.{AllTold, has_tag, told, tells}
use Rattle.clover_run.specs.declared.event.Note.{Note}
use Rattle.clover_run.specs.declared.event.Note.TheVariants.{Answered}
use Rattle.clover_run.proofs.CleaningTells.{AnswersNone}

-- what was told behind one record more the records told, or that one
told_more : (rs : List Record) (r : Record) (t : ℕ) → told (rs ++ r ∷ []) t ≡ true → (told rs t ≡ true) ⊎ (tells r.note t ≡ true)
told_more [] r t e = ⊎_elim (λ here. inr here) (λ none. absurd (let k : false ≡ true = none in cc)) (or_cases (tells r.note t) false e)
told_more (x ∷ rs) r t e = ⊎_elim
    (λ here. inl (or_left (tells x.note t) (told rs t) here))
    (λ there. ⊎_elim (λ before. inl (or_right (tells x.note t) (told rs t) before)) (λ last. inr last) (told_more rs r t there))
    (or_cases (tells x.note t) (told (rs ++ r ∷ []) t) e)

-- a record more, whose note tells what is known
pub told_behind : (p q : Plain) (rs : List Record) (r : Record) → AllTold p rs → KeepsKnown p q → ((t : ℕ) → tells r.note t ≡ true → IsKnownDurable (q.views ++ q.absent) t) → AllTold q (rs ++ r ∷ [])
told_behind p q rs r all knows last t e = ⊎_elim (λ before. knows t (all t before)) (last t) (told_more rs r t e)

tells_none : (note : Note) (t : ℕ) → AnswersNone note → tells note t ≡ true → ⊥
tells_none (Answered c reply) t none e = absurd none
tells_none note t none e = absurd (let k : false ≡ true = e in cc)

-- or which answers no call
pub told_unanswered : (p q : Plain) (rs : List Record) (r : Record) → AllTold p rs → KeepsKnown p q → AnswersNone r.note → AllTold q (rs ++ r ∷ [])
told_unanswered p q rs r all knows none = told_behind p q rs r all knows (λ t e. absurd (tells_none r.note t none e))

-- a note that is no answer of anybody
pub answers_none : (note : Note) → ((b : ℕ) (reply : Reply) → note ≡ Answered b reply → ⊥) → AnswersNone note
answers_none (Answered b reply) h = h b reply refl
answers_none note h = tt

-- the tag in a reply is the one at which its call ended
ends_at : (reply : Reply) (act : Act) (t : ℕ) → has_tag reply t ≡ true → end_tags reply act ≡ t ∷ []
ends_at (Stored u) act t e = ap (λ (n : ℕ). n ∷ []) (eqb-true u t e)
ends_at (Deleted u) act t e = ap (λ (n : ℕ). n ∷ []) (eqb-true u t e)
ends_at (Found u v) act t e = ap (λ (n : ℕ). n ∷ []) (eqb-true u t e)
ends_at (Differs u) act t e = ap (λ (n : ℕ). n ∷ []) (eqb-true u t e)
ends_at Absent act t e = absurd (let k : false ≡ true = e in cc)

-- so its client, whose cursor the answer set to it, knows it to be durable
pub told_known : (p : Pool) (v : View) (s : ℕ) (act : Act) (note : Note) (k n : Known) → SetsCursor s act note k n → AreCursors p v n → (t : ℕ) → tells note t ≡ true → Within (s, t) v.pass.durable
told_known p v s act (Answered c reply) k n sets cursors t e =
    let set : IsKeptOrSet (t ∷ []) s k n = subst (λ (l : List ℕ). IsKeptOrSet l s k n) (ends_at reply act t e) sets in
    let last : IsCursor p v (s, set.0) = subst (λ (o : Option (ℕ × TagParts)). IfSome o (IsCursor p v)) set.2.last cursors.last in
    subst (λ (m : ℕ). Within (s, m) v.pass.durable) (sym set.1) last.1
told_known p v s act note k n sets cursors t e = absurd (let f : false ≡ true = e in cc)
