-- That a legal history hands no tag out twice.
use Rattle.std.proofs.Common.{◌≡◌, ℕ, zero, suc, List, [], ◌∷◌, ◌++◌, refl, sym, ap, ◌∙◌, subst, arith}
use Rattle.std.specs.Prelude.{Some, Contains}
use Rattle.std.proofs.lemmas.List.Elements.{Contains-append_left, Contains-append_right}
use Rattle.std.proofs.lemmas.Option.{same_Some}
use Rattle.clover_map.specs.Does.{Does}
use Rattle.clover_map.specs.Legal.{Legal}
use Rattle.clover_map.specs.Tagged.{Tagged}
use Rattle.clover_map.specs.Tags.{IsFresh, new_tags}
use Rattle.clover_map.specs.declared.call.Call.{Call}
use Rattle.clover_map.specs.declared.call.Call.TheVariants.{Get, Put, Delete, Swap}
use Rattle.clover_map.specs.declared.call.Entry.{Entry}
use Rattle.clover_map.specs.declared.call.Reply.{Reply}
use Rattle.clover_map.specs.declared.call.Reply.TheVariants.{Stored, Found, Absent, Deleted, Differs}
use Rattle.clover_rule.specs.Lists.{nth}
use Rattle.clover_server.specs.Laws.{AreTagsApart, HandsOut, OnceLaw}

same_head : (t u : ℕ) → ◌≡◌ {A = List ℕ} (t ∷ []) (u ∷ []) → t ≡ u
same_head t u e = cc

-- what a step hands out was not used
fresh_of : (m : Tagged) (used : List ℕ) (call : Call) (reply : Reply) (n : Tagged) (t : ℕ) → Does m used call reply n → new_tags reply ≡ t ∷ [] → IsFresh used t
fresh_of m used (Put k v) (Stored u) n t d e = subst (IsFresh used) (same_head u t e) d.0
fresh_of m used (Swap k x v) (Stored u) n t d e = subst (IsFresh used) (same_head u t e) d.3
fresh_of m used (Delete k) (Deleted u) n t d e = subst (IsFresh used) (same_head u t e) d.2
fresh_of m used (Get k) (Stored u) n t d e = absurd d
fresh_of m used (Delete k) (Stored u) n t d e = absurd d
fresh_of m used (Get k) (Deleted u) n t d e = absurd d
fresh_of m used (Put k v) (Deleted u) n t d e = absurd d
fresh_of m used (Swap k x v) (Deleted u) n t d e = absurd d
fresh_of m used call (Found u v) n t d e = absurd cc
fresh_of m used call Absent n t d e = absurd cc
fresh_of m used call (Differs u) n t d e = absurd cc

fresh_entry : (m : Tagged) (used : List ℕ) (h : List Entry) → Legal m used h → (i t : ℕ) (e : Entry) → nth h i ≡ Some e → HandsOut t e → IsFresh used t
fresh_entry m used [] l i t e at out = absurd cc
fresh_entry m used (x ∷ h) l zero t e at out = fresh_of m used x.call x.reply l.0 t l.1 (ap (λ (y : Entry). new_tags y.reply) (same_Some x e at) ∙ out)
fresh_entry m used (x ∷ h) l (suc i) t e at out = λ c. fresh_entry l.0 (used ++ new_tags x.reply) h l.2 i t e at out (Contains-append_left used (new_tags x.reply) t c)

-- what the first entry hands out no later one does
first_only : (m : Tagged) (used : List ℕ) (x : Entry) (h : List Entry) → Legal m used (x ∷ h) → (i t : ℕ) (d e : Entry) → x ≡ d → nth h i ≡ Some e → HandsOut t d → HandsOut t e → ⊥
first_only m used x h l i t d e is at first out =
    let new : new_tags x.reply ≡ t ∷ [] = ap (λ (y : Entry). new_tags y.reply) is ∙ first in
    let there : Contains (new_tags x.reply) t = subst (λ (ts : List ℕ). Contains ts t) (sym new) (zero, omega arith, refl) in
    fresh_entry l.0 (used ++ new_tags x.reply) h l.2 i t e at out (Contains-append_right used (new_tags x.reply) t there)

once_only : (m : Tagged) (used : List ℕ) (h : List Entry) → Legal m used h → (i j t : ℕ) (d e : Entry) → nth h i ≡ Some d → nth h j ≡ Some e → HandsOut t d → HandsOut t e → i ≡ j
once_only m used [] l i j t d e a b f g = absurd cc
once_only m used (x ∷ h) l zero zero t d e a b f g = refl
once_only m used (x ∷ h) l zero (suc j) t d e a b f g = absurd (first_only m used x h l j t d e (same_Some x d a) b f g)
once_only m used (x ∷ h) l (suc i) zero t d e a b f g = absurd (first_only m used x h l i t e d (same_Some x e b) a g f)
once_only m used (x ∷ h) l (suc i) (suc j) t d e a b f g = ap suc (once_only l.0 (used ++ new_tags x.reply) h l.2 i j t d e a b f g)

pub apart_of : (m : Tagged) (used : List ℕ) (h : List Entry) → Legal m used h → AreTagsApart used h
apart_of m used h l = record { fresh = fresh_entry m used h l; once = once_only m used h l }

pub tags_apart : OnceLaw
tags_apart p first used ws vs h rule = apart_of first used h rule.history_and_map.legal
