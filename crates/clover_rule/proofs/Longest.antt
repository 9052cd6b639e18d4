-- The history is the longest that a view holds.
use Rattle.std.proofs.Common.{◌≡◌, ◌≤◌, List, [], ◌∷◌, length, length-append, Bool, true, false, cond, leb, refl, sym, ap, inl, inr, ⊎_elim, arith}
use Rattle.std.proofs.lemmas.Bool.{leb-true, leb-false}
use Rattle.clover_map.specs.declared.call.Entry.{Entry}
use Rattle.clover_rule.specs.Laws.{LongestLaw}
use Rattle.clover_rule.specs.Lists.{Within, IsPrefix}
use Rattle.clover_rule.specs.Rule.{longest}
use Rattle.clover_rule.specs.History.{longer}
use Rattle.clover_rule.specs.declared.view.View.{View}
use Rattle.clover_rule.proofs.AbsentLaw.{whole_prefix}

longer_begins : (a b h : List Entry) → IsPrefix a h → IsPrefix b h → IsPrefix (longer a b) h
longer_begins a b h p q = elim (leb (length a) (length b)) as (λ (t : Bool). IsPrefix (cond t b a) h) [ true ↦ q | false ↦ p ]

longer_long : (a b : List Entry) → (length a ≤ length (longer a b)) × (length b ≤ length (longer a b))
longer_long a b = go (leb (length a) (length b)) refl
  where
    go : (t : Bool) → leb (length a) (length b) ≡ t → (length a ≤ length (cond t b a)) × (length b ≤ length (cond t b a))
    go true e = (leb-true (length a) (length b) e, omega arith)
    go false e = (omega arith, let y = leb-false (length a) (length b) e in omega arith)

longest_begins : (vs : List View) (h : List Entry) → ((v : View) → Within v vs → IsPrefix v.pass.history h) → IsPrefix (longest vs) h
longest_begins [] h f = (h, refl)
longest_begins (v ∷ vs) h f = longer_begins v.pass.history (longest vs) h (f v (inl refl)) (longest_begins vs h (λ w z. f w (inr z)))

longest_long : (vs : List View) (v : View) → Within v vs → length v.pass.history ≤ length (longest vs)
longest_long [] v w = absurd w
longest_long (x ∷ vs) v w = let l = longer_long x.pass.history (longest vs) in
    ⊎_elim {C = length v.pass.history ≤ length (longest (x ∷ vs))} (λ e. let a = l.0 in let b = ap (λ (z : View). length z.pass.history) e in omega arith) (λ e. let a = l.1 in let b = longest_long vs v e in omega arith) w

pub longest_law : LongestLaw
longest_law p first used ws vs h r =
    let o = r.views_and_history.longest in
    let b = longest_begins vs h r.views_and_history.begins in
    let l = longest_long vs o.0 o.1 in
    let e = ap (λ (z : List Entry). length z) o.2 in
    let n = ap (λ (z : List Entry). length z) b.1 in
    sym (whole_prefix (longest vs) h b (let m = length-append (longest vs) b.0 in omega arith))
