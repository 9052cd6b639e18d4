-- A note is joined to the server's view, which then has the longer of the two histories.
use Rattle.std.proofs.Common.{◌≡◌, ℕ, ◌≤◌, ◌≢◌, List, [], length, length-append, set, Bool, true, false, cond, leb, refl, sym, ap, arith, subst}
use Rattle.std.specs.Prelude.{Some}
use Rattle.std.proofs.lemmas.Bool.{leb-true, leb-false}
use Rattle.clover_map.specs.declared.call.Entry.{Entry}
use Rattle.clover_map.specs.Tagged.{Tagged}
use Rattle.clover_rule.specs.History.{longer}
use Rattle.clover_rule.specs.Lists.{nth, IsPrefix}
use Rattle.clover_rule.specs.Memory.{Mem}
use Rattle.clover_rule.specs.Server.{Whole}
use Rattle.clover_rule.specs.Story.{Story}
use Rattle.clover_rule.specs.Views.{OwnCalls, ViewOk}
use Rattle.clover_rule.specs.Moves.{noted, spent}
use Rattle.clover_rule.specs.declared.view.Role.{Role}
use Rattle.clover_rule.specs.declared.view.Role.TheVariants.{Serving, Noting}
use Rattle.clover_rule.specs.declared.view.View.{View}
use Rattle.clover_words.specs.declared.pool.Pool.{Pool}
use Rattle.clover_rule.proofs.Joins.{take_in}
use Rattle.clover_rule.proofs.AbsentLaw.{whole_prefix}

prefix_length : (a h : List Entry) → IsPrefix a h → length a ≤ length h
prefix_length a h p = let q = ap length p.1 in omega (arith, length-append a p.0)

long_left : (a b h : List Entry) → IsPrefix a h → IsPrefix b h → a ≡ h → longer a b ≡ h
long_left a b h p q e = go (leb (length a) (length b)) refl
  where
    go : (x : Bool) → leb (length a) (length b) ≡ x → cond x b a ≡ h
    go true f = let y = leb-true (length a) (length b) f in let z = prefix_length b h q in let z1 = ap length e in sym (whole_prefix b h q (omega arith))
    go false f = e

long_right : (a b h : List Entry) → IsPrefix a h → IsPrefix b h → b ≡ h → longer a b ≡ h
long_right a b h p q e = go (leb (length a) (length b)) refl
  where
    go : (x : Bool) → leb (length a) (length b) ≡ x → cond x b a ≡ h
    go true f = e
    go false f = let y = leb-false (length a) (length b) f in let z = prefix_length a h p in let z1 = ap length e in sym (whole_prefix a h p (omega arith))

-- the join of a note
module _ (l : Pool) (m0 : Tagged) (used : List ℕ) (m : Mem) (vs : List View) (st : Story) (h : List Entry) (w : Whole l m0 used m vs st h) (id j : ℕ) (apart_seats : j ≢ id) (v y : View) (at : nth vs id ≡ Some v) (there_at : nth vs j ≡ Some y)
    (role : v.pass.role ≡ Serving) (noting : y.pass.role ≡ Noting) (no_stock : y.pass.stock ≡ []) where
  okv : ViewOk m st h id v
  okv = w.basis.views id v at

  oky : ViewOk m st h j y
  oky = w.basis.views j y there_at

  long_ok : IsPrefix (longer v.pass.history y.pass.history) h
  long_ok = elim (leb (length v.pass.history) (length y.pass.history)) as (λ (b : Bool). IsPrefix (cond b y.pass.history v.pass.history) h) [ true ↦ oky.history | false ↦ okv.history ]

  ok_join : ViewOk m st h id (noted v y)
  ok_join = let a = okv in record {
    stocked = a.stocked;
    apart = a.apart;
    knows = a.knows;
    written = a.written;
    flushed = a.flushed;
    named = a.named;
    history = long_ok;
    calls = subst (λ (o : Role). OwnCalls o v.pass.calls h) (sym role) tt;
  }

  pub join_note : Whole l m0 used m (set (set vs id (noted v y)) j (spent v)) st h
  join_note = take_in l m0 used m vs st h w id j apart_seats v y at there_at [] tt (noted v y) refl refl ok_join (λ e. long_left v.pass.history y.pass.history h okv.history oky.history e) (λ e. long_right v.pass.history y.pass.history h okv.history oky.history e)
