-- A run begins from words of 0: the server has all buffers, and the clients know nothing.
use Rattle.std.proofs.Common.{◌≡◌, ℕ, zero, suc, ◌+◌, ◌<◌, ◌≤◌, List, [], length, get_or, replicate, Bool, cond, refl, sym, ap, ◌∙◌, inl, inr, subst, arith}
use Rattle.std.proofs.lemmas.Bool.{le-ltb}
use Rattle.std.proofs.lemmas.List.{length-replicate}
use Rattle.std.specs.Prelude.{Some}
use Rattle.std.specs.FinMap as finite
use Rattle.std.specs.FinMap.{get-empty}
use Rattle.std.specs.Ordering.{nat_cmp}
use Rattle.std.specs.Cmp.Lexicographic.{slice_cmp}
use native.Mathlib.Decide.{dec_le}
use mathlib.Core.Logic.{dite}
use Rattle.clover_words.specs.Place.{address_of, pool_words}
use Rattle.clover_words.specs.declared.setup.Setup.{Setup}
use Rattle.clover_rule.specs.Laws.{IsBlank}
use Rattle.clover_rule.specs.Lists.{nth, Within}
use Rattle.clover_rule.specs.Opening.{BlankOpening, Begins, FirstServer, FirstViews, Opening}
use Rattle.clover_rule.specs.Rule.{Rule, longest}
use Rattle.clover_rule.specs.declared.view.Role.TheVariants.{Client, Serving}
use Rattle.clover_rule.specs.declared.view.View.{View}
use Rattle.clover_rule.proofs.Blank.{blank_law}
use Rattle.clover_rule.proofs.Longest.{longest_law}
use Rattle.clover_rule.proofs.Opened.{opening_law}
use Rattle.clover_rule.proofs.Ties.{test_below}
use Rattle.clover_rule.proofs.Tools.{nth_some, nth_within}
use Rattle.clover_plain.specs.Plain.{first_view, numbers, role_at}
use Rattle.clover_plain.proofs.Seating.{zero_replicate}

-- each number from 1 on is among the numbers
pub in_numbers : (n c : ℕ) → 1 ≤ c → c ≤ n → Within c (numbers n)
in_numbers zero c h i = absurd (omega arith)
in_numbers (suc n) c h i = dite (dec_le c n) (λ d. inr (in_numbers n c h d)) (λ d. inl (omega arith))

module _ (s : Setup) where
  -- the seat of a client, and the server's
  pub client_role : (i : ℕ) → i < s.clients → role_at s i ≡ Client (suc i)
  client_role i h = ap (λ (b : Bool). cond b (Client (suc i)) Serving) (test_below i s.clients h)

  pub server_role : (i : ℕ) → s.clients ≤ i → role_at s i ≡ Serving
  server_role i h = ap (λ (b : Bool). cond b (Client (suc i)) Serving) (le-ltb i s.clients h)

  pub client_seat : (i n : ℕ) → role_at s i ≡ Client n → (suc i ≡ n) × (i < s.clients)
  client_seat i n e = dite (dec_le (suc i) s.clients) (λ d. let z : Client (suc i) ≡ Client n = sym (client_role i d) ∙ e in (let y : suc i ≡ n = cc in y, d)) (λ d. absurd (let z : Serving ≡ Client n = sym (server_role i (omega arith)) ∙ e in cc))

  pub server_seat : (i : ℕ) → role_at s i ≡ Serving → s.clients ≤ i
  server_seat i e = dite (dec_le (suc i) s.clients) (λ d. absurd (let z : Client (suc i) ≡ Serving = sym (client_role i d) ∙ e in cc)) (λ d. omega arith)

module _ (s : Setup) (ws : List ℕ) (zeros : ws ≡ replicate (pool_words s.pool) 0) (vs : List View) (seats : length vs ≡ s.clients + 1) (are : (i : ℕ) (v : View) → nth vs i ≡ Some v → v ≡ first_view s i) where
  is_blank : IsBlank s.pool ws
  is_blank = (ap length zeros ∙ length-replicate (pool_words s.pool) 0, λ w side. ap (λ (l : List ℕ). get_or l (address_of s.pool w side) 0) zeros ∙ zero_replicate (pool_words s.pool) (address_of s.pool w side))

  blank : BlankOpening s.pool finite.empty ws
  blank = blank_law s.pool finite.empty ws is_blank (λ k. get-empty (slice_cmp nat_cmp) k)

  abbrev o : Opening s.pool finite.empty [] ws
  o = blank.opening

  begins : (i : ℕ) → Begins s.pool finite.empty [] ws o (first_view s i)
  begins i = record {
    run = record { of_pool = refl; from_map = refl; from_used = refl };
    names = (o.opens.bindings, refl);
    most = omega arith;
    stock = refl;
    nothing = refl;
  }

  role_of : (i : ℕ) (v : View) → nth vs i ≡ Some v → v.pass.role ≡ role_at s i
  role_of i v e = ap (λ (u : View). u.pass.role) (are i v e)

  serves : (i : ℕ) → FirstServer s.pool finite.empty [] ws o (first_view s i).server
  serves i = record {
    task = refl;
    directory = sym blank.unbound;
    roots = λ n. sym (blank.unrooted n);
    books = λ b h. sym (blank.free b h);
  }

  made : (i n : ℕ) → s.clients ≤ i → 1 ≤ n → n ≤ s.clients → Within n (first_view s i).server.clients
  made i n h a b = subst (λ (t : Bool). Within n (cond t [] (numbers s.clients))) (sym (le-ltb i s.clients h)) (in_numbers s.clients n a b)

  first_views : FirstViews s.pool finite.empty [] ws o vs
  first_views = record {
    begins = λ i v e. subst (Begins s.pool finite.empty [] ws o) (sym (are i v e)) (begins i);
    some = let r = nth_some vs 0 (omega arith) in (0, r.0, r.1);
    numbered = λ i j n v w e f g h. let x = (client_seat s i n (sym (role_of i v e) ∙ g)).0 in let y = (client_seat s j n (sym (role_of j w f) ∙ h)).0 in omega arith;
    serves = λ i v e r. subst (λ (u : View). FirstServer s.pool finite.empty [] ws o u.server) (sym (are i v e)) (serves i);
    one = λ i j v w e f g h.
        let x = server_seat s i (sym (role_of i v e) ∙ g) in
        let y = server_seat s j (sym (role_of j w f) ∙ h) in
        let a = nth_within vs i v e in
        let b = nth_within vs j w f in
        omega arith;
    made = λ i j n v w e f g h.
        let x = server_seat s i (sym (role_of i v e) ∙ g) in
        let y = client_seat s j n (sym (role_of j w f) ∙ h) in
        let a = y.0 in
        let b = y.1 in
        subst (λ (u : View). Within n u.server.clients) (sym (are i v e)) (made i n x (omega arith) (omega arith));
  }

  pub opened_rule : Rule s.pool finite.empty [] ws vs []
  opened_rule = opening_law s.pool finite.empty [] ws vs o first_views

  pub opened_history : longest vs ≡ []
  opened_history = longest_law s.pool finite.empty [] ws vs [] opened_rule
