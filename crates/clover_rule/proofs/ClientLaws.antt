-- The put's exchange, the raise and the quiet steps of a client over the whole rule.
use Rattle.std.proofs.Common.{◌≡◌, ℕ, List, refl, sym, ap, ◌∙◌, arith}
use native.Mathlib.Decide.{ℕ_discrete}
use mathlib.Core.Logic.{dite}
use Rattle.std.specs.Prelude.{Some}
use Rattle.clover_words.specs.Tag.{home}
use Rattle.clover_map.specs.declared.call.Entry.{Entry}
use Rattle.clover_map.specs.Tagged.{Tagged}
use Rattle.clover_rule.specs.Changes.{raised_mem, raised_story}
use Rattle.clover_map.specs.Legal.{used_by}
use Rattle.clover_rule.specs.Lists.{nth, upd, Within}
use Rattle.clover_rule.specs.Memory.{Mem}
use Rattle.clover_rule.specs.Server.{Whole}
use Rattle.clover_rule.specs.Story.{Story, Durable}
use Rattle.clover_rule.specs.Views.{ViewOk, Basis, renewed, raise_view}
use Rattle.clover_rule.specs.declared.view.Link.{Link}
use Rattle.clover_rule.specs.declared.view.Role.TheVariants.{Client}
use Rattle.clover_rule.specs.declared.view.View.{View}
use Rattle.clover_words.specs.declared.pool.Pool.{Pool}
use Rattle.clover_rule.proofs.Tools.{upd_same, upd_else}
use Rattle.clover_rule.proofs.Steps.{each_map, each_within}
use Rattle.clover_rule.proofs.ClientSteps.{client_whole, raise_help, raise_serves}
use Rattle.clover_rule.proofs.RaiseLaw.{known, grows as raise_grows, rule' as raise_rule}
use Rattle.clover_rule.proofs.Raising.{raised_higher}
use Rattle.clover_rule.proofs.Quiet.{quiet}
use Rattle.clover_rule.proofs.Staying.{help_kept}

module _ (l : Pool) (m0 : Tagged) (used : List ℕ) (m : Mem) (vs : List View) (st : Story) (h : List Entry) (w : Whole l m0 used m vs st h) (id : ℕ) (v : View) (at : nth vs id ≡ Some v) where
  abbrev r : Basis m0 used m vs st h
  r = w.basis

  -- the raise over a link that the client hops over or wrote
  pub raise_whole : (n : ℕ) → v.pass.role ≡ Client n → (q : Link) → Within q v.pass.links
      → (st' : Story) × Whole l m0 used (raised_mem m q.from q.to) (renewed vs id (raise_view v q)) st' h × ((b : ℕ) → st'.place b ≡ st.place b)
  raise_whole n role q p =
      let a = known m0 used m vs st h r id v at q p in
      let g = raise_grows m0 used m vs st h r id v at q p in (
        raised_story st q.slot a.0,
        client_whole l m0 used m vs st h w id v (raise_view v q) at n role refl (raised_mem m q.from q.to) (raised_story st q.slot a.0) h
            (raise_rule m0 used m vs st h r id v at q p)
            (raise_help l m st r.core w.help q.slot a.0 q.from q.to record { from = a.1; to = a.2 } h g)
            (raise_serves l m st r.core w.help q.slot a.0 q.from q.to record { from = a.1; to = a.2 } h g)
            (each_map (λ t d. (d.0, let e = raised_higher m q.from q.to (home t) in let i = d.1 in omega arith)) (used_by used h) w.safe)
            (λ cs x y. y),
        λ b. refl,
      )

  -- a step that changes no word and adds no entry
  pub quiet_whole : (n : ℕ) → v.pass.role ≡ Client n → (v' : View) → v'.pass.role ≡ v.pass.role → v'.pass.history ≡ v.pass.history → ViewOk m st h id v' → Whole l m0 used m (renewed vs id v') st h
  quiet_whole n role v' same past ok = client_whole l m0 used m vs st h w id v v' at n role same m st h (quiet m0 used m vs st h r id v v' at same past ok) w.help (λ sv e. e) w.safe (λ cs x y. y)

  -- a store of the shortcut with a durable tag
  pub short_whole : (n s t : ℕ) → v.pass.role ≡ Client n → Within (s, t) v.pass.durable → (rule : Basis m0 used (record m { short = upd m.short s (Some t) }) (renewed vs id v) st h)
      → Whole l m0 used (record m { short = upd m.short s (Some t) }) (renewed vs id v) st h
  short_whole n s t role d ru = let p = w.help in let a = p.ranged in client_whole l m0 used m vs st h w id v v at n role refl (record m { short = upd m.short s (Some t) }) st h ru
      (help_kept l m st m.fnext m.body m.fbody (upd m.short s (Some t)) st.place st.sure (λ s1 j q. q) (λ b e. (e, refl, refl, refl)) p
      record { tags = a.tags; own = a.own; below = a.below; ready = a.ready; worn = a.worn; fits = a.fits } p.stage.holds
      (λ s1 y q. dite (ℕ_discrete s1 s) (λ z. let f : t ≡ y = let f1 : Some t ≡ Some y = sym (ap (upd m.short s (Some t)) z ∙ upd_same m.short s (Some t)) ∙ q in cc in
      rw (z, ← f) (each_within (λ (a : ℕ × ℕ). Durable st a.0 a.1) (s, t) v.pass.durable (r.views id v at).knows.durable d)) (λ z. p.short s1 y (sym (upd_else m.short s s1 (Some t) z) ∙ q))))
      (λ sv e. record { task_is = e.task_is; directory = e.directory; roots = e.roots; books = e.books }) w.safe (λ cs x y. y)
