use Rattle.std.proofs.Common.{◌≡◌, ℕ, ◌-◌, Bool, ap, subst, arith}
use Rattle.clover_plain.specs.Plain.{view_at}
use Rattle.clover_run.specs.Client.{call_at}
use Rattle.clover_run.specs.Stepping.{Accesses}
use Rattle.clover_run.proofs.Keeping.{stands_refusing}
use Rattle.clover_run.proofs.client.ClientState.access.Goals as goal

pub reach-requires : goal.reach-requires
reach-requires c =
    let (o, i, f, e, own, st) = c.requires.stands in (
      λ j h. let same : c.args.client - 1 ≡ j = omega arith in ap (λ (k : ℕ). call_at (record (c.args.self.now) { refusing = c.replace-refuse.new.dest }) (view_at c.args.pool.now k)) same,
      ((o, i, f, e, own, stands_refusing o c.args.pool.now i c.args.self.now c.replace-refuse.new.dest f st), (c.requires.room, c.replace-refuse.ensures.after)),
    )

pub returns : goal.returns
returns c = λ o i f e own st.
    let h = c.reach.ensures o i f e own (stands_refusing o c.args.pool.now i c.args.self.now c.replace-refuse.new.dest f st) in
    subst (λ (b : Bool). Accesses i (record (c.args.self.now) { refusing = b }) c.reach.new.self c.args.pool.now c.reach.new.pool c.reach.result) c.replace-refuse.ensures.value h
