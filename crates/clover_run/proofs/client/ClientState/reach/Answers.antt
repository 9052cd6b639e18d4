use Rattle.std.proofs.Common.{◌≡◌, Bool, rules, sym, ap, ◌∙◌, subst, arith}
use Rattle.clover_plain.specs.Plain.{Same, Stepped, view_at}
use Rattle.clover_node.specs.Node.{node_first, node_step}
use Rattle.clover_run.proofs.Keeping.{call_refusing}
use Rattle.clover_run.proofs.Reaching.{by_turn, reached, where_made, where_refused}
use Rattle.clover_run.proofs.client.ClientState.reach.Goals as goal

pub returns : goal.returns
returns g c = λ o i f e own st.
    let h = c.step.ensures in let r = c.step.result in
    let x = c.args.self.now in
    let p0 = c.port-port.result.pool.now in let q0 = c.step.new.port.pool.now in let s = c.port-port.result.seat in let t = c.step.new.port.seat in
    let seat : s ≡ i = (let z = c.port-port.ensures.seat.2 in omega arith) in
    let same : t ≡ s = by_turn {C = t ≡ s} r h.made h.refused (λ m. m.1.2) (λ z. z.0.1) in
    let refuse : c.port-port.result.refuse ≡ c.args.refuse = c.port-port.ensures.fresh.0 in
    let step = node_step x.node g.call (view_at p0 s) x.room in
    reached (record x { refusing = c.args.refuse }) _ g.call i s t p0 c.args.pool.now q0 _ r c.port-port.ensures.pool.0 (search rules) seat same (c.requires.0 i e ∙ sym (call_refusing x c.args.refuse (view_at c.args.pool.now i)))
    (record {
      made = where_made r h.made (λ m. (m.0, (subst (λ (b : Bool). Stepped step (node_first x.node) b s m.0 p0 q0) c.port-port.ensures.fresh.1 m.1.0, m.1.1), m.2, m.3));
      went = h.went;
      refused = where_refused r h.refused (λ z. (z.0.0, z.1));
      asked = where_made r h.made (λ m. sym refuse ∙ m.1.5);
      forced = where_refused r h.refused (λ z. sym refuse ∙ z.0.4);
      same = by_turn {C = Same p0 q0} r h.made h.refused (λ m. m.1.0.same) (λ z. z.0.0.1.same);
      holds = h.holds;
      rest = ap (λ (b : Bool). record { node = c.step.new.self; room = c.step.new.into; call = x.call; want = x.want; refusing = b; number = x.number }) c.requires.1.1.1;
    })
