use Rattle.std.proofs.Common.{◌∙◌, sym, ap, arith, subst}
use Rattle.clover_run.specs.Client.{Went}
use Rattle.clover_run.specs.Stepping.{Accesses}
use Rattle.clover_run.specs.declared.client.ClientState.{ClientState}
use Rattle.clover_run.specs.declared.event.Note.TheVariants.{Refused}
use Rattle.clover_run.proofs.Coming.{value_so, enters_commit, enters_answer}
use Rattle.clover_run.proofs.Outcomes.{came_more, came_decided, came_done, came_wants, came_refused}
use Rattle.clover_run.proofs.client.ClientState.go_on.Goals as goal

pub came_of-requires : goal.came_of-requires
came_of-requires c =
    let (o, i, f, seat, own, st) = c.requires.stands in
    let a = c.access-turn in let x = c.args.self.now in let y = a.new.self in let p = c.args.pool.now in let q = a.new.pool in
    let told = a.ensures o i f seat own st in
    record { values = (y.room, value_so i x y p q c.args.entered c.requires.values.0 a.result told, value_so i x y p q c.args.noted c.requires.values.1 a.result told) }

pub enter-requires-clause-number : goal.enter-requires-clause-number
enter-requires-clause-number c =
    let (o, i, f, seat, own, st) = c.requires.stands in
    let a = c.access-turn in let x = c.args.self.now in let y = a.new.self in let p = c.args.pool.now in let q = a.new.pool in
    let told = a.ensures o i f seat own st in
    let same = ap (λ (z : ClientState). z.number) told.rest in let few = c.requires.counts.1 in omega arith

pub enter-requires-clause-opened : goal.enter-requires-clause-opened
enter-requires-clause-opened c =
    let (o, i, f, seat, own, st) = c.requires.stands in
    let a = c.access-turn in let x = c.args.self.now in let y = a.new.self in let p = c.args.pool.now in let q = a.new.pool in
    let told = a.ensures o i f seat own st in
    told.same.opened ∙ st.opened

pub enter-requires-clause-room : goal.enter-requires-clause-room
enter-requires-clause-room c =
    let (o, i, f, seat, own, st) = c.requires.stands in
    let a = c.access-turn in let x = c.args.self.now in let y = a.new.self in let p = c.args.pool.now in let q = a.new.pool in
    let told = a.ensures o i f seat own st in
    let same = told.same.entry_room in let room = c.requires.room.entry in omega arith

pub enter-requires-clause-entry : goal.enter-requires-clause-entry
enter-requires-clause-entry c =
    let (o, i, f, seat, own, st) = c.requires.stands in
    let a = c.access-turn in let x = c.args.self.now in let y = a.new.self in let p = c.args.pool.now in let q = a.new.pool in
    let told = a.ensures o i f seat own st in
    let came = c.in-Decided.ensures y.room (value_so i x y p q c.args.entered c.requires.values.0 a.result told) (value_so i x y p q c.args.noted c.requires.values.1 a.result told) in
    enters_commit x y c.args.client p q c.requires.counts.0 o i seat f own st came.0 c.in-Decided.reply (subst (Accesses i x y p q) came.1 told) came.2

pub enter-requires-in-Done-clause-number : goal.enter-requires-in-Done-clause-number
enter-requires-in-Done-clause-number c =
    let (o, i, f, seat, own, st) = c.requires.stands in
    let a = c.access-turn in let x = c.args.self.now in let y = a.new.self in let p = c.args.pool.now in let q = a.new.pool in
    let told = a.ensures o i f seat own st in
    let same = ap (λ (z : ClientState). z.number) told.rest in let few = c.requires.counts.1 in omega arith

pub enter-requires-in-Done-clause-opened : goal.enter-requires-in-Done-clause-opened
enter-requires-in-Done-clause-opened c =
    let (o, i, f, seat, own, st) = c.requires.stands in
    let a = c.access-turn in let x = c.args.self.now in let y = a.new.self in let p = c.args.pool.now in let q = a.new.pool in
    let told = a.ensures o i f seat own st in
    told.same.opened ∙ st.opened

pub enter-requires-in-Done-clause-room : goal.enter-requires-in-Done-clause-room
enter-requires-in-Done-clause-room c =
    let (o, i, f, seat, own, st) = c.requires.stands in
    let a = c.access-turn in let x = c.args.self.now in let y = a.new.self in let p = c.args.pool.now in let q = a.new.pool in
    let told = a.ensures o i f seat own st in
    let same = told.same.entry_room in let room = c.requires.room.entry in omega arith

pub enter-requires-in-Done-clause-entry : goal.enter-requires-in-Done-clause-entry
enter-requires-in-Done-clause-entry c =
    let (o, i, f, seat, own, st) = c.requires.stands in
    let a = c.access-turn in let x = c.args.self.now in let y = a.new.self in let p = c.args.pool.now in let q = a.new.pool in
    let told = a.ensures o i f seat own st in
    let came = c.in-Done.ensures y.room (value_so i x y p q c.args.entered c.requires.values.0 a.result told) (value_so i x y p q c.args.noted c.requires.values.1 a.result told) in
    enters_answer x y c.args.client p q c.requires.counts.0 o i seat f own st came.0 c.in-Done.reply (subst (Accesses i x y p q) came.1 told) came.2

pub returns-in-More : goal.returns-in-More
returns-in-More c = λ o i f seat own st.
    let a = c.access-turn in let x = c.args.self.now in let y = a.new.self in let p = c.args.pool.now in let q = a.new.pool in
    let told = a.ensures o i f seat own st in
    let came = c.in-More.ensures y.room (value_so i x y p q c.args.entered c.requires.values.0 a.result told) (value_so i x y p q c.args.noted c.requires.values.1 a.result told) in
    came_more x y c.args.client p q c.requires.counts.0 o i seat f own st (subst (Accesses i x y p q) came told)

pub returns-in-Decided : goal.returns-in-Decided
returns-in-Decided c = λ o i f seat own st.
    let a = c.access-turn in let x = c.args.self.now in let y = a.new.self in let p = c.args.pool.now in let q = a.new.pool in
    let told = a.ensures o i f seat own st in
    let came = c.in-Decided.ensures y.room (value_so i x y p q c.args.entered c.requires.values.0 a.result told) (value_so i x y p q c.args.noted c.requires.values.1 a.result told) in
    came_decided x y c.args.client p q c.requires.counts.0 o i seat f own st came.0 c.in-Decided.reply came.2 c.enter.new.self c.enter.new.pool c.enter.ensures (subst (Accesses i x y p q) came.1 told)

pub returns-in-Done : goal.returns-in-Done
returns-in-Done c = λ o i f seat own st.
    let a = c.access-turn in let x = c.args.self.now in let y = a.new.self in let p = c.args.pool.now in let q = a.new.pool in
    let told = a.ensures o i f seat own st in
    let came = c.in-Done.ensures y.room (value_so i x y p q c.args.entered c.requires.values.0 a.result told) (value_so i x y p q c.args.noted c.requires.values.1 a.result told) in
    came_done x y c.args.client p q c.requires.counts.0 o i seat f own st came.0 c.in-Done.reply came.2 c.enter-in-Done.new.self c.enter-in-Done.new.pool c.enter-in-Done.ensures (subst (Accesses i x y p q) came.1 told) c.in-Done.noted came.3

pub returns-in-Wants : goal.returns-in-Wants
returns-in-Wants c = λ o i f seat own st.
    let a = c.access-turn in let x = c.args.self.now in let y = a.new.self in let p = c.args.pool.now in let q = a.new.pool in
    let told = a.ensures o i f seat own st in
    let came = c.in-Wants.ensures y.room (value_so i x y p q c.args.entered c.requires.values.0 a.result told) (value_so i x y p q c.args.noted c.requires.values.1 a.result told) in
    came_wants x y c.args.client p q c.requires.counts.0 o i seat f own st came.0 c.in-Wants.want came.2 (subst (Accesses i x y p q) came.1 told)

pub returns-in-Refused : goal.returns-in-Refused
returns-in-Refused c = λ o i f seat own st.
    let a = c.access-turn in let x = c.args.self.now in let y = a.new.self in let p = c.args.pool.now in let q = a.new.pool in
    let told = a.ensures o i f seat own st in
    let came = c.in-Refused.ensures y.room (value_so i x y p q c.args.entered c.requires.values.0 a.result told) (value_so i x y p q c.args.noted c.requires.values.1 a.result told) in
    let went = came_refused x y c.args.client p q c.requires.counts.0 o i seat f own st came.0 c.in-Refused.refusal came.2 (subst (Accesses i x y p q) came.1 told) in
    subst (λ (z : ClientState). Went o i f x z p q (Refused c.args.client c.in-Refused.refusal)) (sym c.drop_call.ensures) went
