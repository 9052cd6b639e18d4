use Rattle.std.proofs.Common.{◌≡◌, ◌+◌, [], ap, ◌∙◌, sym, subst}
use Rattle.clover_words.specs.declared.setup.Setup.{Setup}
use Rattle.clover_plain.specs.Plain.{Plain, Running}
use Rattle.clover_run.specs.Client.{IsFirst}
use Rattle.clover_run.specs.Machine.{Parts, IsAt, new_side}
use Rattle.clover_run.specs.Power.{Reopens}
use Rattle.clover_run.specs.Run.{Opening}
use Rattle.clover_run.proofs.Made.{made_at}
use Rattle.clover_run.proofs.Reopened.{IsOpened, new_in, opening_of, reopens_so, served_in}
use Rattle.clover_run.proofs.machine.Machine.reopen.Goals as goal
use Rattle.clover_run.proofs.machine.Machine.reopen.Goals.{After-idle}

abbrev parts : (c : After-idle) → Parts
parts c = record { setup = c.args.setup; pool = c.open_run.new.self; served = c.new_side.result; recycler = c.idle.result; clients = c.in_ok-clients.clients.items }

-- the pool is opened
opened : (c : After-idle) → IsOpened c.args.pool c.args.books c.args.directory c.open_run.new.self
opened c = let e = c.open_run.ensures in record {
  opened = e.opened;
  history = e.history;
  seats = e.seats;
  clients = e.clients;
  server = e.server;
  run = e.run;
  words = e.words.0;
  accesses = e.accesses;
  setup = e.same.0;
  traced = e.same.1;
}

running : (c : After-idle) → Running c.open_run.new.self
running c = c.stands.ensures.running c.open_run.ensures.opened

-- it stands where the run begins
at_first : (c : After-idle) (o : Opening) → Reopens c.args.pool c.args.books c.args.directory o → IsAt o (parts c) []
at_first c o r =
    let p = c.args.pool in
    let books = c.args.books in
    let d = c.args.directory in
    let q = c.open_run.new.self in
    let of_setup : c.args.setup ≡ o.setup = sym c.requires.setup ∙ sym r.setup in
    let to_pool = ap (λ (s : Setup). s.pool) (sym c.requires.setup) in
    made_at o (parts c) (record {
      setup = of_setup;
      pool = new_in p q books d (opened c) (running c) c.requires.books.0 (c.requires.books.1 ∙ to_pool) (c.requires.directory ∙ to_pool) c.new_side_law.ensures c.requires.whole o r;
      served = c.new_side.ensures ∙ ap (λ (s : Setup). new_side s books d) (sym c.requires.setup) ∙ sym r.served;
      side = served_in p q books d (opened c) (running c) c.requires.books.0 (c.requires.books.1 ∙ to_pool) (c.requires.directory ∙ to_pool) c.new_side_law.ensures c.requires.whole o r;
      idle = c.idle.ensures;
      count = c.in_ok-clients.ensures.0 ∙ ap (λ (s : Setup). s.clients) of_setup;
      firsts = λ i x here. subst (λ (s : Setup). IsFirst s (i + 1) x) of_setup (c.in_ok-clients.ensures.1 i x here);
    }) (running c)

-- there is such a run
some : (c : After-idle) → Reopens c.args.pool c.args.books c.args.directory (opening_of c.args.pool c.args.books c.args.directory)
some c = reopens_so c.args.pool c.args.books c.args.directory (λ no. sym c.open_run.ensures.accesses.0 ∙ (running c).untraced (c.open_run.ensures.same.1 ∙ no))

pub invariant_of-result : goal.invariant_of-result
invariant_of-result c = (opening_of c.args.pool c.args.books c.args.directory, [], at_first c (opening_of c.args.pool c.args.books c.args.directory) (some c))

pub returns-clause-at : goal.returns-clause-at
returns-clause-at c = at_first c
