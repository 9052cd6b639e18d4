use Rattle.std.proofs.Common.{◌∙◌, ◌≡◌, [], sym, ap, subst}
use Rattle.clover_alloc.specs.Ledger.{Ledger, new_ledger}
use Rattle.clover_dir.specs.Directory.{Bindings, nothing_bound}
use Rattle.clover_server.specs.Holding.{Agrees}
use Rattle.clover_server.specs.Server.{new_server}
use Rattle.clover_run.specs.Machine.{first_served, new_side}
use Rattle.clover_run.specs.declared.served.Served.{Served}
use Rattle.clover_run.proofs.machine.first_side.Goals as goal

pub returns : goal.returns
returns c =
    let s = c.args.setup in
    let books = c.in_ok-books.books in
    let is : c.new_side.result ≡ new_side s books (nothing_bound s.pool) = c.new_side.ensures ∙ ap (λ (d : Bindings). new_side s books d) c.in_ok-directory.ensures in
    record {
      value = is ∙ ap (λ (b : Ledger). new_side s b (nothing_bound s.pool)) c.in_ok-books.ensures.value;
      agrees = λ w first. subst (λ (v : Served). Agrees s.pool [] v.server w) (sym is)
          (c.first_law.ensures s books w c.in_ok-books.ensures.whole (ap (λ (l : Ledger). l.pool) c.in_ok-books.ensures.value) c.in_ok-books.ensures.free first);
    }
