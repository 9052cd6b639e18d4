use Rattle.std.proofs.Common.{◌∙◌, [], refl, sym, ap, subst, arith}
use Rattle.clover_words.specs.declared.setup.Setup.{Setup}
use Rattle.clover_rule.specs.declared.view.View.{View}
use Rattle.clover_alloc.specs.Ledger.{Ledger}
use Rattle.clover_dir.specs.Directory.{Bindings}
use Rattle.clover_plain.specs.Plain.{first_view, view_at}
use Rattle.clover_plain.proofs.Opening.{server_role}
use Rattle.clover_server.specs.Holding.{Agrees}
use Rattle.clover_server.specs.Server.{ServerState, new_server}
use Rattle.clover_pools.proofs.whole_calls.first_server.Goals as goal

pub returns : goal.returns
returns c = λ p b e.
    let s = c.args.setup in let books = c.in_ok-books.books in let one = c.requires.clients in
    let base = c.first_law.ensures s books (first_view s 1) c.in_ok-books.ensures.whole (ap (λ (l : Ledger). l.pool) c.in_ok-books.ensures.value) c.in_ok-books.ensures.free
    (record { idle = record { server = server_role s 1 (omega arith); task_is = refl }; directory = refl; roots = refl; books = refl }) in
    record {
      ready = b.new.ready;
      small = b.new.small;
      agrees = subst (λ (z : Setup). Agrees z.pool [] c.make-3.result (view_at p 1)) (sym e)
          (subst (λ (v : View). Agrees s.pool [] c.make-3.result v) (sym (b.server ∙ ap (λ (z : Setup). first_view z 1) e))
          (subst (λ (z : ServerState). Agrees s.pool [] z (first_view s 1)) (sym (c.make-3.ensures ∙ ap (λ (d : Bindings). new_server s books d) c.in_ok-directory.ensures)) base));
    }
