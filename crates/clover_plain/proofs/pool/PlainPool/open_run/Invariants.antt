use Rattle.clover_plain.specs.Reopening.{with_server}
use Rattle.clover_plain.proofs.pool.PlainPool.open_run.Given as goal

abbrev pub ghosts-serve_view : goal.ghosts-serve_view
ghosts-serve_view a = record { becomes = λ v. with_server a.setup.now a.books.now a.directory.now v }
