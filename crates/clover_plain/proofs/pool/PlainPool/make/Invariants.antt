use Rattle.clover_plain.proofs.pool.PlainPool.make.Given as goal

abbrev pub ghosts-begin : goal.ghosts-begin
ghosts-begin a = record { words = a.words.now }
