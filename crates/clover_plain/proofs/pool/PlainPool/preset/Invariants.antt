use Rattle.clover_plain.proofs.pool.PlainPool.preset.Given as goal

abbrev pub ghosts-begin : goal.ghosts-begin
ghosts-begin a = record { words = a.words.now }
