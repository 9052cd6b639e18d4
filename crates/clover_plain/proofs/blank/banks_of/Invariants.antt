use Rattle.std.proofs.Common.{◌≡◌, [], replicate}
use Rattle.clover_plain.proofs.blank.banks_of.Given as goal

abbrev pub invariant-loop : goal.invariant-loop
invariant-loop l = l.banks.items ≡ replicate l.counter []
