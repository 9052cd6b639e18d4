use Rattle.std.proofs.Common.{◌≡◌, ◌++◌, take}
use Rattle.clover_script.specs.Coded.{coded}
use Rattle.clover_script.proofs.coded.push_coded.Given as goal

abbrev pub invariant-loop-byte : goal.invariant-loop-byte
invariant-loop-byte l = l.out.items ≡ l.fn.out.items ++ coded (take l.byte-index l.bytes)
