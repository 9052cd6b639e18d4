use Rattle.std.proofs.Common.{◌≡◌, true, take}
use Rattle.clover_script.specs.Coded.{coded}
use Rattle.clover_script.proofs.coded.are_plain.Given as goal

abbrev pub invariant-loop-byte : goal.invariant-loop-byte
invariant-loop-byte l = l.plain ≡ true → coded (take l.byte-index l.bytes) ≡ take l.byte-index l.bytes
