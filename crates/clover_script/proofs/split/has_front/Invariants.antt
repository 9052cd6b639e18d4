use Rattle.std.proofs.Common.{◌≡◌, ◌≤◌, length, take}
use Rattle.clover_script.proofs.split.has_front.Given as goal

abbrev pub invariant-loop-index : goal.invariant-loop-index
invariant-loop-index l = record {
  long : length l.word ≤ length l.text;
  same : take l.index l.text ≡ take l.index l.word;
}
