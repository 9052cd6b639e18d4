use Rattle.std.proofs.Common.{◌≡◌, ◌<◌, ◌++◌, ℕ, length, get_or}
use Rattle.clover_plain.proofs.pool.cut.rest.Given as goal

abbrev pub invariant-loop-at : goal.invariant-loop-at
invariant-loop-at l = record {
  long : length l.words ≡ length l.initial.words;
  written : (i : ℕ) → i < l.at → get_or l.words i 0 ≡ get_or (l.kept ++ l.kept) i 0;
}
