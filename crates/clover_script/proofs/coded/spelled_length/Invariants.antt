use Rattle.std.proofs.Common.{◌≡◌, ◌+◌, ◌≤◌, ◌++◌, List, ℕ, length}
use Rattle.clover_words.specs.Pack.{AreBytes}
use Rattle.clover_script.specs.Coded.{coded}
use Rattle.clover_script.proofs.coded.spelled_length.Given as goal

abbrev pub invariant-loop-rest : goal.invariant-loop-rest
invariant-loop-rest l = record {
  read : (front : List ℕ) × AreBytes front × (l.text ≡ coded front ++ l.rest) × (l.length ≡ length front);
  size : l.length + length l.rest ≤ length l.text;
  no_other : (all : List ℕ) → AreBytes all → l.text ≡ coded all → (more : List ℕ) × AreBytes more × (l.rest ≡ coded more);
}

abbrev pub decreases-loop-rest : goal.decreases-loop-rest
decreases-loop-rest l = length l.rest
