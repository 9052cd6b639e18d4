use Rattle.std.proofs.Common.{◌≡◌, ◌++◌, List, ℕ, length, take}
use Rattle.clover_words.specs.Pack.{AreBytes}
use Rattle.clover_script.specs.Coded.{coded}
use Rattle.clover_script.proofs.coded.decode_into.Given as goal

abbrev pub invariant-loop-index : goal.invariant-loop-index
invariant-loop-index l = record {
  room : length l.room ≡ length l.fn.room;
  left : (bytes : List ℕ) → AreBytes bytes → l.text ≡ coded bytes → (more : List ℕ) × AreBytes more × (l.rest ≡ coded more) × (bytes ≡ take l.index l.room ++ more);
}
