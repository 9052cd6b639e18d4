use Rattle.std.proofs.Common.{◌≡◌, ℕ, ◌*◌, List, length}
use Rattle.std.specs.Prelude.{Some}
use Rattle.std.specs.Option.{option_map}
use Rattle.clover_words.specs.Tag.{TagParts, tag_number}
use Rattle.clover_rule.specs.Content.{InRange}
use Rattle.clover_image.specs.Reading.{decoded}
use Rattle.clover_image.specs.Walking.{AreMarked, AreWalked, IsWalked}
use Rattle.clover_image.proofs.soundness.chain.Given as goal

abbrev pub invariant-loop-step : goal.invariant-loop-step
invariant-loop-step l = record {
  range : (t : TagParts) → l.next ≡ Some t → InRange l.image.pool (tag_number t);
  sized : length l.met ≡ l.image.pool.nodes * l.image.pool.buffers;
  walked : (slot : ℕ) (tags : ℕ → List ℕ) → (decoded l.image).root slot ≡ Some (tag_number l.fn.root) → AreWalked l.image slot tags → AreMarked l.image.pool tags l.initial.met
      → (more : ℕ → List ℕ) × IsWalked l.image slot (option_map tag_number l.next) more × AreMarked l.image.pool more l.met × (length (more slot) ≡ l._step);
}
