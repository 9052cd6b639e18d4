-- An image of the code as the rule reads it, and the places of its buffers.
use Rattle.std.specs.Prelude.{ℕ, ◌+◌, ◌*◌, ◌/◌, ◌%◌}
use Rattle.clover_words.specs.declared.pool.Pool.{Pool}
pub use Rattle.clover_image.specs.Reading.{decoded, number_of, HasKey}

-- the buffer at a place among the pool's, as the rule has it, and the place of one
abbrev pub number_at : Pool → ℕ → ℕ
number_at p q = q / p.buffers * 65536 + q % p.buffers

abbrev pub place_at : Pool → ℕ → ℕ
place_at p b = b / 65536 * p.buffers + b % 65536
