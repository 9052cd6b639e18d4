-- what a refusal names
use Rattle.std.specs.Prelude.{ℕ}
use Rattle.clover_words.specs.declared.pool.PoolField.{PoolField}
use Rattle.clover_words.specs.declared.pool.PoolFault.{PoolFault}

-- this number is out of this field's range
abbrev pub fault_at : PoolField → ℕ → PoolFault
fault_at field number = record { field = field; number = number }
