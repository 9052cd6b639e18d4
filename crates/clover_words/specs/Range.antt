-- the ranges of a pool's numbers and of a setup's
use Rattle.std.specs.Prelude.{◌≡◌, ℕ, ◌*◌, ◌&&◌, nat_le, if◌then◌else◌, Option, Some, None, Bool}
use Rattle.clover_words.specs.declared.pool.Pool.{Pool}
use Rattle.clover_words.specs.declared.pool.PoolField.TheVariants.{Nodes, Buffers, Slots, Words, Wear, Clients, Batch}
use Rattle.clover_words.specs.declared.pool.PoolFault.{PoolFault}
use Rattle.clover_words.specs.Fault.{fault_at}

-- the pool has these numbers
abbrev pub HasNumbers : Pool → ℕ → ℕ → ℕ → ℕ → ℕ → Type 0
HasNumbers p nodes buffers slots words wear =
    (p.nodes ≡ nodes) × (p.buffers ≡ buffers) × (p.slots ≡ slots) × (p.words ≡ words) × (p.wear ≡ wear)

-- the number is in 1..=most
abbrev pub from_one : ℕ → ℕ → Bool
from_one most n = nat_le 1 n && nat_le n most

-- the first number of a pool that is out of its range; buffers are at most 65,536 in the whole pool
abbrev pub first_fault : ℕ → ℕ → ℕ → ℕ → ℕ → Option PoolFault
first_fault nodes buffers slots words wear =
    if from_one 16 nodes then
    if from_one 65536 buffers && nat_le (nodes * buffers) 65536 then
    if from_one 16384 slots then
    if from_one 128 words then
    if from_one 1048575 wear then None
    else Some (fault_at Wear wear)
    else Some (fault_at Words words)
    else Some (fault_at Slots slots)
    else Some (fault_at Buffers buffers)
    else Some (fault_at Nodes nodes)

-- the first of a setup's own numbers that is out of its range
abbrev pub first_setup_fault : ℕ → ℕ → Option PoolFault
first_setup_fault clients batch =
    if from_one 16 clients then
    if from_one 64 batch then None
    else Some (fault_at Batch batch)
    else Some (fault_at Clients clients)
