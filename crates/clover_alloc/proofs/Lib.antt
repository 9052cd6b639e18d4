pub mod BitLemmas
pub mod NodeLemmas
pub mod LedgerLemmas
pub mod KeptLemmas
pub mod CallLemmas
pub mod TakingLemmas
pub mod SequenceLemmas
