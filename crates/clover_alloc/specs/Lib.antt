pub mod Batch
pub mod Lines
pub mod Ledger
pub mod Taking
pub mod Kept
pub mod Calls
