pub mod Putting
pub mod Answering
pub mod Holding
pub mod Finding
pub mod Going
pub mod Standing
pub mod Kept
pub mod Alone
