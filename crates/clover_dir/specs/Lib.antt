pub mod Bindings
pub mod Names
pub mod Index
pub mod Directory
pub mod Task
pub mod Holding
pub mod Going
pub mod Kept
