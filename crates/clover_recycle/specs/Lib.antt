pub mod Recycling
pub mod Holding
pub mod Answering
pub mod Sweeping
