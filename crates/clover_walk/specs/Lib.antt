pub mod Walking
pub mod Turning
pub mod Standing
pub mod Kept
pub mod Ending
pub mod Alone
pub mod Finding
