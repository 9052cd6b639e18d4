pub mod Loading
pub mod Counted
pub mod OnSlot
pub mod Starting
pub mod Writing
pub mod Learning
pub mod Granted
pub mod Finishing
