pub mod Calling
pub mod Mirroring
pub mod Caller
pub mod Turning
pub mod Going
pub mod Kept
pub mod Beginning
