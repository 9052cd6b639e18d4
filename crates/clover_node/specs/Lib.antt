pub mod Node
pub mod Turning
pub mod Asking
pub mod Beginning
pub mod Mirroring
pub mod Going
pub mod Accepting
pub mod Trying
