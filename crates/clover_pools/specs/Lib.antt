pub mod Recycling
pub mod Small
pub mod Calls
pub mod Grants
pub mod Turns
pub mod Server
