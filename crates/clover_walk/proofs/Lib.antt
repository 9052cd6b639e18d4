pub mod Alone
pub mod Calling
pub mod Codes
pub mod Endings
pub mod Promises
pub mod Shown
pub mod Goes
