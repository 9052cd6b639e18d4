pub mod Alone
pub mod Begins
pub mod Copies
pub mod Counting
pub mod Ends
pub mod Versions
pub mod Walks
