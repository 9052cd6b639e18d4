pub mod Order
pub mod Searching
pub mod Pairs
pub mod Roots
pub mod Asking
pub mod Went
