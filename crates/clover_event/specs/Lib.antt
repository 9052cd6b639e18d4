pub mod Folds
pub mod Ends
pub mod Run
pub mod Text
pub mod Alone
pub mod Client
pub mod Machine
pub mod Stepping
