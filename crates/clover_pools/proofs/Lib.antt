pub mod SmallPool
pub mod Granting
pub mod Calling
pub mod Serving
pub mod RecyclingSteps
pub mod ServerSteps
