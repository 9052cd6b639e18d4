pub mod Going
pub mod Testing
