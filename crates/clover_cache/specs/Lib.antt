pub mod Cursors
pub mod Node
