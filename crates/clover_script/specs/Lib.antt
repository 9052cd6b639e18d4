pub mod Choice
pub mod Coded
pub mod Laws
pub mod Line
pub mod Lines
pub mod Spelling
pub mod Split
pub mod Text
