pub mod Choosing
pub mod Image
pub mod Reading
pub mod Contents
pub mod Walking
pub mod Damage
pub mod Laws
pub mod Text
