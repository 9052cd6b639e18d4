pub mod Outages
pub mod Stores
pub mod Items
pub mod Cuts
pub mod ItemLines
pub mod Laws
