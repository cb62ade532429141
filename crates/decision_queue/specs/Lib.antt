pub mod Order
pub mod Neighbours
