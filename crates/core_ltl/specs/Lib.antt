pub mod CoreFormulas
pub mod Nodes
pub mod Order
pub mod Questions
pub mod Laws
pub mod NodeHash
pub mod Tables
pub mod Steps
