pub mod Families
pub mod Orders
pub mod Searches
