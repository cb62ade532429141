pub mod Reversed
pub mod Linking
pub mod Orders
