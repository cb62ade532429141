pub mod MemorySink
pub mod Operands
pub mod Outside
pub mod Real
pub mod Shelves
pub mod Stored
