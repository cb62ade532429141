pub mod Locals
pub mod Composed
