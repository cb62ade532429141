pub mod Grouping
pub mod Operands
pub mod Sequences
pub mod Begins
pub mod Rules
pub mod Texts
pub mod Spans
pub mod Digits
pub mod Lengths
pub mod Results
mod WordTables
