pub mod Ahead
pub mod Leads
pub mod Phrases
pub mod Readable
pub mod Reads
pub mod Rules
pub mod Words
