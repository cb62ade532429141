pub mod FreePortNames
pub mod LassoBlocks
pub mod TextLines
pub mod LassoFiles
pub mod Reading
pub mod Judgements
pub mod Judging
pub mod Laws
