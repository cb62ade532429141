pub mod Standing
pub mod FirstFaults
pub mod StateSources
pub mod Laws
pub mod Assembling
