pub mod KindReads
pub mod Enumerations
pub mod DifferentNames
pub mod FilledTypes
pub mod ContractKinds
pub mod ConnectionKinds
pub mod FileTypes
pub mod FreeReads
