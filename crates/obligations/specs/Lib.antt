pub mod Laws
pub mod Names
pub mod Systems
pub mod Validity
