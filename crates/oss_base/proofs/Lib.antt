pub mod FaultNumbers
pub mod FirstFaults
mod SiteLaws
