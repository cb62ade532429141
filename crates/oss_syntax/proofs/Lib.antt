mod Distinct
pub mod Lists
