pub mod Pieces
pub mod Symbols
pub mod Digits
pub mod Fronts
pub mod Cuts
pub mod Places
