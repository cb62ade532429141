mod Substituting
mod LevelKinds
mod PlaceKinds
mod ClosureKinds
mod Clear
mod Coded
