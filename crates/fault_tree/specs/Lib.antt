pub mod Expansions
pub mod Forming
pub mod Keeping
pub mod Leaves
pub mod Marks
pub mod Tables
pub mod Trees
