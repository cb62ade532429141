pub mod WatchLists
pub mod Records
