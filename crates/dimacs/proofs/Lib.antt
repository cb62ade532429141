pub mod Cutting
pub mod PrintedNumbers
pub mod ReadingLaws
pub mod Breaks
pub mod Bodies
pub mod OneList
pub mod TextLaws
pub mod EntryLaws
