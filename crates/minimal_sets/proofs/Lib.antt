mod BlockLaws
mod PlaceByPlace
mod Cursors
mod Ranks
