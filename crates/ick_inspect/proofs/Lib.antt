pub mod AddLaws
mod ReaderLemmas
mod TextLemmas
mod PositionLemmas
mod PlacedLemmas
mod Rows
