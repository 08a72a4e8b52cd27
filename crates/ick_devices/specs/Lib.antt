pub mod Feeds
pub mod Whole
pub mod Written
