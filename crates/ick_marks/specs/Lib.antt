pub mod TrailChanges
pub mod Saved
pub mod Newest
