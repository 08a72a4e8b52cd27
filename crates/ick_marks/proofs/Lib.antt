pub mod Names
pub mod Changes
pub mod Readiness
pub mod Saving
pub mod Copying
