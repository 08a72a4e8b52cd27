pub mod History
pub mod Seen
pub mod Histories
pub mod Arrival
