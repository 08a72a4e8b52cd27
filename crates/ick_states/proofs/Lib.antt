pub mod Hushing
pub mod Keeping
pub mod SameLists
pub mod ByteSums
pub mod Mixing
pub mod Equals
pub mod Looking
pub mod SameRuns
