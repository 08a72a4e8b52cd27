pub mod Seen
pub mod Alike
pub mod Hashed
pub mod Sizes
