mod Giving
mod Serving
pub mod Doing
