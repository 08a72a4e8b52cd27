pub mod Ordinary
pub mod Draws
pub mod Chosen
pub mod Streams
pub mod Streaming
pub mod Laws
