pub mod Count
pub mod Shelf
pub mod Sink
pub mod Calls
pub mod MemShelf
pub mod MemSink
pub mod Laws
