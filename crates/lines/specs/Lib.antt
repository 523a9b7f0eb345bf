pub mod Layout
pub mod Number
pub mod Hex
pub mod Field
pub mod Line
pub mod Cursor
pub mod Writing
pub mod Readings
