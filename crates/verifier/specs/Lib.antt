pub mod Exports
pub mod Request
pub mod Files
