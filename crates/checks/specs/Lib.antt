pub mod Sections
pub mod Steps
pub mod MonitoredVersions
pub mod Entries
pub mod Lookups
pub mod Map
pub mod Calls
