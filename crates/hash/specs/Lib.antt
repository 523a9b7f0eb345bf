pub mod Bytes
pub mod Words
pub mod Block
pub mod Sha256
pub mod Hasher
pub mod Hmac
