pub mod Fetch
pub mod Keys
