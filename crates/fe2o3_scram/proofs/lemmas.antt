pub mod examples
pub mod hashes
pub mod messages
pub mod providers
pub mod texts
