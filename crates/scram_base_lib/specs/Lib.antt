pub mod Channel
pub mod Shown
pub mod Stop
