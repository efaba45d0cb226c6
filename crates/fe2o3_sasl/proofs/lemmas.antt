pub mod audit
pub mod examples
pub mod histories
pub mod lists
pub mod machines
pub mod two_sides
