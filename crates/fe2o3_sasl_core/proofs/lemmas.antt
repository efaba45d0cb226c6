pub mod frames
pub mod histories
pub mod lists
pub mod machines
pub mod positions
pub mod steps
pub mod two_sides
pub mod unaltered
