-- What contracts of private functions cite. A reader need not trust it.
pub mod Writing
pub mod ServerMoves
