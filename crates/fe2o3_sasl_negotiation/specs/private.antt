pub mod Units
pub mod Pieces
