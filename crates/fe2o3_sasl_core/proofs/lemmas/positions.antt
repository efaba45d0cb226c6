pub mod OpenStateLemmas
pub mod PositionLemmas
