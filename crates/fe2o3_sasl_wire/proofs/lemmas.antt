-- The lemmas: what reading and writing do, and what follows of frames.
pub mod CodeLemmas
pub mod frames
pub mod reading
pub mod writing
