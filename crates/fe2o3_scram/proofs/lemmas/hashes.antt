pub mod DigestLemmas
pub mod HiRoundLemmas
pub mod NameLemmas
pub mod OnePadLemmas
pub mod PadLoopLemmas
pub mod PieceLemmas
pub mod XorLoopLemmas
pub mod SameBytesLemmas
