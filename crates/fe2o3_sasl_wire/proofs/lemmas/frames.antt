-- What holds of whole bodies: no spelling begins another, each body has one answer, and the laws.
pub mod BodyAnswerLemmas
pub mod FrameTextLemmas
pub mod LawLemmas
pub mod PrefixLemmas
pub mod ValueLemmas
