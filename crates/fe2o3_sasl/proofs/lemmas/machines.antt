pub mod KeyedRunLemmas
pub mod MechanismLemmas
pub mod PlainRunLemmas
pub mod SomeOfferLemmas
pub mod SomeReplyLemmas
