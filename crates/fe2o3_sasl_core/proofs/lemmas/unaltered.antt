pub mod UnalteredReplyLemmas
pub mod UnalteredStepLemmas
pub mod UnalteredRunLemmas
