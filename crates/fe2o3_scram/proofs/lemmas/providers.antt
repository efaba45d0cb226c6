pub mod ByNameLemmas
pub mod LookUpLemmas
pub mod MixedLemmas
pub mod MockLemmas
pub mod PasswordLemmas
