pub mod AuditLemmas
pub mod ClientReceiptLemmas
pub mod CoverLemmas
pub mod FoundLemmas
pub mod IndexLemmas
pub mod RepeatedFindingLemmas
pub mod ResponseLemmas
pub mod ServerReceiptLemmas
