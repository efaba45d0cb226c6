pub mod OneAuditLemmas
pub mod VerdictLemmas
