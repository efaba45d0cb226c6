pub mod AsciiLemmas
pub mod KeptLemmas
pub mod ListLemmas
pub mod RuleLemmas
pub mod TableLemmas
