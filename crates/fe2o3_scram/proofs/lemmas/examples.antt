pub mod MemoryExampleLemmas
pub mod MovedChannelLemmas
