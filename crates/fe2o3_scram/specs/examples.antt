-- A reader need not trust these: they are worked examples of the definitions.
pub mod MemoryExamples
pub mod MovedChannels
