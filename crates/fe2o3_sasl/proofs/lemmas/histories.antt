pub mod RepeatedNonceLemmas
