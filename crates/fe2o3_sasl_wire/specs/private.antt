-- What only private contracts and the laws of impls cite. A reader need not trust these to trust a public contract.
pub mod Fields
pub mod Kinds
pub mod Reading
pub mod Sameness
pub mod Writing
