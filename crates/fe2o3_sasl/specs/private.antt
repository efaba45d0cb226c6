-- What contracts of private functions cite. A reader need not trust it.
pub mod Receipts
pub mod ClientReceipts
pub mod ServerReceipts
pub mod Findings
