-- A reader need not trust these: they say what the code holds, and only private contracts cite them.
pub mod Audit
