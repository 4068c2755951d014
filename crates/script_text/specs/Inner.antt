-- What only private contracts cite: no public clause needs it.
pub mod Reading
pub mod Checks
pub mod Sorted
