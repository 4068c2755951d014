-- Which occurrences a search finds, and which keys of the index it asks for (JDT `SearchPattern`, `SearchMatch`).
pub mod TypePatterns
pub mod Fits
pub mod Scans
pub mod Admits
pub mod Keys
pub mod Laws
