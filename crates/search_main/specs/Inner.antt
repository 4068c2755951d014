-- What only private contracts cite: no public clause needs it.
pub mod Views
pub mod Located
pub mod Replied
