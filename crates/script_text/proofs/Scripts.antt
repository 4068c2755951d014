-- That bytes are the spelling of what is read of them, and of nothing else.
pub mod SearchWords
pub mod ReadFields
pub mod ReadLoops
pub mod ReadLines
pub mod PrintOfRead
pub mod ReadOfPrint
pub mod BothWays
pub mod OneScript
pub mod Checked
pub mod Runs
