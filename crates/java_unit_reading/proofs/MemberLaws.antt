-- Members: what is read stands in the tokens, and what stands there is read.
pub mod Sound
pub mod Complete
pub mod Whole
