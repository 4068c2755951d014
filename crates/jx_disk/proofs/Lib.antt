pub mod ToldLaws
pub mod Replaying
pub mod MemoryCalls
pub mod Interrupting
pub mod Moments
pub mod Crashes
pub mod Making
