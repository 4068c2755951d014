pub mod Disk
pub mod Calls
pub mod Steps
pub mod Told
pub mod Memory
pub mod MemoryLaws
pub mod Folder
pub mod Crash
