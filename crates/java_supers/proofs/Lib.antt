pub mod Deep
pub mod Elements
pub mod Heads
pub mod Noting
pub mod Ranks
pub mod Reaches
pub mod Tables
pub mod Walks
