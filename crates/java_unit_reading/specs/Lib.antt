pub mod Reading
pub mod ReadingLaws
pub mod Gives
pub mod Bodies
