pub mod Shapes
pub mod Marking
pub mod Initials
pub mod Input
pub mod Reading
pub mod Answers
pub mod ReadingLaws
pub mod Targets
