pub mod Lexical
pub mod Grammar
mod OutlineExamples
pub mod OutlineLaws
mod SearchPattern
mod Names
mod Matches
pub mod Places
pub mod PlaceLaws
pub mod Walks
pub mod DeclaredLaws
pub mod CallLaws
pub mod NodeLaws
mod PlaceExamples
pub mod KindLaws
pub mod SpelledLaws
pub mod SpelledNodes
pub mod ContextLaws
pub mod IndexFile
pub mod SamePlaces
pub mod DocumentTextLaws
mod DocumentTextExamples
mod TextExamples
