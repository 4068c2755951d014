-- Laws and examples of the definitions of names.
pub mod Building
mod EnvironmentExamples
mod TypeNameExamples
mod SupertypeExamples
mod MemberExamples
mod OverloadExamples
pub mod Membership
pub mod Numbering
mod Reaching
pub mod SupertypeLaws
pub mod MemberLaws
pub mod OverloadLaws
pub mod MemberTypeLaws
pub mod TypeNameLaws
