-- What the names of a program mean (JLS 6, 8, 9, 15): the types that documents declare, their supertypes
-- and members, conversions and overloads.
pub mod Lists
pub mod Environments
pub mod Access
pub mod TypeNames
pub mod Supertypes
pub mod Types
pub mod MemberTypes
pub mod Fields
pub mod Methods
pub mod Conversions
pub mod Overloads
pub mod Accessibility
pub mod Laws
