-- The tree of a unit as nodes within nodes.
pub mod Nodes
pub mod InExpressions
pub mod InStatements
pub mod Children
