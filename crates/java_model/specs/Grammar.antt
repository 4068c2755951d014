-- The grammar of Java (JLS 18) as a relation: which trees have a shape, and the tokens that they yield.
pub mod Marks
pub mod Signs
pub mod Readings
pub mod Pieces
pub mod YieldExpr
pub mod Forms
pub mod Expressions
pub mod Runs
pub mod YieldStmt
pub mod Statements
pub mod Follows
pub mod YieldUnit
pub mod Units
pub mod Braces
