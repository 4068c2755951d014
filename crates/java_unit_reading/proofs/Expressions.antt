-- What is asked of the readers of expressions, and that java_expr_reading's keep it.
pub mod Holding
pub mod Stops
pub mod Firsts
pub mod Opens
pub mod Deeper
pub mod Alike
pub mod Alone
pub mod Instance
pub mod Placed
