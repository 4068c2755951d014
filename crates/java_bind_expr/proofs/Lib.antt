pub mod Called
pub mod Digits
pub mod Enclosing
pub mod Lasts
