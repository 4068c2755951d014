pub mod Accessing
pub mod Firsts
