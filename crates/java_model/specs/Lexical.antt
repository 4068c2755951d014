-- The lexical structure of Java (JLS 3), from the bytes of a text to its tokens or its first fault.
pub mod Characters
pub mod Escapes
pub mod Comments
pub mod Numbers
pub mod Quoted
pub mod Symbols
pub mod Words
pub mod Elements
pub mod Tokens
pub mod Faults
pub mod Laws
