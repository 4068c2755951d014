pub mod InTurn
pub mod InOrder
pub mod Tops
pub mod Leading
