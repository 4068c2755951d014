pub mod Scripts
pub mod SortedDocuments
pub mod Places
pub mod Printed
