pub mod Reuse
pub mod Keys
pub mod Preselection
pub mod Declarations
pub mod Constructors
pub mod Order
pub mod Documents
pub mod Bindings
