-- What names mean in small units.
mod Kit
mod Outs
mod Fields
mod Calls
mod Packages
mod Accesses
mod Locals
mod Types
mod Constructors
mod Headers
mod Whole
mod Members
