pub mod HeadLaws
pub mod Invoking
pub mod DepthLaws
pub mod ParseLaws
