pub mod Choosing
pub mod Masks
pub mod Releasing
pub mod Rowwise
pub mod Stepping
pub mod Ticking
