pub mod Bounded
pub mod Bounds
pub mod Checks
pub mod Laws
pub mod Refusals
pub mod Rounding
pub mod TaskSet
pub mod Words
