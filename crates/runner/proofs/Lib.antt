mod Spare
mod Following
pub mod Kept
pub mod Judging
pub mod Promised
pub mod Reaching
mod Broken
mod Boarding
mod Loading
