pub mod Answered
pub mod Bounding
pub mod Compared
