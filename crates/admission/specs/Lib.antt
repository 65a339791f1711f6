pub mod Verdicts
pub mod Judgement
pub mod Searches
pub mod Refusals
