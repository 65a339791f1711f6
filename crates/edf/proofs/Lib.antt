pub mod Sums
pub mod Below
pub mod Positions
pub mod Choice
mod Pending
mod Spans
mod Cause
mod Owner
pub mod Miss
mod Account
pub mod JobService
pub mod Timetables
pub mod Refuse
pub mod Locality
pub mod Periods
pub mod Repeats
pub mod Multiples
pub mod Releases
pub mod Verdicts
pub mod Sizes
pub mod Counts
pub mod Worked
pub mod Misled
