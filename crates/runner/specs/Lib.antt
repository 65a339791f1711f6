pub mod Refusals
pub mod Calls
pub mod Rules
pub mod Logs
pub mod Promise
pub mod Reached
pub mod Counted
pub mod Boards
