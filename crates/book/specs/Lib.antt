pub mod Bytes
pub mod Cursors
pub mod Decoded
pub mod Reading
pub mod Refusals
pub mod RoundTrip
pub mod Seats
pub mod Writing
