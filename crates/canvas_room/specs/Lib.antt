pub mod Rooms
pub mod Seats
pub mod Batches
