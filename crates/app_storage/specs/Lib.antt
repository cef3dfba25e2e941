pub mod Faults
pub mod Leases
pub mod Refusals
