pub mod Sends
mod Faults
mod Live
mod Heres
