pub mod Rallies
