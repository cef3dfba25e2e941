pub mod Faulty
pub mod Numbers
pub mod Playing
pub mod Taking
