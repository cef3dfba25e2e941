pub mod Results
pub mod Holding
pub mod Noting
