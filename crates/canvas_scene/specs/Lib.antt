pub mod Answers
pub mod Report
pub mod Results
pub mod Runs
