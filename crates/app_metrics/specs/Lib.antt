pub mod Prometheus
pub mod Numbers
pub mod Judged
