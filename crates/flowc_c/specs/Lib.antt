pub mod Buffer
pub mod Outcome
pub mod Results
pub mod Hosts
pub mod Opening
