pub mod Cases
pub mod Casting
pub mod Elements
pub mod Leading
pub mod Operators
pub mod Results
