pub mod Answers
pub mod Exceptions
pub mod Functions
pub mod Integers
pub mod Message
pub mod Operators
pub mod Results
pub mod Values
