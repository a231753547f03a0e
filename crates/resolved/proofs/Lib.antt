pub mod Cases
pub mod Views
pub mod Sound
pub mod Exits
pub mod Judged
pub mod WellFormedParts
pub mod Growing
pub mod Measured
pub mod Demands
pub mod Flow
mod ExceptionNames
