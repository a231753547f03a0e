pub mod Growth
pub mod Live
pub mod Run
pub mod Steps
pub mod OpenCells
pub mod Inner
pub mod RefusalKinds
pub mod Effects
