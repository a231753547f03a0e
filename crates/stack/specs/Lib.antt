pub mod Slab
pub mod Points
pub mod Frames
pub mod Globals
