pub mod Numbers
pub mod Words
pub mod Tables
pub mod Views
pub mod Sinks
