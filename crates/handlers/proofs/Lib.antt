pub mod Order
pub mod Merging
pub mod Halves
pub mod Searching
pub mod Numbers
pub mod Laying
pub mod Few
