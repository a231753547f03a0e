pub mod Texts
mod Canonical
mod Lists
