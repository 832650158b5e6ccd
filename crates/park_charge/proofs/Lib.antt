pub mod Product
mod Signs
pub mod Bounds
pub mod Due
pub mod Former
pub mod ByTable
