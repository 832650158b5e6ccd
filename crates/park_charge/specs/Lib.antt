pub mod Rounding
pub mod Flow
pub mod Losses
pub mod Generation
pub mod Charge
pub mod Reason
pub mod Former
pub mod ByTable
