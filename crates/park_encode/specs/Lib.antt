pub mod Numbers
pub mod Encode
pub mod Laws
pub mod Refused
pub mod Cases
pub mod Inner
