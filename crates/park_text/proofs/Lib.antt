pub mod Digits
pub mod Readings
pub mod Writers
pub mod Lines
pub mod Answers
pub mod Instances
pub mod CaseTest
