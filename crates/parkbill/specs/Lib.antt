pub mod Read
pub mod Answers
