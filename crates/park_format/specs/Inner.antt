-- What only the contracts of inner functions and the proofs speak of. No contract of a call meant for others uses it.
pub mod Sized
pub mod Hours
pub mod Meters
pub mod Recorded
pub mod Set
pub mod Stored
