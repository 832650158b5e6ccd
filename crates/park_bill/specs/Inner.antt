-- What only the contracts of inner functions and the proofs speak of. No contract of a call meant for others uses it.
pub mod Site
pub mod Outcome
