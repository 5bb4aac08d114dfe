-- What only the code's inner contracts and the proofs need. No reviewer has to believe it: each use of it is proved.
pub mod Followed
pub mod Lie
