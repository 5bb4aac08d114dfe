pub mod Marking
pub mod Seeking
