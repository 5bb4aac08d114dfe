pub mod Obeys
