pub mod Rounds1
pub mod Rounds256
pub mod Rounds512
