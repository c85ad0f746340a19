-- What a program does to its machine.
pub mod Call
pub mod World
pub mod Given
pub mod Reported
pub mod Ready
pub mod Delivered
-- A machine in memory.
pub mod Memory
pub mod Spread
