pub mod Histories
pub mod Enter
pub mod Answer
pub mod Blocks
pub mod Gives
pub mod EnterMoves
