pub mod TokenRises
pub mod UnlockPlaces
pub mod Takings
pub mod ReservedStarts
pub mod SessionMoves
pub mod OpenedStarts
pub mod EndedPushes
pub mod AnsweredTokens
