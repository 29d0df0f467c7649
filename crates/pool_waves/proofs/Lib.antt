pub mod SwapFacts
pub mod ExchangeFacts
pub mod WaveFacts
