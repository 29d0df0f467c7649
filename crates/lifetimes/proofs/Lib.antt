mod WaveFacts
mod ReadOrderFacts
mod JoinedFacts
mod LifeFacts
mod LineFacts
mod TallyFacts
mod TurnFacts
mod NeedFacts
