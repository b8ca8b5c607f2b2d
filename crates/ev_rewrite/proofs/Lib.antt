pub mod TypeParts
pub mod MatchLaws
pub mod SlotSteps
pub mod TakenSteps
pub mod MatchAnswers
pub mod LoweredSteps
pub mod PlaceSteps
pub mod PlaceProofs
mod PlaceExamples
mod MatchExamples
