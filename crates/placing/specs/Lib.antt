pub mod Place
pub mod PlaceSteps
