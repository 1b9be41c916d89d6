pub mod LinesAndWords
pub mod ReadDigits
