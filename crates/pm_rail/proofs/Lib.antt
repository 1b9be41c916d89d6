-- Lemmas of the laws that no other crate uses.
mod SurveyBand
mod Free
