mod Lives
mod Jobs
mod SimulatedBuses
mod CourseSteps
