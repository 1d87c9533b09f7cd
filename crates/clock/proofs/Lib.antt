pub mod QuietSteps
