pub mod AlignedInstruction
pub mod AlignedFloating
pub mod AcceptableStep
pub mod AcceptableRun
