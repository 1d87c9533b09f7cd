pub mod Comparison
pub mod EqualTranscripts
pub mod Differences
pub mod StepsAgree
pub mod RunsAgree
pub mod SoundRun
pub mod RefusalThree
pub mod Exception
