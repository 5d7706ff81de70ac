pub mod StepsRead
pub mod ScheduleLaws
pub mod Beginnings
pub mod StepLaws
pub mod Laid
