pub mod NodeLaws
pub mod StepLaws
