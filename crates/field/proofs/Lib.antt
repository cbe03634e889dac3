-- Laws of the field step.
pub mod Steps
