pub mod Normal
pub mod Overtaken
