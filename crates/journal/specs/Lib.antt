pub mod TableLines
pub mod Lines
pub mod Notices
pub mod Forms
pub mod Reading
