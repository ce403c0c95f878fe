pub mod Puts
pub mod LoadForms
pub mod Numbers
pub mod ServiceBytes
