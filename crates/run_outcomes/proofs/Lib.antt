pub mod Choices
pub mod GivenBack
pub mod Laws
