mod Given
mod Named
mod Stepped
