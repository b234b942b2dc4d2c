pub mod Sliders
