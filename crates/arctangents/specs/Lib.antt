pub mod Arctangents
