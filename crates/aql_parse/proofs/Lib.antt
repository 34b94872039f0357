mod ParseLaws
mod Levels
mod Each
