pub mod NamesOn
pub mod StepsOn
pub mod Reading
