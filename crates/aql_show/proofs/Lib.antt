pub mod Reserved
pub mod Forms
pub mod Appended
pub mod LastBound
pub mod Lines
pub mod WorkedTexts
