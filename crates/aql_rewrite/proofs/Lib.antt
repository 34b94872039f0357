mod Forms
mod Steps
mod Compared
mod NodeForms
mod RenamingSteps
mod InPlace
mod Passed
