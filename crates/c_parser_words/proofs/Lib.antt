pub mod TypeParts
pub mod Among
pub mod Skipped
pub mod TypeNames
pub mod SpecifierWords
pub mod ParameterForms
pub mod TypedefForms
pub mod DeclaredTypes
