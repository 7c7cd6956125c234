pub mod Fronts
pub mod DeclarationSteps
pub mod Parentheses
pub mod WholeTexts
