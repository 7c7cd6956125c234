mod TokenWords
mod ExpressionShapes
mod PhraseShapes
mod StatementShapes
mod DeclarationShapes
mod TextWords
