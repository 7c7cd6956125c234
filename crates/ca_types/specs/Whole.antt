-- What a function is told from the place where its parameters begin.
use Rattle.ca_tree.specs.declared.tree.Function.{Function}
use Rattle.ca_model.specs.typing.Bodies.{Inside, Told, and_then}
use Rattle.ca_model.specs.typing.Functions.{parameters_told, body_told}

abbrev pub told_whole : Inside → Function → Told
told_whole c f = and_then (parameters_told c f.parameters) (λ d. body_told d f.body)
