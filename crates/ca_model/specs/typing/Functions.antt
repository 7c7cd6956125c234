-- Definitions of functions (C11 6.9.1).
use Rattle.std.specs.Prelude.{ℕ, List, [], ◌∷◌, ◌++◌, length, Option, Some, None}
use Rattle.ca_tree.specs.declared.tree.Name.{Name}
use Rattle.ca_tree.specs.declared.tree.Parameter.{Parameter}
use Rattle.ca_tree.specs.declared.tree.Body.{Body}
use Rattle.ca_tree.specs.declared.tree.Function.{Function}
use Rattle.ca_model.specs.declared.tree.Act.TheVariants as act
use Rattle.ca_model.specs.declared.tree.Function.{Function as TypedFunction}
use Rattle.ca_model.specs.declared.types.TypeFault.{TypeFault}
use Rattle.ca_model.specs.declared.types.ObjectType.{ObjectType}
use Rattle.ca_model.specs.typing.Scopes.{Context}
use Rattle.ca_model.specs.typing.Bodies.{Inside, Told, and_then, in_order}
use Rattle.ca_model.specs.typing.Locals.{declared, declared_faults, item}
use Rattle.ca_model.specs.typing.Statements.{all_told}
use Rattle.ca_model.specs.typing.Known.{Known}
use Rattle.ca_model.specs.typing.Signatures.{result_type, parameter_type, function_faults, with_signature}

abbrev pub begun : Context → Option ObjectType → Inside
begun c r = record { context = record c { scope = record c.scope { locals = [] } }; outer = 0; count = 0; result = r }

-- a parameter without a name is none that can be seen
abbrev pub with_parameter : Inside → Option Name → Option ObjectType → Inside
with_parameter c None t = c
with_parameter c (Some n) t = declared c n t

abbrev pub parameter_name_faults : Inside → Option Name → List TypeFault
parameter_name_faults c None = []
parameter_name_faults c (Some n) = declared_faults c n

abbrev pub a_parameter : Inside → Parameter → Told
a_parameter c a = record { stmts = []; faults = parameter_name_faults c a.name; behind = with_parameter c a.name (parameter_type c.context.scope a) }

abbrev pub parameters_told : Inside → List Parameter → Told
parameters_told c ps = in_order a_parameter ps c

-- its parameters, and its body where it has one; they stand in one block
abbrev pub body_told : Inside → Option Body → Told
body_told c None = record { stmts = []; faults = []; behind = c }
body_told c (Some b) = all_told b.statements c

abbrev pub typed_function : ℕ → ℕ → Told → Body → TypedFunction
typed_function i parameters x b = record { id = record { 0 = i }; parameters = parameters; locals = x.behind.count; body = x.stmts; close = item b.close act.Close }

abbrev pub functions_of : ℕ → ℕ → Told → Option Body → List TypedFunction
functions_of i parameters x None = []
functions_of i parameters x (Some b) = typed_function i parameters x b ∷ []

abbrev pub told_in : Context → Function → Told
told_in c f = and_then (parameters_told (begun c (result_type c.scope f.result)) f.parameters) (λ d. body_told d f.body)

abbrev pub with_function : Known → Function → Known
with_function k f =
    record k {
      context = with_signature k.context f;
      functions = k.functions ++ functions_of (length k.functions) (length f.parameters) (told_in (with_signature k.context f) f) f.body;
      faults = k.faults ++ (function_faults k.context f ++ (told_in (with_signature k.context f) f).faults);
    }
