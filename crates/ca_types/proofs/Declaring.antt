-- Declarations of functions.
use Rattle.std.proofs.Common.{◌≡◌, Bool, ◌||◌, List, ◌++◌, Option, ap, ◌∙◌}
use Rattle.std.specs.Prelude.{is_some}
use Rattle.ca_tree.specs.declared.tree.Parameter.{Parameter}
use Rattle.ca_tree.specs.declared.tree.Function.{Function}
use Rattle.ca_model.specs.declared.types.TypeFault.{TypeFault}
use Rattle.ca_model.specs.declared.types.TypeKind.TheVariants as wrong
use Rattle.ca_model.specs.typing.Faults.{fault, unless}
use Rattle.ca_model.specs.typing.Scopes.{Context, Signature}
use Rattle.ca_model.specs.typing.Signatures.{result_faults, parameter_faults, signature, is_new, is_right, is_defined, function_faults}
use Rattle.ca_operands.specs.Noted.{noted}
use Rattle.ca_operands.proofs.Noting.{noted_two, noted_four}

pub function_noted : (k : Context) (x : Function) (f g h i j l : Option TypeFault) (ps : List Parameter) (given : Signature) (new right defined : Bool) → ps ≡ x.parameters → given ≡ signature k.scope x
    → new ≡ is_new k x → right ≡ is_right k x given → defined ≡ (is_some x.body || is_defined k x.name.text)
    → g ≡ noted f (result_faults k.scope x.result) → h ≡ noted g (parameter_faults k.scope ps) → i ≡ noted h (unless new (fault x.name.pos wrong.Twice)) → j ≡ noted i (unless right (fault x.name.pos wrong.Mismatch))
    → l ≡ noted j (unless defined (fault x.name.pos wrong.Unknown)) → l ≡ noted f (function_faults k x)
function_noted k x f g h i j l ps given new right defined params is_given is_new_is is_right_is is_defined_is one two three four five =
    let told = λ (b : Bool). unless b (fault x.name.pos wrong.Mismatch) in
    noted_two f j l (result_faults k.scope x.result ++ parameter_faults k.scope x.parameters ++ unless (is_new k x) (fault x.name.pos wrong.Twice) ++ told (is_right k x (signature k.scope x)))
    (unless (is_some x.body || is_defined k x.name.text) (fault x.name.pos wrong.Unknown))
    (noted_four f g h i j (result_faults k.scope x.result) (parameter_faults k.scope x.parameters) (unless (is_new k x) (fault x.name.pos wrong.Twice)) (told (is_right k x (signature k.scope x))) one
    (two ∙ ap (λ (ps : List Parameter). noted g (parameter_faults k.scope ps)) params)
    (three ∙ ap (λ (b : Bool). noted h (unless b (fault x.name.pos wrong.Twice))) is_new_is)
    (four ∙ ap (λ (b : Bool). noted i (told b)) is_right_is ∙ ap (λ (s : Signature). noted i (told (is_right k x s))) is_given))
    (five ∙ ap (λ (b : Bool). noted j (unless b (fault x.name.pos wrong.Unknown))) is_defined_is)
