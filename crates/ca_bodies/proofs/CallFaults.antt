-- The faults of a call, and of a `malloc`, one after another.
use Rattle.std.proofs.Common.{◌≡◌, ℕ, List, ◌++◌, Option, Some, None, refl, ap, sym, ◌∙◌, append_assoc}
use Rattle.ca_tree.specs.declared.tree.Exp.{Exp}
use Rattle.ca_tree.specs.declared.tree.Call.{Call}
use Rattle.ca_model.specs.declared.types.Meaning.{Meaning}
use Rattle.ca_model.specs.declared.types.TypeKind.TheVariants as wrong
use Rattle.ca_model.specs.declared.types.TypeFault.{TypeFault}
use Rattle.ca_model.specs.typing.Faults.{fault, if_none, given}
use Rattle.ca_model.specs.typing.Scopes.{Context, Signature, meaning}
use Rattle.ca_model.specs.typing.Targets.{Aim}
use Rattle.ca_model.specs.typing.Calls.{signature_of, parameters_of, known_call_faults, call_faults}
use Rattle.ca_model.specs.typing.Uses.{argument_faults}
use Rattle.ca_operands.specs.Noted.{noted}
use Rattle.ca_operands.proofs.Noting.{noted_two}

given_called : (k : Context) (a : Option Aim) (c : Call) (m : Option Meaning) (g : Option Signature) → g ≡ signature_of k m
    → given m (λ m. known_call_faults a c g) ≡ given m (λ m. known_call_faults a c (signature_of k (Some m)))
given_called k a c None g is = refl
given_called k a c (Some m) g is = ap (known_call_faults a c) is

-- what is wrong with what is called, by its meaning
abbrev behind_arguments : Context → Option Aim → Call → Option Meaning → List TypeFault
behind_arguments k a c m = if_none (fault c.name.pos wrong.Unknown) m ++ given m (λ m. known_call_faults a c (signature_of k (Some m)))

pub call_noted : (k : Context) (a : Option Aim) (c : Call) (f g h : Option TypeFault) (n : List ℕ) (xs : List Exp) (m : Option Meaning) (of : Option Signature)
    → n ≡ c.name.text → xs ≡ c.arguments → m ≡ meaning k.scope n → of ≡ signature_of k m → g ≡ noted f (argument_faults k.scope (parameters_of of) xs)
    → h ≡ noted g (if_none (fault c.name.pos wrong.Unknown) m ++ given m (λ m. known_call_faults a c of)) → h ≡ noted f (call_faults k a c)
call_noted k a c f g h n xs m of name arguments means called one two =
    let e : m ≡ meaning k.scope c.name.text = means ∙ ap (meaning k.scope) name in
    noted_two f g h (argument_faults k.scope (parameters_of of) xs) (behind_arguments k a c m) one
    (two ∙ ap (λ (ys : List TypeFault). noted g (if_none (fault c.name.pos wrong.Unknown) m ++ ys)) (given_called k a c m of called))
    ∙ ap (λ (g : Option Signature). noted f (argument_faults k.scope (parameters_of g) xs ++ behind_arguments k a c m)) called
    ∙ ap (λ (m : Option Meaning). noted f (argument_faults k.scope (parameters_of (signature_of k m)) xs ++ behind_arguments k a c m)) e
    ∙ ap (λ (xs : List Exp). noted f (argument_faults k.scope (parameters_of (signature_of k (meaning k.scope c.name.text))) xs ++ behind_arguments k a c (meaning k.scope c.name.text))) arguments
    ∙ ap (noted f) (sym (append_assoc (argument_faults k.scope (parameters_of (signature_of k (meaning k.scope c.name.text))) c.arguments) (if_none (fault c.name.pos wrong.Unknown) (meaning k.scope c.name.text))
    (given (meaning k.scope c.name.text) (λ m. known_call_faults a c (signature_of k (Some m))))))
