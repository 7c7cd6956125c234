-- What the code's own types show.
use Rattle.std.specs.Prelude.{◌≡◌, ℕ, ◌+◌, List, [], ◌∷◌, map, Option, Some, None, option_map, if◌then◌else◌}
use Rattle.std.specs.Str.{bytes_eq}
use denote.Ref.{Bor}
use Rattle.ca_tree.specs.declared.numbers.FunId.{FunId}
use Rattle.ca_model.specs.typing.Scopes.{Signature, FunctionOf, find}
use Rattle.ca_model.specs.typing.Targets.{Aim}
use Rattle.ca_operands.specs.Shown.{shown_entry}
use Rattle.ca_bodies.specs.declared.functions.Signature.{Signature as SignatureOf}
use Rattle.ca_bodies.specs.declared.functions.FunctionEntry.{FunctionEntry}
use Rattle.ca_bodies.specs.declared.targets.Aim.{Aim as AimOf}
use Rattle.ca_bodies.specs.Functions.{Functions}

abbrev pub shown_signature : SignatureOf → Signature
shown_signature g = record { result = g.result; parameters = g.parameters }

abbrev pub shown_function : FunctionEntry → FunctionOf
shown_function f = record { first = shown_signature f.first; definition = option_map shown_signature f.definition; prototypes = map shown_signature f.prototypes.items }

abbrev pub shown_functions : List FunctionEntry → List (Bor (List ℕ)) → Functions
shown_functions declared defined = record { functions = map shown_function declared; defined = map (λ n. n.now) defined }

abbrev pub shown_aim : AimOf → Aim
shown_aim a = record { of = a.of; at = a.at }

abbrev pub id_or_first : Option FunId → FunId
id_or_first None = record { 0 = 0 }
id_or_first (Some f) = f

-- the number of the first definition with a name
abbrev pub number_in : List ℕ → ℕ → List (List ℕ) → Option FunId
number_in n k [] = None
number_in n k (x ∷ xs) = if bytes_eq n x then Some (record { 0 = k }) else number_in n (k + 1) xs

-- the map gives each name the number of its first definition
abbrev pub IsNumbering : List (Bor (List ℕ) × FunId) → List (Bor (List ℕ)) → Type 0
IsNumbering numbers defined = (n : List ℕ) → find n (map shown_entry numbers) ≡ number_in n 0 (map (λ d. d.now) defined)

-- a function that is called, where a name means one
abbrev pub shown_called : Option (Bor SignatureOf) → Option Signature
shown_called g = option_map (λ g. shown_signature g.now) g

abbrev pub shown_aimed : Option (Bor AimOf) → Option Aim
shown_aimed a = option_map (λ a. shown_aim a.now) a
