-- Functions from the place where their parameters begin.
use Rattle.std.proofs.Common.{◌≡◌, ℕ, Bool, List, [], ◌∷◌, ◌++◌, Option, Some, None, refl, ap, sym, ◌∙◌}
use Rattle.std.specs.Prelude.{is_some}
use Rattle.ca_tree.specs.declared.tree.Function.{Function}
use Rattle.ca_tree.specs.declared.tree.Parameter.{Parameter}
use Rattle.ca_model.specs.declared.tree.Stmt.{Stmt as TypedStmt}
use Rattle.ca_model.specs.declared.types.Meaning.{Meaning}
use Rattle.ca_model.specs.declared.types.Meaning.TheVariants as means
use Rattle.ca_model.specs.declared.types.ObjectType.{ObjectType}
use Rattle.ca_model.specs.declared.types.TypeFault.{TypeFault}
use Rattle.ca_model.specs.typing.Bodies.{Inside, in_order}
use Rattle.ca_model.specs.typing.Functions.{begun, a_parameter, parameters_told, body_told}
use Rattle.ca_model.specs.typing.Scopes.{Context, Signature, find}
use Rattle.ca_model.specs.typing.Signatures.{result_type, signature, with_declaration, with_signature}
use Rattle.ca_operands.specs.Noted.{noted}
use Rattle.ca_operands.proofs.Noting.{noted_two}
use Rattle.ca_blocks.specs.Shown.{GrewTo}
use Rattle.ca_types.specs.Whole.{told_whole}
use Rattle.ca_types.proofs.Holding.{name_kept}

-- parameters make no statements
no_stmts : (c : Inside) (ps : List Parameter) → (in_order a_parameter ps c).stmts ≡ []
no_stmts c [] = refl
no_stmts c (p ∷ ps) = no_stmts (a_parameter c p).behind ps

pub whole_is : (c d : Inside) (x : Function) (ps : List Parameter) (items : List TypedStmt) → ps ≡ x.parameters → d ≡ (parameters_told c ps).behind → items ≡ (body_told d x.body).stmts → items ≡ (told_whole c x).stmts
whole_is c d x ps items params behind is =
    is ∙ ap (λ (d : Inside). (body_told d x.body).stmts) (behind ∙ ap (λ (ps : List Parameter). (parameters_told c ps).behind) params)
    ∙ ap (λ (xs : List TypedStmt). xs ++ (body_told (parameters_told c x.parameters).behind x.body).stmts) (sym (no_stmts c x.parameters))

pub whole_noted : (c d : Inside) (x : Function) (ps : List Parameter) (f g h : Option TypeFault) → ps ≡ x.parameters → d ≡ (parameters_told c ps).behind → g ≡ noted f (parameters_told c ps).faults
    → h ≡ noted g (body_told d x.body).faults → h ≡ noted f (told_whole c x).faults
whole_noted c d x ps f g h params behind one two =
    noted_two f g h (parameters_told c x.parameters).faults (body_told (parameters_told c x.parameters).behind x.body).faults (one ∙ ap (λ (ps : List Parameter). noted f (parameters_told c ps).faults) params)
    (two ∙ ap (λ (d : Inside). noted g (body_told d x.body).faults) (behind ∙ ap (λ (ps : List Parameter). (parameters_told c ps).behind) params))

pub begun_is : (k j : Context) (b : Inside) (gives : Option ObjectType) (x : Function) → b ≡ begun j gives → j ≡ k → gives ≡ result_type j.scope x.result → b ≡ begun k (result_type k.scope x.result)
begun_is k j b gives x is same given = is ∙ ap (begun j) given ∙ ap (λ (j : Context). begun j (result_type j.scope x.result)) same

declaration_locals : (c : Context) (n : List ℕ) (d : Bool) (g : Signature) (m : Option Meaning) → (with_declaration c n d g m).scope.locals ≡ c.scope.locals
declaration_locals c n d g None = (name_kept c.scope n _).1
declaration_locals c n d g (Some (means.Function i)) = refl
declaration_locals c n d g (Some (means.Mutex m)) = (name_kept c.scope n _).1
declaration_locals c n d g (Some (means.Global i t)) = (name_kept c.scope n _).1
declaration_locals c n d g (Some (means.Array i t)) = (name_kept c.scope n _).1
declaration_locals c n d g (Some (means.Local x t)) = (name_kept c.scope n _).1

pub signature_locals : (c : Context) (f : Function) → (with_signature c f).scope.locals ≡ c.scope.locals
signature_locals c f = declaration_locals c f.name.text (is_some f.body) (signature c.scope f) (find f.name.text c.scope.globals)

-- behind a function nothing of it is visible
pub ended : (k : Context) (b d : Inside) (gives : Option ObjectType) → b ≡ begun k gives → k.scope.locals ≡ [] → GrewTo b d → record d.context { scope = record d.context.scope { locals = [] } } ≡ k
ended k b d gives is none grew =
    ap (λ (d : Inside). record d.context { scope = record d.context.scope { locals = [] } }) grew.is
    ∙ ap (λ (b : Inside). record b.context { scope = record b.context.scope { locals = [] } }) is
    ∙ ap (λ (ls : List (List ℕ × Meaning)). record k { scope = record k.scope { locals = ls } }) (sym none)
