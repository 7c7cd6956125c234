-- A function in which nothing is wrong: each of its items keeps within bounds.
use Rattle.std.proofs.Common.{◌≡◌, ◌≤◌, ℕ, ◌+◌, Bool, true, false, List, [], ◌∷◌, Option, Some, None, arith, refl, ◌∙◌}
use Rattle.std.specs.Prelude.{nat_lt, All, IfSome, if◌then◌else◌}
use Rattle.std.specs.Option.{is_some}
use Rattle.std.proofs.lemmas.List.Elements.{All-nil, All-cons, All-append}
use Rattle.ca_tree.specs.declared.numbers.StructId.{StructId}
use Rattle.ca_tree.specs.declared.tree.Name.{Name}
use Rattle.ca_tree.specs.declared.tree.Parameter.{Parameter}
use Rattle.ca_tree.specs.declared.tree.Body.{Body}
use Rattle.ca_tree.specs.declared.tree.Function.{Function}
use Rattle.ca_tree.specs.Counts.{Totals}
use Rattle.ca_tree.specs.TreeWords.{Words}
use Rattle.ca_tree.specs.ProgramTrees.{IsBody}
use Rattle.ca_tree.specs.ProgramTrees as tree
use Rattle.ca_model.specs.declared.tree.Function.{Function as TypedFunction}
use Rattle.ca_model.specs.declared.types.ObjectType.{ObjectType}
use Rattle.ca_model.specs.declared.types.Meaning.{Meaning}
use Rattle.ca_model.specs.Codes.{Typed}
use Rattle.ca_model.specs.Sites.{items_in_all, items_of}
use Rattle.ca_model.specs.typing.Scopes.{Scope, Context, find, field_of}
use Rattle.ca_model.specs.typing.Bodies.{Inside, Told, in_order}
use Rattle.ca_model.specs.typing.Locals.{with_locals, most_locals, declared}
use Rattle.ca_model.specs.typing.Signatures.{parameter_type, of_parameter_faults, parameter_faults, result_type}
use Rattle.ca_model.specs.typing.Functions.{begun, with_parameter, a_parameter, parameters_told, body_told, typed_function, functions_of, told_in}
use Rattle.ca_model.proofs.TypesThere.{parameter_there}
use Rattle.ca_model.proofs.EmptyFaults.{none_in}
use Rattle.ca_model.proofs.ExpressionsThere.{Typed_field}
use Rattle.ca_model.proofs.Surroundings.{Means, Fine}
use Rattle.ca_model.proofs.EachItem.{each_of_none}
use Rattle.ca_model.proofs.LocalsFit.{GoodItem, Well, Tells, nothing_tells, then_at, declared_fine}
use Rattle.ca_model.proofs.DeclaredLocals.{declared_rises}
use Rattle.ca_model.proofs.StatementsFit.{body_tells}

structs_by : (b : Bool) (c : Inside) (ls : List (List ℕ × Meaning)) → (if b then with_locals c ls (c.count + 1) else c).context.scope.structs ≡ c.context.scope.structs
structs_by true c ls = refl
structs_by false c ls = refl

declared_structs : (c : Inside) (x : Name) (u : Option ObjectType) → (declared c x u).context.scope.structs ≡ c.context.scope.structs
declared_structs c x u = structs_by (nat_lt c.count most_locals) c _

named_structs : (c : Inside) (x : Option Name) (u : Option ObjectType) → (with_parameter c x u).context.scope.structs ≡ c.context.scope.structs
named_structs c None u = refl
named_structs c (Some x) u = declared_structs c x u

module _ (t : Typed) where
  -- ---- parameters

  named_fine : (c : Inside) (x : Option Name) (u : Option ObjectType) → Fine t c → is_some u ≡ true → (c.count ≤ (with_parameter c x u).count) × Fine t (with_parameter c x u)
  named_fine c None u h typed = (omega arith, h)
  named_fine c (Some x) u h typed = (declared_rises c x u, declared_fine t c x u h typed)

  parameter_tells : (a : Parameter) (c : Inside) → Fine t c → is_some (parameter_type c.context.scope a) ≡ true → Tells t c (a_parameter c a)
  parameter_tells a c h typed none =
      let behind = named_fine c a.name (parameter_type c.context.scope a) h typed in
      record { rises = behind.0; fine = behind.1; items = λ n le. each_of_none (GoodItem t n) }

  parameters_tell : (u : Scope) (ps : List Parameter) (c : Inside) → Fine t c → c.context.scope.structs ≡ u.structs → parameter_faults u ps ≡ [] → Tells t c (in_order a_parameter ps c)
  parameters_tell u [] c h same none = nothing_tells t c h
  parameters_tell u (a ∷ ps) c h same none =
      let parts = none_in (of_parameter_faults u a.of) (parameter_faults u ps) none in
      then_at t c (a_parameter c a) (in_order a_parameter ps) (parameter_tells a c h (parameter_there c.context.scope u a.of same parts.0))
      (λ w. parameters_tell u ps (a_parameter c a).behind w.fine (named_structs c a.name (parameter_type c.context.scope a) ∙ same) parts.1)

  -- ---- bodies

  a_body_tells : {words : Words} {n m : Totals} {b : Option Body} → IsBody words n b m → (c : Inside) → Fine t c → Tells t c (body_told c b)
  a_body_tells tree.no_body c h = nothing_tells t c h
  a_body_tells {words = words} (tree.a_body few all room) c h = body_tells t words all c h

  -- each name outside of functions is known, and no type of a field was refused
  pub record Knows (c : Context) : Type 0 where
    pub globals : (x : List ℕ) → IfSome (find x c.scope.globals) (Means t 0 c.functions c.defined x)
    pub fields : (i : StructId) (x : List ℕ) → IfSome (field_of c.scope i x) Typed_field

  begun_fine : (c : Context) (r : Option ObjectType) → Knows c → Fine t (begun c r)
  begun_fine c r h = record { globals = h.globals; locals = λ x. tt; fields = h.fields }

  pub function_tells : {words : Words} {n m : Totals} (u : Scope) (c : Context) (f : Function) → IsBody words n f.body m → Knows c → c.scope.structs ≡ u.structs → parameter_faults u f.parameters ≡ []
      → Tells t (begun c (result_type c.scope f.result)) (told_in c f)
  function_tells u c f is h same none =
      let start : Inside = begun c (result_type c.scope f.result) in
      then_at t start (parameters_told start f.parameters) (λ d. body_told d f.body) (parameters_tell u f.parameters start (begun_fine c (result_type c.scope f.result) h) same none)
      (λ w. a_body_tells is (parameters_told start f.parameters).behind w.fine)

  -- ---- typed functions

  abbrev pub GoodFunction : TypedFunction → Type 0
  GoodFunction f = All (GoodItem t f.locals) (items_of f)

  typed_good : (i parameters : ℕ) (c : Inside) (x : Told) (b : Body) → Well t c x → GoodFunction (typed_function i parameters x b)
  typed_good i parameters c x b w =
      All-append (GoodItem t x.behind.count) (items_in_all x.stmts) _ (w.items x.behind.count (omega arith)) (All-cons (GoodItem t x.behind.count) _ [] tt (All-nil (GoodItem t x.behind.count)))

  pub functions_good : (i parameters : ℕ) (c : Inside) (x : Told) (b : Option Body) → Well t c x → All GoodFunction (functions_of i parameters x b)
  functions_good i parameters c x None w = All-nil GoodFunction
  functions_good i parameters c x (Some b) w = All-cons GoodFunction (typed_function i parameters x b) [] (typed_good i parameters c x b w) (All-nil GoodFunction)
