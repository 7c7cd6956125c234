-- A typed program has as many items, functions, globals and mutexes as its tree, in the order of the text; with its `main`, and within the limits.
use Rattle.std.proofs.Common.{◌≡◌, ◌≤◌, ℕ, suc, true, false, not, ◌||◌, List, [], ◌∷◌, ◌++◌, length, Option, Some, None, refl, sym, ap, ◌∙◌, subst, arith, append-nil}
use Rattle.std.specs.Prelude.{is_some}
use Rattle.std.proofs.lemmas.Bool.{and_parts}
use Rattle.ca_tree.specs.declared.text.Pos.{Pos}
use Rattle.ca_tree.specs.declared.tree.Stmt.{Stmt}
use Rattle.ca_tree.specs.declared.tree.Name.{Name}
use Rattle.ca_tree.specs.declared.tree.Globals.{Globals as GlobalsOf}
use Rattle.ca_tree.specs.declared.tree.Globals.TheVariants as globals
use Rattle.ca_tree.specs.declared.tree.ResultType.{ResultType}
use Rattle.ca_tree.specs.declared.tree.Parameter.{Parameter}
use Rattle.ca_tree.specs.declared.tree.Body.{Body}
use Rattle.ca_tree.specs.declared.tree.Function.{Function}
use Rattle.ca_tree.specs.declared.tree.Top.{Top}
use Rattle.ca_tree.specs.declared.tree.Program.{Program}
use Rattle.ca_tree.specs.Counts.{Totals, one_more_function}
use Rattle.ca_tree.specs.TreeWords.{Words}
use Rattle.ca_tree.specs.StatementTrees.{item as tree_item, Statements, IsTree}
use Rattle.ca_tree.specs.ProgramTrees as tree
use Rattle.ca_tree.specs.ProgramTrees.{Each, AreGlobals, IsBody, no_body, a_body, IsFunction, IsTop, a_struct, some_globals, a_function, AreTops, no_top, one_top, IsProgramOf}
use Rattle.ca_model.specs.declared.tree.Function.{Function as TypedFunction}
use Rattle.ca_model.specs.declared.types.TypeFault.{TypeFault}
use Rattle.ca_model.specs.declared.types.TypeKind.TheVariants as wrong
use Rattle.ca_model.specs.Sites.{items_in_all}
use Rattle.ca_model.specs.typing.Faults.{fault, unless}
use Rattle.ca_model.specs.typing.Scopes.{Context}
use Rattle.ca_model.specs.typing.Bodies.{Inside}
use Rattle.ca_model.specs.typing.Known.{Known, with_each}
use Rattle.ca_model.specs.typing.Globals.{with_mutex, with_thread, with_variable, with_globals}
use Rattle.ca_model.specs.typing.Signatures.{result_type, result_faults, parameter_faults, signature, void_pointers_allowed, all_named, is_new, is_right, function_faults, with_signature}
use Rattle.ca_model.specs.typing.Functions.{begun, parameters_told, typed_function, functions_of, told_in, with_function}
use Rattle.ca_model.specs.typing.Programs.{with_top, main_faults, at_start, known}
use Rattle.ca_model.proofs.NoFaults.{none_left, none_right, held_by_none}
use Rattle.ca_model.proofs.NumberedLists.{no_more, and_more, just_one}
use Rattle.ca_model.proofs.PlacedItems.{AllStand, none_stands, then_stand, knows_left}
use Rattle.ca_model.proofs.ToldItems.{body_stands}
use Rattle.ca_model.proofs.LocalCounts.{through, parameters_count, told_counts, as_many_parameters}
use Rattle.ca_model.proofs.Members.{in_none}
use Rattle.ca_model.proofs.CountedKnowns.{IsInOrder, HasFewLocals, Counts, Counted, and_faults, and_struct, and_mutex, and_global, and_function}

-- ---- functions

parameters_stand : (n : ℕ) (ps : List Parameter) (c : Inside) → AllStand false n (parameters_told c ps).stmts n
parameters_stand n [] c = none_stands
parameters_stand n (a ∷ ps) c = then_stand none_stands (parameters_stand n ps _)

-- a definition names its parameters
names_are_there : (c : Context) (f : Function) → function_faults c f ≡ [] → (not (is_some f.body) || all_named f.parameters) ≡ true
names_are_there c f h =
    let types : List TypeFault = result_faults c.scope f.result ++ parameter_faults c.scope f.parameters ++ unless (is_new c f) (fault f.name.pos wrong.Twice) in
    let right : List TypeFault = unless (is_right c f (signature c.scope f)) (fault f.name.pos wrong.Mismatch) in
    let allowed : is_right c f (signature c.scope f) ≡ true = held_by_none _ (fault f.name.pos wrong.Mismatch) (none_right types right (none_left (types ++ right) _ h)) in
    (and_parts _ _ (and_parts (void_pointers_allowed (signature c.scope f)) _ allowed).1).0

abbrev a_function_of : ResultType → Name → List Parameter → Option Body → Function
a_function_of r x ps b = record { result = r; name = x; parameters = ps; body = b }

module _ (r : ResultType) (x : Name) (ps : List Parameter) (b : Body) where
  abbrev definition : Function
  definition = a_function_of r x ps (Some b)

  abbrev typed : Context → ℕ → TypedFunction
  typed c i = typed_function i (length ps) (told_in c definition) b

abbrev body_of : List Stmt → ℕ → Pos → Body
body_of all m p = record { statements = all; close = tree_item (suc m) p }

abbrev before_body : ResultType → Context → Inside
before_body r c = begun c (result_type c.scope r)

module _ (words : Words) (start : List TypeFault) where
  -- a definition, by its parameters and its statements
  module _ (n : Totals) {m : ℕ} {all : List Stmt} (p : Pos) (room : suc n.functions ≤ 256) (s : IsTree words Statements false 1 n.items all m) (last : suc m ≤ 65536) (r : ResultType) (x : Name) (ps : List Parameter)
      (few : length ps ≤ 16) where
    definition_stands : (c : Context) → AllStand false n.items (told_in c (definition r x ps (body_of all m p))).stmts m
    definition_stands c = then_stand (parameters_stand n.items ps (before_body r c)) (body_stands words s _)

    definition_in_order : (c : Context) (i : ℕ) → IsInOrder (typed r x ps (body_of all m p) c i)
    definition_in_order c i = record { closed = refl; placed = λ t each. (definition_stands c).placed t (knows_left t (items_in_all (told_in c (definition r x ps (body_of all m p))).stmts) _ each) }

    definition_has_few : (c d : Context) (i : ℕ) → function_faults c (definition r x ps (body_of all m p)) ++ (told_in d (definition r x ps (body_of all m p))).faults ≡ [] → HasFewLocals (typed r x ps (body_of all m p) d i)
    definition_has_few c d i h =
        let body = told_counts s (parameters_told (before_body r d) ps).behind in
        let whole = through (parameters_told (before_body r d) ps).faults _ (parameters_count ps (before_body r d)) body in
        let grows = body.grows in
        let named = as_many_parameters ps (before_body r d) (names_are_there c (definition r x ps (body_of all m p)) (none_left (function_faults c (definition r x ps (body_of all m p))) _ h)) in
        (few, omega (arith, grows, named), whole.few (none_right (function_faults c (definition r x ps (body_of all m p))) _ h) (omega arith))

    definition_counted : (k : Known) → Counted start n k → Counted start (one_more_function n (suc m)) (with_function k (definition r x ps (body_of all m p)))
    definition_counted k h =
        let c : Context = with_signature k.context (definition r x ps (body_of all m p)) in
        and_function h (typed r x ps (body_of all m p) c (length k.functions)) refl (and_more (definition_stands c).items (just_one _ refl)) room last (definition_in_order c (length k.functions)) _
        (definition_has_few k.context c (length k.functions))

  -- a prototype adds none
  prototype_counted : {n : Totals} (f : Function) (k : Known) → f.body ≡ None → Counted start n k → Counted start n (with_function k f)
  prototype_counted {n = n} f k is h =
      let more : List TypeFault = function_faults k.context f ++ (told_in (with_signature k.context f) f).faults in
      let same : k.functions ++ functions_of (length k.functions) (length f.parameters) (told_in (with_signature k.context f) f) f.body ≡ k.functions =
      ap (λ b. k.functions ++ functions_of (length k.functions) (length f.parameters) (told_in (with_signature k.context f) f) b) is ∙ append-nil k.functions in
      subst (λ fs. Counts start n k.starts k.cells k.mutexes fs (k.faults ++ more)) (sym same) (and_faults h more)

  function_counted : {n m : Totals} (r : ResultType) (x : Name) (ps : List Parameter) (b : Option Body) → length ps ≤ 16 → IsBody words n b m → (k : Known) → Counted start n k
      → Counted start m (with_function k (a_function_of r x ps b))
  function_counted r x ps b few no_body k h = prototype_counted (a_function_of r x ps None) k refl h
  function_counted {n = n} r x ps b few (a_body {p = p} room s last) k h = definition_counted n p room s last r x ps few k h

  -- ---- declarations

  each_counted : {X : Type 0} {Is : X → Type 0} {Room : Totals → Type 0} {and_one : Totals → Totals} (f : Known → X → Known)
      → ((n : Totals) (k : Known) (x : X) → Room n → Counted start n k → Counted start (and_one n) (f k x)) → {n m : Totals} {xs : List X} → Each Is Room and_one n xs m
      → (k : Known) → Counted start n k → Counted start m (with_each f k xs)
  each_counted f step tree.none k h = h
  each_counted f step (tree.one {n = n} {x = x} room is more) k h = each_counted f step more (f k x) (step n k x room h)

  globals_counted : {n m : Totals} (a : GlobalsOf) → AreGlobals words n a m → (k : Known) → Counted start n k → Counted start m (with_globals k a)
  globals_counted (globals.Mutexes ds) are k h = each_counted with_mutex (λ n k d room h. and_mutex h room _) are.1 k h
  globals_counted (globals.Threads ds) are k h = each_counted with_thread (λ n k d room h. and_global h room _ _ _ _ _) are.1 k h
  globals_counted (globals.Variables b ds) are k h = and_faults (each_counted (with_variable b) (λ n k d room h. and_global h room _ _ _ _ _) are.2 k h) _

  top_counted : {n m : Totals} {a : Top} → IsTop words n a m → (k : Known) → Counted start n k → Counted start m (with_top k a)
  top_counted (a_struct room is) k h = and_struct h _
  top_counted (some_globals {a = a} are) k h = globals_counted a are k h
  top_counted (a_function {f = f} is) k h = function_counted f.result f.name f.parameters f.body is.few is.is_body k h

  tops_counted : {n m : Totals} {tops : List Top} → AreTops words n tops m → (k : Known) → Counted start n k → Counted start m (with_each with_top k tops)
  tops_counted no_top k h = h
  tops_counted (one_top {a = a} is more) k h = tops_counted more (with_top k a) (top_counted is k h)

-- ---- programs

pub program_counted : (words : Words) (p : Program) (is : IsProgramOf words p) → Counted (main_faults p) is.0 (known p)
program_counted words p is = tops_counted words (main_faults p) is.1 (at_start p) (record {
  items = no_more;
  functions = no_more;
  globals = refl;
  mutexes = refl;
  few = record { items = omega arith; functions = omega arith; globals = omega arith; mutexes = omega arith };
  each = λ f c. absurd (in_none f c);
  sound = λ h. record { start = h; cells = refl; few_cells = omega arith; locals = λ f c. absurd (in_none f c) };
})
