-- How many locals there are behind statements: never fewer than before, and at most 128 where nothing is wrong.
use Rattle.std.proofs.Common.{◌≡◌, ◌≤◌, ◌<◌, ℕ, ◌+◌, Bool, true, List, [], ◌∷◌, ◌++◌, Option, Some, None, sym, subst, arith}
use Rattle.std.specs.Prelude.{length, is_some}
use Rattle.std.proofs.lemmas.Bool.{and_parts}
use Rattle.ca_tree.specs.declared.tree.Base.{Base}
use Rattle.ca_tree.specs.declared.tree.Name.{Name}
use Rattle.ca_tree.specs.declared.tree.LocalDeclarator.{LocalDeclarator}
use Rattle.ca_tree.specs.declared.tree.Locals.{Locals}
use Rattle.ca_tree.specs.declared.tree.Locals.TheVariants as locals
use Rattle.ca_tree.specs.declared.tree.ForFirst.{ForFirst}
use Rattle.ca_tree.specs.declared.tree.ForFirst.TheVariants as first
use Rattle.ca_tree.specs.declared.tree.ForHead.{ForHead}
use Rattle.ca_tree.specs.declared.tree.Parameter.{Parameter}
use Rattle.ca_tree.specs.TreeWords.{Words}
use Rattle.ca_tree.specs.StatementTrees.{Part, Unbraced, A_statement, A_body, Statements, Tree, IsTree}
use Rattle.ca_tree.specs.StatementTrees as tree
use Rattle.ca_model.specs.declared.types.ObjectType.{ObjectType}
use Rattle.ca_model.specs.declared.types.TypeFault.{TypeFault}
use Rattle.ca_model.specs.typing.Faults.{given}
use Rattle.ca_model.specs.typing.TypeNames.{written_type, type_faults}
use Rattle.ca_model.specs.typing.RightSides.{right_faults}
use Rattle.ca_model.specs.typing.Bodies.{Inside, Told, in_order, inner, left}
use Rattle.ca_model.specs.typing.Locals.{declared, declared_faults, local_aim, a_local, a_thread, some_locals}
use Rattle.ca_model.specs.typing.Statements.{a_first, told}
use Rattle.ca_model.specs.typing.Signatures.{parameter_type, all_named}
use Rattle.ca_model.specs.typing.Functions.{with_parameter, parameter_name_faults, a_parameter, parameters_told}
use Rattle.ca_model.proofs.NoFaults.{none_left, none_right}
use Rattle.ca_model.proofs.DeclaredLocals.{declared_rises, declared_few, one_more}
use Rattle.ca_model.proofs.ToldStatements.{told_block, told_locals, told_empty, told_simple, told_return, told_break, told_continue, told_if, told_else, told_while, told_do, told_for}
use Rattle.ca_model.proofs.ToldItems.{told_part}

-- n locals before, m behind
pub record Counts (n : ℕ) (faults : List TypeFault) (m : ℕ) : Type 0 where
  pub grows : n ≤ m
  pub few : faults ≡ [] → n ≤ 128 → m ≤ 128

pub unchanged : {n : ℕ} (faults : List TypeFault) → Counts n faults n
unchanged faults = record { grows = omega arith; few = λ none h. h }

pub through : {n k m : ℕ} (fs gs : List TypeFault) → Counts n fs k → Counts k gs m → Counts n (fs ++ gs) m
through fs gs x y = record {
  grows = let a = x.grows in let b = y.grows in omega arith;
  few = λ none h. y.few (none_right fs gs none) (x.few (none_left fs gs none) h);
}

-- ---- declarations

declared_counts : (c : Inside) (x : Name) (t : Option ObjectType) → Counts c.count (declared_faults c x) (declared c x t).count
declared_counts c x t = record { grows = declared_rises c x t; few = λ none h. declared_few c x t h }

local_counts : (b : Base) (c : Inside) (d : LocalDeclarator) → Counts c.count (a_local b c d).faults (a_local b c d).behind.count
local_counts b c d =
    let t : Option ObjectType = written_type c.context.scope b d.stars in
    let value : List TypeFault = given d.value (right_faults c.context (local_aim c t)) in
    let before : List TypeFault = type_faults c.context.scope b ++ value in
    through before (declared_faults c d.name) (unchanged before) (declared_counts c d.name t)

in_order_counts : {A : Type 0} (f : Inside → A → Told) → ((c : Inside) (x : A) → Counts c.count (f c x).faults (f c x).behind.count) → (xs : List A) (c : Inside)
    → Counts c.count (in_order f xs c).faults (in_order f xs c).behind.count
in_order_counts f each [] c = unchanged _
in_order_counts f each (x ∷ xs) c = through _ _ (each c x) (in_order_counts f each xs (f c x).behind)

locals_count : (l : Locals) (c : Inside) → Counts c.count (some_locals l c).faults (some_locals l c).behind.count
locals_count (locals.Threads ds) c = in_order_counts a_thread (λ c d. declared_counts c d.name _) ds c
locals_count (locals.Variables b ds) c = in_order_counts (a_local b) (local_counts b) ds c

first_counts : (c : Inside) (f : Option ForFirst) → Counts c.count (a_first c f).faults (a_first c f).behind.count
first_counts c None = unchanged _
first_counts c (Some (first.Simple i a)) = unchanged _
first_counts c (Some (first.Local b d)) = local_counts b c d

-- ---- statements

told_as : {n : ℕ} {x y : Told} → x ≡ y → Counts n y.faults y.behind.count → Counts n x.faults x.behind.count
told_as {n = n} is h = subst (λ (z : Told). Counts n z.faults z.behind.count) (sym is) h

pub told_counts : {words : Words} {p : Part} {in_loop : Bool} {d n : ℕ} {a : Tree p} {m : ℕ} → IsTree words p in_loop d n a m → (c : Inside) → Counts c.count (told_part p a c).faults (told_part p a c).behind.count
told_counts tree.no_statement c = unchanged _
told_counts (tree.a_statement s r) c = through _ _ (told_counts s c) (told_counts r _)
told_counts (tree.declared_locals {l = l} h are r) c = through _ _ (told_as (told_locals l c) (locals_count l c)) (told_counts r _)
told_counts (tree.a_block {more = more} h r) c = told_as (told_block more c) (told_counts r (inner c))
told_counts (tree.no_block h s) c = told_counts s c
told_counts (tree.a_braced_body {more = more} r) c = told_as (told_block more c) (told_counts r (inner c))
told_counts (tree.a_plain_body h s) c = told_counts s c
told_counts tree.an_empty c = told_as (told_empty c) (unchanged _)
told_counts (tree.a_simple {a = a} s) c = told_as (told_simple _ a c) (unchanged _)
told_counts (tree.a_return {a = a} room e) c = told_as (told_return _ a c) (unchanged _)
told_counts (tree.a_break {p = p}) c = told_as (told_break p c) (unchanged _)
told_counts (tree.a_continue {p = p}) c = told_as (told_continue p c) (unchanged _)
told_counts (tree.an_if {c = e} {x = x} room whole s) c = told_as (told_if _ e x.stmt c) (through _ _ (through _ _ (unchanged _) (told_counts s c)) (unchanged _))
told_counts (tree.an_else {c = e} {x = x} {y = y} room whole s closed r) c =
    told_as (told_else _ e x.stmt y.stmt c) (through _ _ (through _ _ (unchanged _) (told_counts s c)) (told_counts r (left c (told x.stmt c).behind)))
told_counts (tree.a_while {c = e} {a = a} room whole s) c = told_as (told_while _ e a.stmt c) (through _ _ (unchanged _) (told_counts s c))
told_counts (tree.a_do {c = e} {a = a} s room whole) c = told_as (told_do a.stmt _ e c) (through _ _ (told_counts s c) (unchanged _))
told_counts (tree.a_for {f = f} {c = e} {g = g} {a = a} first room ask step s) c =
    let h : ForHead = record { first = f; item = e.item; condition = e.what; step = g } in
    told_as (told_for h a.stmt c) (through _ _ (through _ _ (through _ _ (first_counts (inner c) f) (unchanged _)) (unchanged _)) (told_counts s (a_first (inner c) f).behind))

-- ---- parameters

parameter_counts : (c : Inside) (x : Option Name) (t : Option ObjectType) → Counts c.count (parameter_name_faults c x) (with_parameter c x t).count
parameter_counts c None t = unchanged _
parameter_counts c (Some x) t = declared_counts c x t

pub parameters_count : (ps : List Parameter) (c : Inside) → Counts c.count (parameters_told c ps).faults (parameters_told c ps).behind.count
parameters_count ps c = in_order_counts a_parameter (λ c a. parameter_counts c a.name (parameter_type c.context.scope a)) ps c

one_more_parameter : (c : Inside) (x : Option Name) (t : Option ObjectType) → is_some x ≡ true → c.count < 128 → (with_parameter c x t).count ≡ c.count + 1
one_more_parameter c None t h room = absurd cc
one_more_parameter c (Some x) t h room = one_more c x t room

-- the parameters of a definition are its first locals
pub as_many_parameters : (ps : List Parameter) (c : Inside) → all_named ps ≡ true → c.count + length ps ≤ 128 → (parameters_told c ps).behind.count ≡ c.count + length ps
as_many_parameters [] c h room = omega arith
as_many_parameters (a ∷ more) c h room =
    let parts = and_parts (is_some a.name) (all_named more) h in
    let here = one_more_parameter c a.name (parameter_type c.context.scope a) parts.0 (omega arith) in
    let rest = as_many_parameters more (with_parameter c a.name (parameter_type c.context.scope a)) parts.1 (omega arith) in
    omega arith
