-- Statements in which nothing is wrong have the sites that the text shows for them.
use Rattle.std.proofs.Common.{◌≡◌, ℕ, ◌+◌, Bool, true, false, List, [], ◌∷◌, ◌++◌, Option, Some, None, refl, sym, ap, ◌∙◌, subst, append-nil, append_assoc}
use Rattle.std.specs.Prelude.{pos, nat_lt, IfSome, if◌then◌else◌}
use Rattle.std.specs.Option.{is_some}
use Rattle.std.specs.Str.{bytes_eq}
use Rattle.ca_tree.specs.declared.numbers.ItemId.{ItemId}
use Rattle.ca_tree.specs.declared.numbers.StructId.{StructId}
use Rattle.ca_tree.specs.declared.tree.Base.{Base}
use Rattle.ca_tree.specs.declared.tree.Name.{Name}
use Rattle.ca_tree.specs.declared.tree.Exp.{Exp}
use Rattle.ca_tree.specs.declared.tree.Right.{Right}
use Rattle.ca_tree.specs.declared.tree.Simple.{Simple}
use Rattle.ca_tree.specs.declared.tree.ItemAt.{ItemAt}
use Rattle.ca_tree.specs.declared.tree.LocalDeclarator.{LocalDeclarator}
use Rattle.ca_tree.specs.declared.tree.ThreadLocal.{ThreadLocal}
use Rattle.ca_tree.specs.declared.tree.Locals.{Locals}
use Rattle.ca_tree.specs.declared.tree.Locals.TheVariants as locals
use Rattle.ca_tree.specs.declared.tree.ForFirst.{ForFirst}
use Rattle.ca_tree.specs.declared.tree.ForFirst.TheVariants as first
use Rattle.ca_tree.specs.declared.tree.ForHead.{ForHead}
use Rattle.ca_tree.specs.declared.tree.Stmt.{Stmt}
use Rattle.ca_tree.specs.declared.tree.Stmt.TheVariants as r
use Rattle.ca_tree.specs.TreeWords.{Words}
use Rattle.ca_tree.specs.StatementTrees.{Branch, Part, Unbraced, A_statement, A_body, Statements, Tree, IsTree}
use Rattle.ca_tree.specs.StatementTrees as tree
use Rattle.ca_model.specs.declared.tree.Item.{Item}
use Rattle.ca_model.specs.declared.tree.Stmt.{Stmt as TypedStmt}
use Rattle.ca_model.specs.declared.tree.Stmt.TheVariants as s
use Rattle.ca_model.specs.declared.types.TypeFault.{TypeFault}
use Rattle.ca_model.specs.declared.types.ObjectType.{ObjectType}
use Rattle.ca_model.specs.declared.types.Meaning.TheVariants as means
use Rattle.ca_model.specs.declared.types.Wanted.TheVariants.{Scalar, OfType}
use Rattle.ca_model.specs.Accesses.{act_accesses}
use Rattle.ca_model.specs.Sites.{if_any, items_in, items_in_all}
use Rattle.ca_model.specs.typing.Faults.{given}
use Rattle.ca_model.specs.typing.Types.{thread}
use Rattle.ca_model.specs.typing.Scopes.{find, field_of}
use Rattle.ca_model.specs.typing.TypeNames.{written_type, type_faults}
use Rattle.ca_model.specs.typing.RightSides.{right_faults}
use Rattle.ca_model.specs.typing.SimpleStatements.{simple_faults, simple_act}
use Rattle.ca_model.specs.typing.Bodies.{Inside, Told, nothing, and_then, in_order, inner, left}
use Rattle.ca_model.specs.typing.Locals.{item, with_locals, most_locals, declared, local_aim, first_act, a_local, a_thread, some_locals}
use Rattle.ca_model.specs.typing.Statements.{single, plain, condition_faults, condition_or_one, return_faults, value_if_there, an_if, a_while, a_do, a_first, item_of, a_step, a_for, a_block, told, all_told}
use Rattle.ca_model.proofs.Equations.{items_out, items_item, items_while, items_block, accesses_num}
use Rattle.ca_model.proofs.ItemCounts.{joined_all}
use Rattle.ca_model.proofs.ToldStatements.{told_block, told_locals, told_empty, told_simple, told_return, told_break, told_continue, told_if, told_else, told_while, told_do, told_for}
use Rattle.ca_model.proofs.MissingAnswers.{or_else_if, if_found}
use Rattle.ca_model.proofs.TypesThere.{type_there}
use Rattle.ca_model.proofs.EmptyFaults.{none_in}
use Rattle.ca_model.proofs.ExpressionsThere.{HasType, Typed_field}
use Rattle.ca_sites.specs.declared.items.TextSite.{TextSite}
use Rattle.ca_sites.specs.declared.site.SiteKind.{SiteKind}
use Rattle.ca_sites.specs.TextSites.{value_places, if_written, right_if_written, loads, simple_sites, declarator_sites, declarators_sites, locals_sites, first_sites, step_sites, head_sites, stmt_sites, stmts_sites}
use Rattle.ca_sites.proofs.TextStatements.{sites_out, joined_sites}
use Rattle.ca_sites.proofs.ActsShown.{Signed, Sees, Aims, sites_among, shown, Shows, shown_both, both_same, loads_show, asked_of, value_loads, right_shows, simple_shows}

abbrev pub of_item : Item → List (ItemId × SiteKind)
of_item i = sites_among i.id (act_accesses i.act)

abbrev pub of_items : List Item → List (ItemId × SiteKind)
of_items [] = []
of_items (i ∷ is) = of_item i ++ of_items is

abbrev pub of_all : List TypedStmt → List (ItemId × SiteKind)
of_all xs = of_items (items_in_all xs)

pub items_append : (is js : List Item) → of_items (is ++ js) ≡ of_items is ++ of_items js
items_append [] js = refl
items_append (i ∷ is) js = ap (λ l. of_item i ++ l) (items_append is js) ∙ sym (append_assoc (of_item i) (of_items is) (of_items js))

items_both : (xs ys : List TypedStmt) → items_in_all (xs ++ ys) ≡ items_in_all xs ++ items_in_all ys
items_both [] ys = refl
items_both (x ∷ xs) ys = ap (λ is. items_in x ++ is) (items_both xs ys) ∙ sym (append_assoc (items_in x) (items_in_all xs) (items_in_all ys))

of_both : (xs ys : List TypedStmt) → of_all (xs ++ ys) ≡ of_all xs ++ of_all ys
of_both xs ys = ap of_items (items_both xs ys) ∙ items_append (items_in_all xs) (items_in_all ys)

in_block : (xs : List TypedStmt) → items_in (s.Block xs) ≡ items_in_all xs
in_block xs = items_block xs ∙ joined_all xs

in_single : (xs : List TypedStmt) → of_items (items_in (single xs)) ≡ of_all xs
in_single [] = ap of_items (in_block [])
in_single (x ∷ []) = ap of_items (sym (append-nil (items_in x)))
in_single (x ∷ y ∷ xs) = ap of_items (in_block (x ∷ y ∷ xs))

one_is : (x : TypedStmt) (is : List Item) → items_in x ≡ is → of_all (x ∷ []) ≡ of_items is
one_is x is same = ap of_items (append-nil (items_in x) ∙ same)

an_item : (i : Item) → of_all (s.Item i ∷ []) ≡ of_item i
an_item i = one_is (s.Item i) (i ∷ []) (items_item i) ∙ append-nil (of_item i)

of_block : (xs : List TypedStmt) → of_all (s.Block xs ∷ []) ≡ of_all xs
of_block xs = one_is (s.Block xs) (items_in_all xs) (in_block xs)

of_if : (c : Item) (xs : List TypedStmt) → of_all (s.If c (single xs) None ∷ []) ≡ of_item c ++ of_all xs
of_if c xs =
    one_is (s.If c (single xs) None) (c ∷ (items_in (single xs) ++ [])) (items_out (s.If c (single xs) None) _ (s.outs-If c (single xs) None))
    ∙ ap (λ l. of_item c ++ l) (ap of_items (append-nil (items_in (single xs))) ∙ in_single xs)

of_else : (c : Item) (xs ys : List TypedStmt) → of_all (s.If c (single xs) (Some (single ys)) ∷ []) ≡ of_item c ++ (of_all xs ++ of_all ys)
of_else c xs ys =
    one_is (s.If c (single xs) (Some (single ys))) (c ∷ (items_in (single xs) ++ items_in (single ys))) (items_out (s.If c (single xs) (Some (single ys))) _ (s.outs-If c (single xs) (Some (single ys))))
    ∙ ap (λ l. of_item c ++ l) (items_append (items_in (single xs)) (items_in (single ys)) ∙ both_same _ _ (of_all xs) (of_all ys) (in_single xs) (in_single ys))

of_while : (c : Item) (xs : List TypedStmt) → of_all (s.While c (single xs) ∷ []) ≡ of_item c ++ of_all xs
of_while c xs = one_is (s.While c (single xs)) (c ∷ items_in (single xs)) (items_while c (single xs)) ∙ ap (λ l. of_item c ++ l) (in_single xs)

of_do : (xs : List TypedStmt) (c : Item) → of_all (s.Do (single xs) c ∷ []) ≡ of_all xs ++ of_item c
of_do xs c =
    one_is (s.Do (single xs) c) (items_in (single xs) ++ c ∷ []) (items_out (s.Do (single xs) c) _ (s.outs-Do (single xs) c))
    ∙ (items_append (items_in (single xs)) (c ∷ []) ∙ both_same _ _ (of_all xs) (of_item c) (in_single xs) (append-nil (of_item c)))

of_for : (i : Option Item) (c : Item) (j : Option Item) (xs : List TypedStmt) → of_all (s.For i c j (single xs) ∷ []) ≡ of_items (if_any i) ++ (of_item c ++ (of_items (if_any j) ++ of_all xs))
of_for i c j xs =
    one_is (s.For i c j (single xs)) (if_any i ++ (c ∷ (if_any j ++ items_in (single xs)))) (items_out (s.For i c j (single xs)) _ (s.outs-For i c j (single xs)))
    ∙ (items_append (if_any i) (c ∷ (if_any j ++ items_in (single xs)))
    ∙ ap (λ l. of_items (if_any i) ++ (of_item c ++ l)) (items_append (if_any j) (items_in (single xs)) ∙ ap (λ l. of_items (if_any j) ++ l) (in_single xs)))

-- ---- places in a function

-- no type of what is seen was refused, nor that of the result
pub record Here (c : Inside) : Type 0 where
  pub globals : (x : List ℕ) → IfSome (find x c.context.scope.globals) HasType
  pub locals : (x : List ℕ) → IfSome (find x c.context.scope.locals) HasType
  pub fields : (i : StructId) (x : List ℕ) → IfSome (field_of c.context.scope i x) Typed_field
  pub signed : Signed c.context.functions
  pub gives : is_some c.result ≡ true

pub sees_here : (c : Inside) → Here c → Sees c.context
sees_here c h = record {
  types = record { names = λ x. or_else_if HasType (find x c.context.scope.locals) (find x c.context.scope.globals) (h.locals x) (h.globals x); fields = h.fields };
  signatures = h.signed;
}

here_inner : (c : Inside) → Here c → Here (inner c)
here_inner c h = record { globals = h.globals; locals = h.locals; fields = h.fields; signed = h.signed; gives = h.gives }

here_left : (c d : Inside) → Here c → Here (left c d)
here_left c d h = record { globals = h.globals; locals = h.locals; fields = h.fields; signed = h.signed; gives = h.gives }

declared_by : (b : Bool) (c : Inside) (x : Name) (u : Option ObjectType) → Here c → is_some u ≡ true
    → Here (if b then with_locals c ((x.text, means.Local (record { 0 = c.count }) u) ∷ c.context.scope.locals) (c.count + 1) else c)
declared_by true c x u h typed = record {
  globals = h.globals;
  locals = λ y. if_found HasType (bytes_eq y x.text) (means.Local (record { 0 = c.count }) u) (find y c.context.scope.locals) typed (h.locals y);
  fields = h.fields;
  signed = h.signed;
  gives = h.gives;
}
declared_by false c x u h typed = h

pub here_declared : (c : Inside) (x : Name) (u : Option ObjectType) → Here c → is_some u ≡ true → Here (declared c x u)
here_declared c x u h typed = declared_by (nat_lt c.count most_locals) c x u h typed

-- what is told has the sites that the text shows, where nothing is wrong in it
pub record Well (x : Told) (ss : List TextSite) : Type 0 where
  pub behind : Here x.behind
  pub shows : of_all x.stmts ≡ shown ss

abbrev pub Tells : Told → List TextSite → Type 0
Tells x ss = x.faults ≡ [] → Well x ss

tells_as : (x y : Told) (ss us : List TextSite) → x ≡ y → ss ≡ us → Tells y us → Tells x ss
tells_as x y ss us is same h = subst (λ (z : Told). Tells z ss) (sym is) (subst (Tells y) (sym same) h)

pub nothing_tells : (c : Inside) → Here c → Tells (nothing c) []
nothing_tells c h none = record { behind = h; shows = refl }

plain_tells : (c : Inside) (x : TypedStmt) (fs : List TypeFault) (ss : List TextSite) → Here c → (fs ≡ [] → of_all (x ∷ []) ≡ shown ss) → Tells (plain c x fs) ss
plain_tells c x fs ss h k none = record { behind = h; shows = k none }

pub then_at : (x : Told) (f : Inside → Told) (ss us : List TextSite) → Tells x ss → (Well x ss → Tells (f x.behind) us) → Tells (and_then x f) (ss ++ us)
then_at x f ss us h more none =
    let parts = none_in x.faults (f x.behind).faults none in
    let w = h parts.0 in
    let v = more w parts.1 in
    record { behind = v.behind; shows = of_both x.stmts (f x.behind).stmts ∙ (both_same _ _ (shown ss) (shown us) w.shows v.shows ∙ sym (shown_both ss us)) }

then_tells : (x : Told) (f : Inside → Told) (ss us : List TextSite) → Tells x ss → ((d : Inside) → Here d → Tells (f d) us) → Tells (and_then x f) (ss ++ us)
then_tells x f ss us h more = then_at x f ss us h (λ w. more x.behind w.behind)

-- ---- locals

local_aims : (c : Inside) (u : Option ObjectType) → is_some u ≡ true → Aims (local_aim c u) [] []
local_aims c u typed = record { typed = typed; finds = refl; loaded = refl; stored = refl; local = λ is. (refl, refl) }

first_shows : (c : Inside) (i : ItemId) (u : Option ObjectType) (v : Option Right) → Here c → is_some u ≡ true → given v (right_faults c.context (local_aim c u)) ≡ [] → Shows i (act_accesses (first_act c u v)) (loads i (right_if_written v))
first_shows c i u None h typed none = refl
first_shows c i u (Some v) h typed none = right_shows c.context (sees_here c h) i (local_aim c u) [] [] (local_aims c u typed) v none ∙ ap shown (append-nil (loads i (right_if_written (Some v))))

local_tells : (b : Base) (d : LocalDeclarator) (c : Inside) → Here c → Tells (a_local b c d) (declarator_sites d)
local_tells b d c h none =
    let u : Option ObjectType = written_type c.context.scope b d.stars in
    let parts = none_in (type_faults c.context.scope b ++ given d.value (right_faults c.context (local_aim c u))) _ none in
    let two = none_in (type_faults c.context.scope b) (given d.value (right_faults c.context (local_aim c u))) parts.0 in
    let typed = type_there c.context.scope b d.stars two.0 in
    record { behind = here_declared c d.name u h typed; shows = an_item (item d.item (first_act c u d.value)) ∙ first_shows c d.item.id u d.value h typed two.1 }

locals_tell : (b : Base) (ds : List LocalDeclarator) (c : Inside) → Here c → Tells (in_order (a_local b) ds c) (declarators_sites ds)
locals_tell b [] c h = nothing_tells c h
locals_tell b (d ∷ ds) c h = then_tells (a_local b c d) (in_order (a_local b) ds) (declarator_sites d) (declarators_sites ds) (local_tells b d c h) (λ i j. locals_tell b ds i j)

threads_tell : (ds : List ThreadLocal) (c : Inside) → Here c → Tells (in_order a_thread ds c) []
threads_tell [] c h = nothing_tells c h
threads_tell (d ∷ ds) c h =
    then_tells (a_thread c d) (in_order a_thread ds) [] [] (λ none. record { behind = here_declared c d.name (Some thread) h refl; shows = an_item _ }) (λ i j. threads_tell ds i j)

some_locals_tell : (l : Locals) (c : Inside) → Here c → Tells (some_locals l c) (locals_sites l)
some_locals_tell (locals.Threads ds) c h = threads_tell ds c h
some_locals_tell (locals.Variables b ds) c h = locals_tell b ds c h

-- ---- each kind of statement

condition_shows : (c : Inside) (i : ItemAt) (a : Exp) → Here c → condition_faults c a ≡ [] → of_item (condition_or_one c i (Some a)) ≡ shown (loads i.id (value_places a))
condition_shows c i a h none =
    let sees = sees_here c h in
    loads_show i.id (act_accesses (condition_or_one c i (Some a)).act) (value_places a) (value_loads c.context.scope sees.types Scalar a tt none)

condition_or_shows : (c : Inside) (i : ItemAt) (a : Option Exp) → Here c → given a (condition_faults c) ≡ [] → of_item (condition_or_one c i a) ≡ shown (loads i.id (if_written a))
condition_or_shows c i None h none = ap (λ xs. sites_among i.id xs) (accesses_num (pos 1))
condition_or_shows c i (Some a) h none = condition_shows c i a h none

return_shows : (c : Inside) (i : ItemAt) (a : Option Exp) → Here c → return_faults c i.pos a ≡ [] → Shows i.id (act_accesses (value_if_there c a)) (loads i.id (if_written a))
return_shows c i None h none = refl
return_shows c i (Some a) h none =
    let sees = sees_here c h in
    loads_show i.id (act_accesses (value_if_there c (Some a))) (value_places a) (value_loads c.context.scope sees.types (OfType c.result) a (asked_of c.result h.gives) none)

simple_tells : (c : Inside) (i : ItemAt) (a : Simple) → Here c → Tells (plain c (s.Item (item i (simple_act c.context a))) (simple_faults c.context i.pos a)) (simple_sites i a)
simple_tells c i a h = plain_tells c _ _ _ h (λ none. an_item (item i (simple_act c.context a)) ∙ simple_shows c.context (sees_here c h) i a none)

return_tells : (c : Inside) (i : ItemAt) (a : Option Exp) → Here c → Tells (plain c (s.Item (item i (value_if_there c a))) (return_faults c i.pos a)) (loads i.id (if_written a))
return_tells c i a h = plain_tells c _ _ _ h (λ none. an_item (item i (value_if_there c a)) ∙ return_shows c i a h none)

block_tells : (c : Inside) (x : Told) (ss : List TextSite) → Here c → Tells x ss → Tells (a_block c x) ss
block_tells c x ss h inside none = let w = inside none in record { behind = here_left c x.behind h; shows = of_block x.stmts ∙ w.shows }

-- two parts one after another
two_show : (xs ys : List (ItemId × SiteKind)) (ss us : List TextSite) → xs ≡ shown ss → ys ≡ shown us → xs ++ ys ≡ shown (ss ++ us)
two_show xs ys ss us h j = both_same xs ys (shown ss) (shown us) h j ∙ sym (shown_both ss us)

if_tells : (c : Inside) (i : ItemAt) (a : Exp) (x : Told) (ss : List TextSite) → Here c → Tells x ss → Tells (an_if c i a x None) (loads i.id (value_places a) ++ ss)
if_tells c i a x ss h body none =
    let parts = none_in (condition_faults c a ++ x.faults) [] none in
    let two = none_in (condition_faults c a) x.faults parts.0 in
    let w = body two.1 in
    record { behind = here_left c x.behind h; shows = of_if (condition_or_one c i (Some a)) x.stmts ∙ two_show _ _ (loads i.id (value_places a)) ss (condition_shows c i a h two.0) w.shows }

else_tells : (c : Inside) (i : ItemAt) (a : Exp) (x : Told) (f : Inside → Told) (ss us : List TextSite) → Here c → Tells x ss → ((d : Inside) → Here d → Tells (f d) us)
    → Tells (an_if c i a x (Some (f (left c x.behind)))) (loads i.id (value_places a) ++ (ss ++ us))
else_tells c i a x f ss us h body more none =
    let parts = none_in (condition_faults c a ++ x.faults) (f (left c x.behind)).faults none in
    let two = none_in (condition_faults c a) x.faults parts.0 in
    let w = body two.1 in
    let v = more (left c x.behind) (here_left c x.behind h) parts.1 in
    record {
      behind = here_left c (f (left c x.behind)).behind h;
      shows =
          of_else (condition_or_one c i (Some a)) x.stmts (f (left c x.behind)).stmts
          ∙ two_show _ _ (loads i.id (value_places a)) (ss ++ us) (condition_shows c i a h two.0) (two_show _ _ ss us w.shows v.shows);
    }

while_tells : (c : Inside) (i : ItemAt) (a : Exp) (x : Told) (ss : List TextSite) → Here c → Tells x ss → Tells (a_while c i a x) (loads i.id (value_places a) ++ ss)
while_tells c i a x ss h body none =
    let two = none_in (condition_faults c a) x.faults none in
    let w = body two.1 in
    record { behind = here_left c x.behind h; shows = of_while (condition_or_one c i (Some a)) x.stmts ∙ two_show _ _ (loads i.id (value_places a)) ss (condition_shows c i a h two.0) w.shows }

do_tells : (c : Inside) (i : ItemAt) (a : Exp) (x : Told) (ss : List TextSite) → Here c → Tells x ss → Tells (a_do c x i a) (ss ++ loads i.id (value_places a))
do_tells c i a x ss h body none =
    let two = none_in x.faults (condition_faults c a) none in
    let w = body two.0 in
    record { behind = here_left c x.behind h; shows = of_do x.stmts (condition_or_one c i (Some a)) ∙ two_show _ _ ss (loads i.id (value_places a)) w.shows (condition_shows c i a h two.1) }

-- ---- the head of a `for`

first_tells : (f : Option ForFirst) (c : Inside) → Here c → Tells (a_first c f) (first_sites f)
first_tells None c h = nothing_tells c h
first_tells (Some (first.Simple i a)) c h = simple_tells c i a h
first_tells (Some (first.Local b d)) c h = local_tells b d c h

-- its item alone
first_item : (f : Option ForFirst) (c : Inside) → of_items (if_any (item_of (a_first c f).stmts)) ≡ of_all (a_first c f).stmts
first_item None c = refl
first_item (Some (first.Simple i a)) c = append-nil _ ∙ sym (an_item (item i (simple_act c.context a)))
first_item (Some (first.Local b d)) c = append-nil _ ∙ sym (an_item (item d.item (first_act c (written_type c.context.scope b d.stars) d.value)))

step_shows : (g : Option (ItemAt × Simple)) (c : Inside) → Here c → given g (λ x. simple_faults c.context x.0.pos x.1) ≡ [] → of_items (if_any (a_step c g)) ≡ shown (step_sites g)
step_shows None c h none = refl
step_shows (Some x) c h none = append-nil _ ∙ simple_shows c.context (sees_here c h) x.0 x.1 none

for_tells : (c : Inside) (h : ForHead) (body : Inside → Told) (ss : List TextSite) → Here c → ((d : Inside) → Here d → Tells (body d) ss) → Tells (a_for c h (a_first (inner c) h.first) body) (head_sites h ++ ss)
for_tells c h body ss here more none =
    let begun = a_first (inner c) h.first in
    let all = none_in (begun.faults ++ given h.condition (condition_faults begun.behind) ++ given h.step (λ x. simple_faults begun.behind.context x.0.pos x.1)) (body begun.behind).faults none in
    let three = none_in (begun.faults ++ given h.condition (condition_faults begun.behind)) (given h.step (λ x. simple_faults begun.behind.context x.0.pos x.1)) all.0 in
    let two = none_in begun.faults (given h.condition (condition_faults begun.behind)) three.0 in
    let w = first_tells h.first (inner c) (here_inner c here) two.0 in
    let v = more begun.behind w.behind all.1 in
    let asked : List TextSite = loads h.item.id (if_written h.condition) in
    record {
      behind = here_left c (body begun.behind).behind here;
      shows =
          of_for (item_of begun.stmts) (condition_or_one begun.behind h.item h.condition) (a_step begun.behind h.step) (body begun.behind).stmts
          ∙ (two_show _ _ (first_sites h.first) (asked ++ (step_sites h.step ++ ss)) (first_item h.first (inner c) ∙ w.shows)
          (two_show _ _ asked (step_sites h.step ++ ss) (condition_or_shows begun.behind h.item h.condition w.behind two.1) (two_show _ _ (step_sites h.step) ss (step_shows h.step begun.behind w.behind three.1) v.shows))
          ∙ ap shown (sym (append_assoc (first_sites h.first) (asked ++ step_sites h.step) ss ∙ ap (λ us. first_sites h.first ++ us) (append_assoc asked (step_sites h.step) ss))));
    }

-- ---- the sites in the text

text_block : (xs : List Stmt) → stmt_sites (r.Block xs) ≡ stmts_sites xs
text_block xs = sites_out (r.Block xs) _ (r.outs-Block xs) ∙ joined_sites xs

text_if : (i : ItemAt) (a : Exp) (x : Stmt) → stmt_sites (r.If i a x None) ≡ loads i.id (value_places a) ++ stmt_sites x
text_if i a x = sites_out (r.If i a x None) _ (r.outs-If i a x None) ∙ ap (λ ss. loads i.id (value_places a) ++ ss) (append-nil (stmt_sites x))

text_else : (i : ItemAt) (a : Exp) (x y : Stmt) → stmt_sites (r.If i a x (Some y)) ≡ loads i.id (value_places a) ++ (stmt_sites x ++ stmt_sites y)
text_else i a x y = sites_out (r.If i a x (Some y)) _ (r.outs-If i a x (Some y))

text_while : (i : ItemAt) (a : Exp) (x : Stmt) → stmt_sites (r.While i a x) ≡ loads i.id (value_places a) ++ stmt_sites x
text_while i a x = sites_out (r.While i a x) _ (r.outs-While i a x)

text_do : (x : Stmt) (i : ItemAt) (a : Exp) → stmt_sites (r.Do x i a) ≡ stmt_sites x ++ loads i.id (value_places a)
text_do x i a = sites_out (r.Do x i a) _ (r.outs-Do x i a)

text_for : (h : ForHead) (x : Stmt) → stmt_sites (r.For h x) ≡ head_sites h ++ stmt_sites x
text_for h x = sites_out (r.For h x) _ (r.outs-For h x)

-- ---- all statements

module _ (words : Words) where
  abbrev part_told : (p : Part) → Tree p → Inside → Told
  part_told Unbraced a = told a.stmt
  part_told A_statement a = told a.stmt
  part_told A_body a = told a.stmt
  part_told Statements xs = all_told xs

  abbrev part_sites : (p : Part) → Tree p → List TextSite
  part_sites Unbraced a = stmt_sites a.stmt
  part_sites A_statement a = stmt_sites a.stmt
  part_sites A_body a = stmt_sites a.stmt
  part_sites Statements xs = stmts_sites xs

  part_tells : {p : Part} {in_loop : Bool} {d n : ℕ} {a : Tree p} {m : ℕ} → IsTree words p in_loop d n a m → (c : Inside) → Here c → Tells (part_told p a c) (part_sites p a)
  part_tells tree.no_statement c h = nothing_tells c h
  part_tells (tree.a_statement {a = a} {more = more} x q) c h = then_tells (told a.stmt c) (all_told more) (stmt_sites a.stmt) (stmts_sites more) (part_tells x c h) (λ d i. part_tells q d i)
  part_tells (tree.declared_locals {l = l} {more = more} deep are q) c h =
      then_tells (told (r.Locals l) c) (all_told more) (stmt_sites (r.Locals l)) (stmts_sites more) (tells_as _ _ _ _ (told_locals l c) (sites_out (r.Locals l) _ (r.outs-Locals l)) (some_locals_tell l c h)) (λ d i. part_tells q d i)
  part_tells (tree.a_block {more = more} deep q) c h = tells_as _ _ _ _ (told_block more c) (text_block more) (block_tells c (all_told more (inner c)) (stmts_sites more) h (part_tells q (inner c) (here_inner c h)))
  part_tells (tree.no_block deep x) c h = part_tells x c h
  part_tells (tree.a_braced_body {more = more} q) c h = tells_as _ _ _ _ (told_block more c) (text_block more) (block_tells c (all_told more (inner c)) (stmts_sites more) h (part_tells q (inner c) (here_inner c h)))
  part_tells (tree.a_plain_body deep x) c h = part_tells x c h
  part_tells tree.an_empty c h = tells_as _ _ _ _ (told_empty c) (sites_out r.Empty _ r.outs-Empty) (plain_tells c _ _ [] h (λ none. of_block []))
  part_tells (tree.a_simple {a = a} is) c h = tells_as _ _ _ _ (told_simple _ a c) (sites_out (r.Simple _ a) _ (r.outs-Simple _ a)) (simple_tells c _ a h)
  part_tells (tree.a_return {a = a} room whole) c h = tells_as _ _ _ _ (told_return _ a c) (sites_out (r.Return _ a) _ (r.outs-Return _ a)) (return_tells c _ a h)
  part_tells (tree.a_break {p = p}) c h = tells_as _ _ _ _ (told_break p c) (sites_out (r.Break p) _ (r.outs-Break p)) (plain_tells c _ _ [] h (λ none. one_is s.Break [] (items_out s.Break _ s.outs-Break)))
  part_tells (tree.a_continue {p = p}) c h = tells_as _ _ _ _ (told_continue p c) (sites_out (r.Continue p) _ (r.outs-Continue p)) (plain_tells c _ _ [] h (λ none. one_is s.Continue [] (items_out s.Continue _ s.outs-Continue)))
  part_tells (tree.an_if {c = a} {x = x} room whole q) c h = tells_as _ _ _ _ (told_if _ a x.stmt c) (text_if _ a x.stmt) (if_tells c _ a (told x.stmt c) (stmt_sites x.stmt) h (part_tells q c h))
  part_tells (tree.an_else {c = a} {x = x} {y = y} room whole q closed w) c h =
      tells_as _ _ _ _ (told_else _ a x.stmt y.stmt c) (text_else _ a x.stmt y.stmt) (else_tells c _ a (told x.stmt c) (told y.stmt) (stmt_sites x.stmt) (stmt_sites y.stmt) h (part_tells q c h) (λ d i. part_tells w d i))
  part_tells (tree.a_while {c = a} {a = x} room whole q) c h = tells_as _ _ _ _ (told_while _ a x.stmt c) (text_while _ a x.stmt) (while_tells c _ a (told x.stmt c) (stmt_sites x.stmt) h (part_tells q c h))
  part_tells (tree.a_do {c = a} {a = x} q room whole) c h = tells_as _ _ _ _ (told_do x.stmt _ a c) (text_do x.stmt _ a) (do_tells c _ a (told x.stmt c) (stmt_sites x.stmt) h (part_tells q c h))
  part_tells (tree.a_for {f = f} {c = a} {g = g} {a = x} begins room ask step q) c h =
      let head : ForHead = record { first = f; item = a.item; condition = a.what; step = g } in
      tells_as _ _ _ _ (told_for head x.stmt c) (text_for head x.stmt) (for_tells c head (told x.stmt) (stmt_sites x.stmt) h (λ d i. part_tells q d i))

  -- the statements of a body
  pub body_tells : {d n m : ℕ} {all : List Stmt} → IsTree words Statements false d n all m → (c : Inside) → Here c → Tells (all_told all c) (stmts_sites all)
  body_tells q c h = part_tells q c h
