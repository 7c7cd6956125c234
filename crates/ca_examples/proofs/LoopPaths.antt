-- The links, the paths and the points of the source with a loop.
use Rattle.std.proofs.Common.{arith, ◌≡◌, zero, suc, true, false, List, [], ◌∷◌, refl, sym, ap, ◌∙◌, subst, inl, inr}
use Rattle.std.specs.Prelude.{ℕ, ◌+◌, ◌&&◌, map, slice_get, Some, Contains, ◌⊎◌, ◌↔◌}
use Rattle.ca_model.specs.declared.tree.LoadKind.TheVariants as kind
use Rattle.ca_model.specs.declared.tree.Exp.TheVariants as e
use Rattle.ca_model.specs.declared.tree.Item.{Item}
use Rattle.ca_model.specs.declared.tree.Function.{Function}
use Rattle.ca_model.specs.declared.tree.Stmt.TheOpen.{Stmt-F}
use Rattle.ca_model.specs.declared.tree.Stmt.TheVariants as s
use Rattle.ca_model.specs.Sites.{all_items}
use Rattle.ca_model.specs.Accesses.{Named_load, accesses_to, all_sites, sites_in}
use Rattle.ca_model.specs.Links.{Flow, stmt_flow, flow, flows, block_links, at_close, first_item, links_of, Next}
use Rattle.ca_model.specs.Destroying.{destroys}
use Rattle.ca_model.specs.Paths.{Stop, GoesUp, Goes, OnPath, Before, PointAfter, PointAtEntry}
use Rattle.ca_model.specs.Paths as path
use Rattle.ca_model.specs.WellFormed.{is_placed, all_placed, IsWellFormed}
use Rattle.ca_model.proofs.Equations.{flow_while, flow_block, items_while, items_block, items_item, flow_item, accesses_num, accesses_local, accesses_global, accesses_load, accesses_binary, accesses_plain, accesses_indexed}
use Rattle.ca_model.proofs.Members.{in_one}
use Rattle.ca_model.proofs.Law.{one_of}
use Rattle.ca_model.proofs.StraightLines.{number_at, placed_out, placed_item, placed_items}
use Rattle.ca_examples.specs.LoopPoints.{i, body, bound, element, begins, tests, counts, writes, gives_zero, closes, main_function, program, site}

abbrev six : List Item
six = begins ∷ tests ∷ counts ∷ writes ∷ gives_zero ∷ closes ∷ []

all_six : all_items program.functions ≡ six
all_six = simp (items_while, items_block, items_item)

first_is : first_item main_function ≡ begins
first_is = simp flow_item

abbrev the_links : List (Item × Item)
the_links = (begins, tests) ∷ (tests, counts) ∷ (tests, gives_zero) ∷ (counts, writes) ∷ (writes, tests) ∷ []

abbrev by_item : Item → Flow
by_item x = stmt_flow (Stmt-F.Item x)

flow_body : flow body ≡ stmt_flow (Stmt-F.Block (by_item counts ∷ by_item writes ∷ []))
flow_body = flow_block (s.Item counts ∷ s.Item writes ∷ []) ∙ simp flow_item

flows_are : flows main_function.body ≡ by_item begins ∷ stmt_flow (Stmt-F.While tests (stmt_flow (Stmt-F.Block (by_item counts ∷ by_item writes ∷ [])))) ∷ by_item gives_zero ∷ []
flows_are = simp (flow_while, flow_body, flow_item)

links_are : links_of main_function ≡ the_links
links_are = ap (λ fs. block_links fs (at_close main_function)) flows_are

does_bound : accesses_to bound ≡ (false, [])
does_bound = accesses_plain (e.Global (record { 0 = 1 })) 0 false ∙ simp accesses_global

does_element : accesses_to element ≡ (true, Named_load ∷ [])
does_element = accesses_indexed (e.Global (record { 0 = 0 })) (e.Load bound kind.Int) 1 0 true ∙ simp (accesses_global, accesses_load, does_bound)

bound_is_named : (accesses_to bound).0 ≡ false
bound_is_named = ap (λ p. p.0) does_bound

bound_does_nothing : (accesses_to bound).1 ≡ []
bound_does_nothing = ap (λ p. p.1) does_bound

element_is_through : (accesses_to element).0 ≡ true
element_is_through = ap (λ p. p.0) does_element

element_reads : (accesses_to element).1 ≡ Named_load ∷ []
element_reads = ap (λ p. p.1) does_element

pub one_site : all_sites program ≡ site ∷ []
one_site = ap sites_in all_six ∙ simp (accesses_num, accesses_local, accesses_load, accesses_binary, bound_is_named, bound_does_nothing, element_is_through, element_reads)

-- the links that lead to the condition, and to the first item
to_tests : (i j : Item) → Contains the_links (j, i) → i.id.0 ≡ 2 → (j ≡ begins) ⊎ (j ≡ writes)
to_tests i j (zero, lt, is) two = inl (ap (λ l. l.0) (sym is))
to_tests i j (suc zero, lt, is) two = absurd (omega (arith, two, ap (λ l. l.1.id.0) is))
to_tests i j (suc (suc zero), lt, is) two = absurd (omega (arith, two, ap (λ l. l.1.id.0) is))
to_tests i j (suc (suc (suc zero)), lt, is) two = absurd (omega (arith, two, ap (λ l. l.1.id.0) is))
to_tests i j (suc (suc (suc (suc zero))), lt, is) two = inr (ap (λ l. l.0) (sym is))
to_tests i j (suc (suc (suc (suc (suc k)))), lt, is) two = absurd (omega (arith, lt))

to_first : (i j : Item) → Contains the_links (j, i) → i.id.0 ≡ 1 → ⊥
to_first i j (zero, lt, is) one = omega (arith, one, ap (λ l. l.1.id.0) is)
to_first i j (suc zero, lt, is) one = omega (arith, one, ap (λ l. l.1.id.0) is)
to_first i j (suc (suc zero), lt, is) one = omega (arith, one, ap (λ l. l.1.id.0) is)
to_first i j (suc (suc (suc zero)), lt, is) one = omega (arith, one, ap (λ l. l.1.id.0) is)
to_first i j (suc (suc (suc (suc zero))), lt, is) one = omega (arith, one, ap (λ l. l.1.id.0) is)
to_first i j (suc (suc (suc (suc (suc k)))), lt, is) one = omega (arith, lt)

linked : (i j : Item) → Next program j i → Contains the_links (j, i)
linked i j (f, c, l) = subst (λ ls. Contains ls (j, i)) (ap links_of (sym (in_one main_function f c)) ∙ links_are) l

links : (i j : Item) → Contains the_links (j, i) → Next program j i
links i j l = (main_function, (0, omega arith, refl), subst (λ ls. Contains ls (j, i)) (sym links_are) l)

no_up : (a b : Stop) → GoesUp program 3 a b → ⊥
no_up a b (f, c, first, alone, call, below, depth) = alone (inl (ap (λ g. g.id) (sym (in_one main_function f c))))

-- a path has the condition, and the first item
abbrev IsStart : Stop → Type 0
IsStart a = (a ≡ (tests, 0)) ⊎ (a ≡ (begins, 0))

back_from : (a b : Stop) → IsStart a → Goes program 3 a b → b ≡ (begins, 0)
back_from a b at (inr up) = absurd (no_up a b up)
back_from a b (inl is) (inl back) = elim (to_tests a.0 b.0 (linked a.0 b.0 back.0) (ap (λ x. x.0.id.0) is)) [
  | inl first ↦ λ k. (first k, (back.2 ∙ ap (λ x. x.1) is) k)
  | inr last ↦ let no' : true ≡ false = sym (ap (λ x. destroys x.act) last) ∙ back.1 in absurd (cc)
]
back_from a b (inr is) (inl back) = absurd (to_first a.0 b.0 (linked a.0 b.0 back.0) (ap (λ x. x.0.id.0) is))

starts : (a : Stop) → OnPath program 3 tests a → IsStart a
starts a path.begins = inl refl
starts a (path.goes {a = b} p g) = inr (back_from b a (starts b p) g)

to_begins : Goes program 3 (tests, 0) (begins, 0)
to_begins = inl (links tests begins (0, omega arith, refl), refl, refl)

pub before_tests : (j : Item) → Before program 3 tests j ↔ (j ≡ begins)
before_tests j = (
  (λ (a, k, p, go). ap (λ x. x.0) (back_from a (j, k) (starts a p) go)),
  (λ is. subst (Before program 3 tests) (sym is) ((tests, 0), 0, path.begins, to_begins)),
)

pub after_writes : (j : Item) → PointAfter program 3 tests j ↔ (j ≡ writes)
after_writes j = (
  (λ (a, p, next, destroyed). elim (starts a p) [
    | inl is ↦ elim (to_tests a.0 j (linked a.0 j next) (ap (λ x. x.0.id.0) is)) [
      | inl first ↦ let no' : false ≡ true = sym (ap (λ x. destroys x.act) first) ∙ destroyed in absurd (cc)
      | inr last ↦ last
    ]
    | inr is ↦ absurd (to_first a.0 j (linked a.0 j next) (ap (λ x. x.0.id.0) is))
  ]),
  (λ is. ((tests, 0), path.begins, links tests j (4, omega arith, ap (λ x. (x, tests)) (sym is)), ap (λ x. destroys x.act) is)),
)

pub at_main : (f : Function) → PointAtEntry program 3 tests f ↔ (f ≡ main_function)
at_main f = (
  (λ (c, way). sym (in_one main_function f c)),
  (λ is. subst (PointAtEntry program 3 tests) (sym is) ((0, omega arith, refl), (0, subst (λ x. OnPath program 3 tests (x, 0)) (sym first_is) (path.goes path.begins to_begins), λ b up. no_up _ b up))),
)

-- the source is well-formed
body_placed : is_placed program body ≡ λ in_loop. true
body_placed = placed_out program body _ (s.outs-Block _) ∙ ap (λ xs. all_placed xs) (placed_items program (counts ∷ writes ∷ []))

loop_placed : is_placed program (s.While tests body) ≡ λ in_loop. true
loop_placed = placed_out program (s.While tests body) _ (s.outs-While tests body) ∙ ap (λ x in_loop. x true) body_placed

all_are_placed : all_placed (map (is_placed program) main_function.body) false ≡ true
all_are_placed =
    ap (λ x. x false && (is_placed program (s.While tests body) false && (is_placed program (s.Item gives_zero) false && true))) (placed_item program begins)
    ∙ (ap (λ x. x false && (is_placed program (s.Item gives_zero) false && true)) loop_placed ∙ ap (λ x. x false && true) (placed_item program gives_zero))

number_of : (k : ℕ) (i : Item) → slice_get (all_items program.functions) k ≡ Some i → i.id.0 ≡ k + 1
number_of k i at = omega (arith, number_at 1 six k i refl (ap (λ xs. slice_get xs k) (sym all_six) ∙ at))

function_of : (k : ℕ) (f : Function) → slice_get program.functions k ≡ Some f → f.id.0 ≡ k
function_of zero f at = ap (λ x. x.id.0) (sym (one_of main_function f at))
function_of (suc k) f at = absurd (cc)

pub is_formed : IsWellFormed program
is_formed = record {
  items = number_of;
  functions = function_of;
  main = omega arith;
  placed = λ f c. subst (λ g. all_placed (map (is_placed program) g.body) false ≡ true) (in_one main_function f c) all_are_placed;
  closed = λ f c. ap (λ g. g.close.act) (sym (in_one main_function f c));
}
