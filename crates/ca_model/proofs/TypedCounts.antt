-- What a typed program counts: its items and functions by their numbers, its `main` among them, and how many things there are.
use Rattle.std.proofs.Common.{◌≡◌, ◌≤◌, ◌<◌, ℕ, zero, suc, ◌+◌, ◌-◌, append-nil, Bool, true, false, List, [], ◌∷◌, length, Option, Some, refl, sym, ◌∙◌, subst, arith}
use Rattle.std.specs.Prelude.{Contains, slice_get, is_some, ◌||◌, if◌then◌else◌}
use Rattle.std.specs.List.{list_any}
use Rattle.ca_tree.specs.declared.numbers.FunId.{FunId}
use Rattle.ca_tree.specs.declared.tree.Body.{Body}
use Rattle.ca_tree.specs.declared.tree.Globals.{Globals as GlobalsOf}
use Rattle.ca_tree.specs.declared.tree.Globals.TheVariants as globals
use Rattle.ca_tree.specs.declared.tree.Function.{Function}
use Rattle.ca_tree.specs.declared.tree.Top.{Top}
use Rattle.ca_tree.specs.declared.tree.Program.{Program}
use Rattle.ca_tree.specs.Counts.{Totals}
use Rattle.ca_tree.specs.TreeWords.{Words}
use Rattle.ca_tree.specs.ProgramTrees as tree
use Rattle.ca_tree.specs.ProgramTrees.{Each, AreGlobals, IsBody, no_body, a_body, IsTop, a_struct, some_globals, a_function, AreTops, no_top, one_top, IsProgramOf}
use Rattle.ca_model.specs.declared.tree.Item.{Item}
use Rattle.ca_model.specs.declared.tree.Function.{Function as TypedFunction}
use Rattle.ca_model.specs.Codes.{Typed}
use Rattle.ca_model.specs.Sites.{items_in_all, items_of, all_items}
use Rattle.ca_model.specs.WellFormed.{knows, IsWellFormed}
use Rattle.ca_model.specs.Bounds.{IsWithin, IsBounded}
use Rattle.ca_model.specs.typing.Faults.{fault}
use Rattle.ca_model.specs.declared.types.TypeKind.TheVariants as wrong
use Rattle.ca_model.specs.typing.Programs.{definitions, is_main, first_place, known}
use Rattle.ca_model.specs.typing.Typing.{main_number, typed_by, IsTyping}
use Rattle.ca_model.proofs.NoFaults.{held_by_none}
use Rattle.ca_model.proofs.NumberedLists.{Ascends, how_many, number_of, parted, last_number}
use Rattle.ca_model.proofs.PlacedItems.{item_number}
use Rattle.ca_model.proofs.Law.{one_of}
use Rattle.ca_model.proofs.CountedKnowns.{function_number, IsInOrder, HasFewLocals, all_cells}
use Rattle.ca_model.proofs.CountedPrograms.{program_counted}

-- ---- `main`

one_below : (b : Bool) (x y : FunId) (n : ℕ) → x.0 < n → (b ≡ false → y.0 < n) → (if b then x else y).0 < n
one_below true x y n h more = h
one_below false x y n h more = more refl

not_first : (b c : Bool) → (b || c) ≡ true → b ≡ false → c ≡ true
not_first true c h is = absurd cc
not_first false c h is = h

main_at : (k : ℕ) (fs : List Function) → list_any is_main fs ≡ true → (main_number k fs).0 < k + length fs
main_at k [] h = absurd cc
main_at k (f ∷ more) h = one_below (is_main f) (record { 0 = k }) (main_number (k + 1) more) (k + suc (length more)) (omega arith)
    (λ other. let rest = main_at (k + 1) more (not_first (is_main f) (list_any is_main more) h other) in omega arith)

-- each definition is counted as a function
same_functions : {X : Type 0} {Is : X → Type 0} {Room : Totals → Type 0} {and_one : Totals → Totals} → ((n : Totals) → (and_one n).functions ≡ n.functions) → {n m : Totals} {xs : List X} → Each Is Room and_one n xs m
    → m.functions ≡ n.functions
same_functions same tree.none = refl
same_functions same (tree.one {n = n} room is more) = same_functions same more ∙ same n

globals_are_none : (words : Words) (n m : Totals) (a : GlobalsOf) → AreGlobals words n a m → m.functions ≡ n.functions
globals_are_none words n m (globals.Mutexes ds) are = same_functions (λ n. refl) are.1
globals_are_none words n m (globals.Threads ds) are = same_functions (λ n. refl) are.1
globals_are_none words n m (globals.Variables b ds) are = same_functions (λ n. refl) are.2

with_body : (words : Words) (f : Function) (fs : List Function) (b : Option Body) {n k : Totals} (m : ℕ) → IsBody words n b k → m ≡ k.functions + length fs → m ≡ n.functions + length (if is_some b then f ∷ fs else fs)
with_body words f fs b m no_body h = h
with_body words f fs b m (a_body room s last) h = omega arith

definitions_counted : {words : Words} {n m : Totals} {tops : List Top} → AreTops words n tops m → m.functions ≡ n.functions + length (definitions tops)
definitions_counted no_top = omega arith
definitions_counted (one_top (a_struct room is) more) = definitions_counted more
definitions_counted {words = words} {n = n} (one_top {k = k} (some_globals {a = a} are) more) = let rest = definitions_counted more in let same = globals_are_none words n k a are in omega arith
definitions_counted {words = words} {m = m} (one_top {more = tops} (a_function {f = f} is) more) = with_body words f (definitions tops) f.body m.functions is.is_body (definitions_counted more)

-- ---- the typed program

-- the last item is the closing brace of the last function
closing_number : {n m : ℕ} (f : TypedFunction) → Ascends item_number n (items_of f) m → suc f.close.id.0 ≡ m
closing_number f h = last_number (items_in_all f.body) h

last_closing : (fs : List TypedFunction) (f : TypedFunction) (j : ℕ) → slice_get fs j ≡ Some f → suc j ≡ length fs → {n m : ℕ} → Ascends item_number n (all_items fs) m → suc f.close.id.0 ≡ m
last_closing [] f j at last h = absurd cc
last_closing (g ∷ []) f zero at last {n} {m} h =
    closing_number f (subst (λ (g : TypedFunction). Ascends item_number n (items_of g) m) (one_of g f at) (subst (λ is. Ascends item_number n is m) (append-nil (items_of g)) h))
last_closing (g ∷ k ∷ fs) f zero at last h = absurd (omega arith)
last_closing (g ∷ fs) f (suc j) at last h = last_closing fs f j at (omega arith) (parted (items_of g) h).2

last_place : (fs : List TypedFunction) (f : TypedFunction) → slice_get fs (length fs - 1) ≡ Some f → suc (length fs - 1) ≡ length fs
last_place [] f at = absurd cc
last_place (g ∷ fs) f at = omega arith

-- what a typed program counts
pub record IsCounted (t : Typed) : Type 0 where
  pub items_ascend : (m : ℕ) × Ascends item_number 1 (all_items t.functions) m
  pub functions_ascend : (m : ℕ) × Ascends function_number 0 t.functions m
  pub items : (k : ℕ) (i : Item) → slice_get (all_items t.functions) k ≡ Some i → i.id.0 ≡ k + 1
  pub last_item : (f : TypedFunction) → slice_get t.functions (length t.functions - 1) ≡ Some f → f.close.id.0 ≡ length (all_items t.functions)
  pub few_items : length (all_items t.functions) ≤ 65536
  pub functions : (k : ℕ) (f : TypedFunction) → slice_get t.functions k ≡ Some f → f.id.0 ≡ k
  pub few_functions : length t.functions ≤ 256
  pub main : t.main.0 < length t.functions
  pub few_globals : length t.globals ≤ 1024
  pub few_cells : all_cells t.globals ≤ 65536
  pub few_mutexes : t.mutexes ≤ 64
  pub locals : (f : TypedFunction) → Contains t.functions f → HasFewLocals f
  pub in_order : (f : TypedFunction) → Contains t.functions f → IsInOrder f

module _ {words : Words} {p : Program} (is : IsProgramOf words p) where
  pub known_is_counted : (known p).faults ≡ [] → IsCounted (typed_by p (known p))
  known_is_counted none =
      let counts = program_counted words p is in
      let sound = counts.sound none in
      let length_is = how_many counts.functions in
      let items_are = how_many counts.items in
      record {
        items_ascend = (suc is.0.items, counts.items);
        functions_ascend = (is.0.functions, counts.functions);
        items = λ k i at. let here = number_of counts.items k i at in omega arith;
        last_item = λ f at.
            let last = last_closing (known p).functions f (length (known p).functions - 1) at (last_place (known p).functions f at) counts.items in
            omega arith;
        few_items = let few = counts.few.items in omega arith;
        functions = λ k f at. let here = number_of counts.functions k f at in omega arith;
        few_functions = let few = counts.few.functions in omega arith;
        main =
            let here = main_at 0 (definitions p.tops) (held_by_none (list_any is_main (definitions p.tops)) (fault first_place wrong.NoMain) sound.start) in
            let many = definitions_counted is.1 in
            omega arith;
        few_globals = let few = counts.few.globals in let same = counts.globals in omega arith;
        few_cells = let few = sound.few_cells in let same = sound.cells in omega arith;
        few_mutexes = let few = counts.few.mutexes in let same = counts.mutexes in omega arith;
        locals = sound.locals;
        in_order = counts.each;
      }

  pub typing_is_counted : {t : Typed} → IsTyping p t → IsCounted t
  typing_is_counted typing = subst IsCounted (sym typing.is) (known_is_counted typing.sound)

-- a typed program is well-formed where each item names what is there
pub well_formed_by : {t : Typed} → IsCounted t → ((f : TypedFunction) (i : Item) → Contains t.functions f → Contains (items_of f) i → knows t i.act ≡ true) → IsWellFormed t
well_formed_by {t = t} h knows_all = record {
  items = h.items;
  functions = h.functions;
  main = h.main;
  placed = λ f c. (h.in_order f c).placed t (λ i within. knows_all f i c within);
  closed = λ f c. (h.in_order f c).closed;
}

-- and keeps within the limits where each item does
pub bounded_by : {t : Typed} → IsCounted t → ((f : TypedFunction) (i : Item) → Contains t.functions f → Contains (items_of f) i → IsWithin t f i.act) → IsBounded t
bounded_by h acts = record {
  functions = h.few_functions;
  items = h.few_items;
  mutexes = h.few_mutexes;
  globals = h.few_globals;
  cells = h.few_cells;
  locals = h.locals;
  acts = acts;
}
