-- What declarations count, and that there is room for it.
use Rattle.std.proofs.Common.{◌≡◌, ◌≤◌, ℕ, suc, ◌+◌, List, [], ◌∷◌, length, Option, Some, None, refl, ◌∙◌, arith}
use Rattle.std.specs.Prelude.{is_some, if◌then◌else◌}
use Rattle.ca_tree.specs.Counts.{Totals}
use Rattle.ca_tree.specs.TreeWords.{text_words}
use Rattle.ca_tree.specs.declared.tree.Globals.{Globals as GlobalsOf}
use Rattle.ca_tree.specs.declared.tree.Globals.TheVariants as globals
use Rattle.ca_tree.specs.declared.tree.Body.{Body}
use Rattle.ca_tree.specs.declared.tree.Function.{Function}
use Rattle.ca_tree.specs.declared.tree.Top.{Top}
use Rattle.ca_tree.specs.declared.tree.Top.TheVariants as top
use Rattle.ca_tree.specs.ProgramTrees as tree
use Rattle.ca_tree.specs.ProgramTrees.{Each, AreGlobals, IsBody, no_body, a_body, IsTop, a_struct, some_globals, a_function, AreTops, no_top, one_top, field_count}
use Rattle.ca_model.specs.typing.Programs.{definitions}
use Rattle.ca_types.specs.Counts.{mutex_count, start_count}

-- ---- room

has_room : {X : Type 0} {Is : X → Type 0} {Room : Totals → Type 0} {and_one : Totals → Totals} (count : Totals → ℕ) (most : ℕ) → ((n : Totals) → count (and_one n) ≡ suc (count n)) → ((n : Totals) → Room n → suc (count n) ≤ most)
    → {n m : Totals} {xs : List X} → Each Is Room and_one n xs m → count n ≤ most → count n + length xs ≤ most
has_room count most one room tree.none few = omega (arith, few)
has_room count most one room (tree.one {n = n} {more = more} there is left) few =
    let next = one n in
    let here = room n there in
    let all = has_room count most one room left (omega (arith, next, here)) in omega (arith, next, all)

keeps_count : {X : Type 0} {Is : X → Type 0} {Room : Totals → Type 0} {and_one : Totals → Totals} (count : Totals → ℕ) → ((n : Totals) → count (and_one n) ≡ count n) → {n m : Totals} {xs : List X} → Each Is Room and_one n xs m → count m ≡ count n
keeps_count count same tree.none = refl
keeps_count count same (tree.one {n = n} there is left) = keeps_count count same left ∙ same n

pub mutexes_have_room : (n m : Totals) (a : GlobalsOf) → AreGlobals text_words n a m → n.mutexes ≤ 64 → n.mutexes + mutex_count a ≤ 64
mutexes_have_room n m (globals.Mutexes ds) are few = has_room (λ n. n.mutexes) 64 (λ n. refl) (λ n there. there) are.1 few
mutexes_have_room n m (globals.Threads ds) are few = omega (arith, few)
mutexes_have_room n m (globals.Variables b ds) are few = omega (arith, few)

pub globals_have_room : (n m : Totals) (a : GlobalsOf) → AreGlobals text_words n a m → n.globals ≤ 1024 → n.globals + start_count a ≤ 1024
globals_have_room n m (globals.Mutexes ds) are few = omega (arith, few)
globals_have_room n m (globals.Threads ds) are few = has_room (λ n. n.globals) 1024 (λ n. refl) (λ n there. there) are.1 few
globals_have_room n m (globals.Variables b ds) are few = has_room (λ n. n.globals) 1024 (λ n. refl) (λ n there. there) are.2 few

no_function : (n m : Totals) (a : GlobalsOf) → AreGlobals text_words n a m → m.functions ≡ n.functions
no_function n m (globals.Mutexes ds) are = keeps_count (λ n. n.functions) (λ n. refl) are.1
no_function n m (globals.Threads ds) are = keeps_count (λ n. n.functions) (λ n. refl) are.1
no_function n m (globals.Variables b ds) are = keeps_count (λ n. n.functions) (λ n. refl) are.2

of_body : (n k : Totals) (f : Function) (fs : List Function) (b : Option Body) → IsBody text_words n b k → (k.functions ≤ 256 → k.functions + length fs ≤ 256) → n.functions ≤ 256
    → n.functions + length (if is_some b then f ∷ fs else fs) ≤ 256
of_body n k f fs None no_body left few = left few
of_body n k f fs (Some b) (a_body room s last) left few = let all = left room in omega (arith, all)

-- a program defines at most 256 functions
pub few_definitions : (n m : Totals) (tops : List Top) → AreTops text_words n tops m → n.functions ≤ 256 → n.functions + length (definitions tops) ≤ 256
few_definitions n m [] no_top few = omega (arith, few)
few_definitions n m (top.Struct a ∷ more) (one_top (a_struct room is) left) few = few_definitions _ m more left few
few_definitions n m (top.Globals a ∷ more) (one_top {k = k} (some_globals are) left) few =
    let same = no_function n k a are in
    let all = few_definitions k m more left (omega (arith, same, few)) in omega (arith, same, all)
few_definitions n m (top.Function f ∷ more) (one_top {k = k} (a_function is) left) few = of_body n k f (definitions more) f.body is.is_body (λ h. few_definitions k m more left h) few
