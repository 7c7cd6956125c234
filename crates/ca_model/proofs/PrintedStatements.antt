-- Statements in which nothing is wrong can be printed, and what they declare is no call of the library.
use Rattle.std.proofs.Common.{◌≡◌, ℕ, Bool, true, false, not, ◌&&◌, ◌||◌, List, [], ◌∷◌, ◌++◌, map, Option, Some, None, refl, sym, subst}
use Rattle.std.specs.Prelude.{◌+◌, if◌then◌else◌, nat_lt}
use Rattle.std.specs.List.{list_all}
use Rattle.std.specs.Str.{bytes_eq}
use Rattle.std.proofs.lemmas.Slice.Eq.{bytes_eq-Decides}
use Rattle.ca_tree.specs.declared.text.Pos.{Pos}
use Rattle.ca_tree.specs.declared.tree.Name.{Name}
use Rattle.ca_tree.specs.declared.tree.Base.{Base}
use Rattle.ca_tree.specs.declared.tree.Exp.{Exp}
use Rattle.ca_tree.specs.declared.tree.Right.{Right}
use Rattle.ca_tree.specs.declared.tree.Right.TheVariants as right
use Rattle.ca_tree.specs.declared.tree.Library.{Library}
use Rattle.ca_tree.specs.declared.tree.Library.TheVariants as library
use Rattle.ca_tree.specs.declared.tree.Simple.{Simple}
use Rattle.ca_tree.specs.declared.tree.Simple.TheVariants as simple
use Rattle.ca_tree.specs.declared.tree.LocalDeclarator.{LocalDeclarator}
use Rattle.ca_tree.specs.declared.tree.ThreadLocal.{ThreadLocal}
use Rattle.ca_tree.specs.declared.tree.Locals.{Locals}
use Rattle.ca_tree.specs.declared.tree.Locals.TheVariants as locals
use Rattle.ca_tree.specs.declared.tree.ForFirst.{ForFirst}
use Rattle.ca_tree.specs.declared.tree.ForFirst.TheVariants as first
use Rattle.ca_tree.specs.declared.tree.ForHead.{ForHead}
use Rattle.ca_tree.specs.declared.tree.Stmt.{Stmt, map-Stmt, ind-Stmt, roll-Stmt, fold-roll-Stmt}
use Rattle.ca_tree.specs.declared.tree.Stmt.TheOpen.{Stmt-F}
use Rattle.ca_tree.specs.Names.{is_library_word}
use Rattle.ca_model.specs.declared.tree.Stmt.{Stmt as TypedStmt}
use Rattle.ca_model.specs.declared.types.Meaning.{Meaning}
use Rattle.ca_model.specs.declared.types.Meaning.TheVariants as means
use Rattle.ca_model.specs.declared.types.ObjectType.{ObjectType}
use Rattle.ca_model.specs.declared.types.TypeFault.{TypeFault}
use Rattle.ca_model.specs.declared.types.Wanted.TheVariants.{Scalar, OfType}
use Rattle.ca_model.specs.typing.Faults.{given}
use Rattle.ca_model.specs.typing.Types.{int, thread, void_pointer}
use Rattle.ca_model.specs.typing.TypeNames.{written_type, type_faults}
use Rattle.ca_model.specs.typing.Scopes.{Context, find, or_else}
use Rattle.ca_model.specs.typing.Targets.{Aim, aim, aim_faults}
use Rattle.ca_model.specs.typing.RightSides.{right_faults}
use Rattle.ca_model.specs.typing.LibraryCalls.{library_faults}
use Rattle.ca_model.specs.typing.SimpleStatements.{simple_faults}
use Rattle.ca_model.specs.typing.Bodies.{Inside, Told, and_then, in_order, inner, left}
use Rattle.ca_model.specs.typing.Locals.{with_locals, is_taken, most_locals, declared, declared_faults, local_aim, a_local, a_thread, some_locals}
use Rattle.ca_model.specs.typing.Statements.{all_stmts, plain, condition_faults, return_faults, a_first, stmt_step, told, all_told}
use Rattle.ca_model.specs.Printable.{exp_prints, if_any, right_prints, library_prints, simple_prints, local_prints, locals_print, first_prints, head_prints, all_true, printing, stmt_prints}
use Rattle.ca_model.proofs.NoFaults.{none_left, none_right, held_by_none}
use Rattle.ca_model.proofs.EmptyFaults.{none_in}
use Rattle.ca_model.proofs.PrintedExpressions.{IsClean, both_true, prints_judged, prints_in, arguments_print, each_prints, aim_prints}

-- ---- simple statements

if_any_prints : {A : Type 0} (test : A → Bool) (wrong : A → List TypeFault) → ((x : A) → wrong x ≡ [] → test x ≡ true) → (o : Option A) → given o wrong ≡ [] → if_any test o ≡ true
if_any_prints test wrong h None none = refl
if_any_prints test wrong h (Some x) none = h x none

module _ (k : Context) (clean : IsClean k.scope) where
  right_printed : (a : Aim) (r : Right) → right_faults k a r ≡ [] → right_prints r ≡ true
  right_printed a (right.Value b) none = prints_in k.scope clean (OfType a.of) b none
  right_printed a (right.Call c) none = arguments_print k.scope clean _ c.arguments (none_left _ _ (none_left _ _ none))
  right_printed a (right.Malloc m) none = if_any_prints exp_prints _ (λ b h. prints_in k.scope clean (OfType (Some int)) b h) m.count (none_right _ _ (none_left _ _ (none_left _ _ none)))

  library_printed : (p : Pos) (c : Library) → library_faults k p c ≡ [] → library_prints c ≡ true
  library_printed p (library.Lock n) none = refl
  library_printed p (library.Unlock n) none = refl
  library_printed p (library.Create x f a) none = prints_in k.scope clean (OfType (Some void_pointer)) a (none_right _ _ none)
  library_printed p (library.Join a) none = prints_in k.scope clean (OfType (Some thread)) a none
  library_printed p (library.Free a) none = prints_in k.scope clean (OfType (Some void_pointer)) a none
  library_printed p (library.Assert a) none = prints_in k.scope clean Scalar a none
  library_printed p (library.Print q t more) none = each_prints k.scope clean int more (none_right _ _ none)

  simple_printed : (p : Pos) (a : Simple) → simple_faults k p a ≡ [] → simple_prints a ≡ true
  simple_printed p (simple.Set a r) none =
      let parts = none_in (aim_faults k.scope a) (right_faults k (aim k.scope a) r) none in
      both_true _ (right_prints r) (aim_prints k.scope clean a parts.0) (right_printed (aim k.scope a) r parts.1)
  simple_printed p (simple.Update a o b) none =
      let parts = none_in (aim_faults k.scope a) _ (none_left _ _ none) in
      both_true _ (exp_prints b) (aim_prints k.scope clean a parts.0) (prints_judged k.scope clean b parts.1)
  simple_printed p (simple.Call c) none = arguments_print k.scope clean _ c.arguments (none_left _ _ (none_left _ _ none))
  simple_printed p (simple.Library c) none = library_printed p c none

-- ---- places in a function

-- where nothing is wrong in what is told, it can be printed, and behind it no call of the library means anything else
abbrev pub Shows : Inside → Told → Bool → Type 0
Shows c x b = IsClean c.context.scope → x.faults ≡ [] → (b ≡ true) × IsClean x.behind.context.scope

pub then_shows : (c : Inside) (x : Told) (f : Inside → Told) (a b : Bool) → Shows c x a → ((d : Inside) → Shows d (f d) b) → Shows c (and_then x f) (a && b)
then_shows c x f a b h more clean none =
    let parts = none_in x.faults (f x.behind).faults none in
    let one = h clean parts.0 in
    let rest = more x.behind one.1 parts.1 in
    (both_true a b one.0 rest.0, rest.1)

pub in_order_shows : {A : Type 0} (f : Inside → A → Told) (test : A → Bool) → ((c : Inside) (x : A) → Shows c (f c x) (test x)) → (xs : List A) (c : Inside) → Shows c (in_order f xs c) (list_all test xs)
in_order_shows f test h [] c clean none = (refl, clean)
in_order_shows f test h (x ∷ xs) c clean none = then_shows c (f c x) (in_order f xs) (test x) (list_all test xs) (h c x) (λ d. in_order_shows f test h xs d) clean none

plain_shows : (c : Inside) (x : TypedStmt) (fs : List TypeFault) (b : Bool) → (IsClean c.context.scope → fs ≡ [] → b ≡ true) → Shows c (plain c x fs) b
plain_shows c x fs b h clean none = (h clean none, clean)

-- ---- locals

pub neither : (a b : Bool) → not (a || b) ≡ true → a ≡ true → ⊥
neither true b h is = absurd cc
neither false b h is = absurd cc

one_more : (e : Bool) (m : Meaning) (o p : Option Meaning) → (e ≡ true → ⊥) → or_else o p ≡ None → or_else (if e then Some m else o) p ≡ None
one_more true m o p never h = absurd (never refl)
one_more false m o p never h = h

declared_by : (b : Bool) (c : Inside) (n : List ℕ) (m : Meaning) → (is_library_word n ≡ true → ⊥) → IsClean c.context.scope → IsClean (if b then with_locals c ((n, m) ∷ c.context.scope.locals) (c.count + 1) else c).context.scope
declared_by true c n m never clean =
    λ x is. one_more (bytes_eq x n) m (find x c.context.scope.locals) (find x c.context.scope.globals) (λ same. never (subst (λ y. is_library_word y ≡ true) ((bytes_eq-Decides x n).0 same) is)) (clean x is)
declared_by false c n m never clean = clean

pub declared_clean : (c : Inside) (n : Name) (t : Option ObjectType) → IsClean c.context.scope → declared_faults c n ≡ [] → IsClean (declared c n t).context.scope
declared_clean c n t clean none =
    declared_by (nat_lt c.count most_locals) c n.text (means.Local (record { 0 = c.count }) t) (neither (is_library_word n.text) _ (held_by_none (not (is_taken c n.text)) _ (none_left _ _ none))) clean

local_shows : (b : Base) (c : Inside) (d : LocalDeclarator) → Shows c (a_local b c d) (local_prints d)
local_shows b c d clean none =
    let t : Option ObjectType = written_type c.context.scope b d.stars in
    let parts = none_in (type_faults c.context.scope b ++ given d.value (right_faults c.context (local_aim c t))) (declared_faults c d.name) none in
    (if_any_prints right_prints (right_faults c.context (local_aim c t)) (right_printed c.context clean (local_aim c t)) d.value (none_right _ _ parts.0), declared_clean c d.name t clean parts.1)

thread_shows : (c : Inside) (d : ThreadLocal) → Shows c (a_thread c d) true
thread_shows c d clean none = (refl, declared_clean c d.name (Some thread) clean none)

locals_show : (l : Locals) (c : Inside) → Shows c (some_locals l c) (locals_print l)
locals_show (locals.Threads ds) c clean none = (refl, (in_order_shows a_thread (λ d. true) thread_shows ds c clean none).1)
locals_show (locals.Variables b ds) c clean none = in_order_shows (a_local b) local_prints (local_shows b) ds c clean none

-- ---- statements

first_shows : (f : Option ForFirst) (c : Inside) → Shows c (a_first c f) (if_any first_prints f)
first_shows None c clean none = (refl, clean)
first_shows (Some (first.Simple i a)) c clean none = (simple_printed c.context clean i.pos a none, clean)
first_shows (Some (first.Local b d)) c clean none = local_shows b c d clean none

condition_printed : (c : Inside) → IsClean c.context.scope → (a : Exp) → condition_faults c a ≡ [] → exp_prints a ≡ true
condition_printed c clean a none = prints_in c.context.scope clean Scalar a none

return_printed : (c : Inside) → IsClean c.context.scope → (p : Pos) (a : Option Exp) → return_faults c p a ≡ [] → if_any exp_prints a ≡ true
return_printed c clean p None none = refl
return_printed c clean p (Some a) none = prints_in c.context.scope clean (OfType c.result) a none

abbrev Holds : Stmt → Type 0
Holds a = (c : Inside) → Shows c (told a c) (stmt_prints a)

abbrev Such : Type 0
Such = (a : Stmt) × Holds a

abbrev trees : List Such → List Stmt
trees = map (λ a. a.0)

abbrev Level : Stmt-F Stmt → Type 0
Level x = (c : Inside) → Shows c (stmt_step (map-Stmt Stmt (Inside → Told) told x) c) (printing (map-Stmt Stmt Bool stmt_prints x))

block_shows : (xs : List Such) (c : Inside) → Shows c (all_stmts (map told (trees xs)) c) (all_true (map stmt_prints (trees xs)))
block_shows [] c clean none = (refl, clean)
block_shows (x ∷ xs) c clean none = then_shows c (told x.0 c) (all_stmts (map told (trees xs))) (stmt_prints x.0) (all_true (map stmt_prints (trees xs))) (x.1 c) (block_shows xs) clean none

for_shows : (h : ForHead) (body : Such) → Level (Stmt-F.For h body.0)
for_shows h body c clean none =
    let begun : Told = a_first (inner c) h.first in
    let d : Inside = begun.behind in
    let all = none_in (begun.faults ++ given h.condition (condition_faults d) ++ given h.step (λ x. simple_faults d.context x.0.pos x.1)) (told body.0 d).faults none in
    let three = none_in (begun.faults ++ given h.condition (condition_faults d)) (given h.step (λ x. simple_faults d.context x.0.pos x.1)) all.0 in
    let two = none_in begun.faults (given h.condition (condition_faults d)) three.0 in
    let one = first_shows h.first (inner c) clean two.0 in
    let asks = if_any_prints exp_prints (condition_faults d) (condition_printed d one.1) h.condition two.1 in
    let steps = if_any_prints (λ x. simple_prints x.1) (λ x. simple_faults d.context x.0.pos x.1) (λ x s. simple_printed d.context one.1 x.0.pos x.1 s) h.step three.1 in
    (both_true (head_prints h) (stmt_prints body.0) (both_true _ _ one.0 (both_true _ _ asks steps)) (body.1 d one.1 all.1).0, clean)

level : (x : Stmt-F Such) → Level (map-Stmt Such Stmt (λ a. a.0) x)
level (Stmt-F.Block xs) c clean none = ((block_shows xs (inner c) clean none).0, clean)
level (Stmt-F.Locals l) c clean none = locals_show l c clean none
level Stmt-F.Empty c clean none = (refl, clean)
level (Stmt-F.Simple i a) c clean none = (simple_printed c.context clean i.pos a none, clean)
level (Stmt-F.Return i a) c clean none = (return_printed c clean i.pos a none, clean)
level (Stmt-F.Break p) c clean none = (refl, clean)
level (Stmt-F.Continue p) c clean none = (refl, clean)
level (Stmt-F.If i a x None) c clean none =
    let parts = none_in (condition_faults c a) (told x.0 c).faults (none_left _ _ none) in
    (both_true _ _ (condition_printed c clean a parts.0) (both_true _ true (x.1 c clean parts.1).0 refl), clean)
level (Stmt-F.If i a x (Some y)) c clean none =
    let all = none_in (condition_faults c a ++ (told x.0 c).faults) (told y.0 (left c (told x.0 c).behind)).faults none in
    let parts = none_in (condition_faults c a) (told x.0 c).faults all.0 in
    (both_true _ _ (condition_printed c clean a parts.0) (both_true _ _ (x.1 c clean parts.1).0 (y.1 (left c (told x.0 c).behind) clean all.1).0), clean)
level (Stmt-F.While i a body) c clean none =
    let parts = none_in (condition_faults c a) (told body.0 c).faults none in
    (both_true _ _ (condition_printed c clean a parts.0) (body.1 c clean parts.1).0, clean)
level (Stmt-F.Do body i a) c clean none =
    let parts = none_in (told body.0 c).faults (condition_faults c a) none in
    (both_true _ _ (body.1 c clean parts.0).0 (condition_printed c clean a parts.1), clean)
level (Stmt-F.For h body) c clean none = for_shows h body c clean none

shows : (a : Stmt) → Holds a
shows = ind-Stmt Holds (λ x y is.
    subst (λ b. (c : Inside) → Shows c (told (roll-Stmt x) c) b) (sym (fold-roll-Stmt Bool printing x))
    (subst (λ (f : Inside → Told). (c : Inside) → Shows c (f c) (printing (map-Stmt Stmt Bool stmt_prints x))) (sym (fold-roll-Stmt (Inside → Told) stmt_step x)) (subst Level is (level y))))

pub all_show : (xs : List Stmt) (c : Inside) → Shows c (all_told xs c) (list_all stmt_prints xs)
all_show xs c = in_order_shows (λ d x. told x d) stmt_prints (λ d x. shows x d) xs c
