-- What is known behind each declaration is as much as is counted.
use Rattle.std.proofs.Common.{◌≡◌, ◌≤◌, ℕ, suc, ◌+◌, Bool, true, false, List, [], ◌∷◌, ◌++◌, length, Option, Some, None, refl, ap, sym, ◌∙◌, subst, arith}
use Rattle.std.proofs.lemmas.List.{append-nil, length-append}
use Rattle.std.specs.Prelude.{is_some, if◌then◌else◌}
use Rattle.ca_tree.specs.Counts.{Totals, one_more_mutex, one_more_global, one_more_struct}
use Rattle.ca_tree.specs.TreeWords.{text_words}
use Rattle.ca_tree.specs.declared.tree.Globals.{Globals as GlobalsOf}
use Rattle.ca_tree.specs.declared.tree.Globals.TheVariants as globals
use Rattle.ca_tree.specs.declared.tree.Struct.{Struct}
use Rattle.ca_tree.specs.declared.tree.Body.{Body}
use Rattle.ca_tree.specs.declared.tree.Function.{Function}
use Rattle.ca_tree.specs.declared.tree.Top.{Top}
use Rattle.ca_tree.specs.declared.tree.Top.TheVariants as top
use Rattle.ca_tree.specs.ProgramTrees as tree
use Rattle.ca_tree.specs.ProgramTrees.{Each, AreGlobals, IsBody, no_body, a_body, IsTop, a_struct, some_globals, a_function}
use Rattle.ca_model.specs.declared.tree.Function.{Function as TypedFunction}
use Rattle.ca_model.specs.declared.tree.GlobalStart.{GlobalStart}
use Rattle.ca_model.specs.declared.types.Meaning.{Meaning}
use Rattle.ca_model.specs.declared.types.Meaning.TheVariants as means
use Rattle.ca_model.specs.typing.Known.{Known, with_each}
use Rattle.ca_model.specs.typing.Scopes.{StructOf, Scope, Signature, Context, find}
use Rattle.ca_model.specs.typing.Bodies.{Told}
use Rattle.ca_model.specs.typing.Structs.{is_tag, with_structs, with_struct}
use Rattle.ca_model.specs.typing.Globals.{with_mutex, with_thread, with_variable, with_globals}
use Rattle.ca_model.specs.typing.Signatures.{signature, with_declaration, with_signature}
use Rattle.ca_model.specs.typing.Functions.{told_in, functions_of, with_function}
use Rattle.ca_model.specs.typing.Programs.{with_top}
use Rattle.ca_types.specs.Knows.{Counts}
use Rattle.ca_types.proofs.Holding.{Keeps, name_kept, mutex_keeps, global_keeps}

module _ (n : Totals) (k j : Known) (h : Counts n k) (keep : Keeps k j) where
  few_structs : length j.context.scope.structs ≤ n.structs
  few_structs = subst (λ (xs : List StructOf). length xs ≤ n.structs) (sym keep.structs) h.structs

  as_many_functions : length j.functions ≡ n.functions
  as_many_functions = ap (λ (fs : List TypedFunction). length fs) keep.functions ∙ h.functions

  mutex_counts : suc n.mutexes ≤ 64 → j.mutexes ≡ k.mutexes + 1 → j.starts ≡ k.starts → Counts (one_more_mutex n) j
  mutex_counts room more same = record {
    structs = few_structs;
    globals = ap (λ (gs : List GlobalStart). length gs) same ∙ h.globals;
    mutexes = let before = h.mutexes in omega (arith, more, before);
    functions = as_many_functions;
    few_globals = h.few_globals;
    few_mutexes = room;
    few_functions = h.few_functions;
    outside = keep.locals ∙ h.outside;
  }

  global_counts : suc n.globals ≤ 1024 → j.mutexes ≡ k.mutexes → (x : GlobalStart) → j.starts ≡ k.starts ++ x ∷ [] → Counts (one_more_global n) j
  global_counts room same x more = record {
    structs = few_structs;
    globals = let before = h.globals in let here = length-append k.starts (x ∷ []) in let there = ap (λ (gs : List GlobalStart). length gs) more in omega (arith, before, here, there);
    mutexes = same ∙ h.mutexes;
    functions = as_many_functions;
    few_globals = room;
    few_mutexes = h.few_mutexes;
    few_functions = h.few_functions;
    outside = keep.locals ∙ h.outside;
  }

each_counts : {X : Type 0} {Is : X → Type 0} {Room : Totals → Type 0} {and_one : Totals → Totals} (step : Known → X → Known) → ((n : Totals) (k : Known) (x : X) → Room n → Counts n k → Counts (and_one n) (step k x)) → {n m : Totals} {xs : List X}
    → Each Is Room and_one n xs m → (k : Known) → Counts n k → Counts m (with_each step k xs)
each_counts step one tree.none k h = h
each_counts step one (tree.one {n = n} {x = x} room is more) k h = each_counts step one more (step k x) (one n k x room h)

globals_count : (n m : Totals) (a : GlobalsOf) → AreGlobals text_words n a m → (k : Known) → Counts n k → Counts m (with_globals k a)
globals_count n m (globals.Mutexes ds) are k h = each_counts with_mutex (λ n k d room h. mutex_counts n k (with_mutex k d) h (mutex_keeps k d) room refl refl) are.1 k h
globals_count n m (globals.Threads ds) are k h = each_counts with_thread (λ n k d room h. global_counts n k (with_thread k d) h (global_keeps k d.name _ _ _ _) room refl _ refl) are.1 k h
globals_count n m (globals.Variables b ds) are k h =
    let all = each_counts (with_variable b) (λ n k d room h. global_counts n k (with_variable b k d) h (global_keeps k d.name _ _ _ _) room refl _ refl) are.2 k h in
    record { structs = all.structs; globals = all.globals; mutexes = all.mutexes; functions = all.functions; few_globals = all.few_globals; few_mutexes = all.few_mutexes; few_functions = all.few_functions; outside = all.outside }

-- ---- structs

tag_kept : (s : Scope) (x : StructOf) (b : Bool) → (length (if b then s else with_structs s (s.structs ++ x ∷ [])).structs ≤ suc (length s.structs)) × ((if b then s else with_structs s (s.structs ++ x ∷ [])).locals ≡ s.locals)
tag_kept s x true = (omega arith, refl)
tag_kept s x false = (let here = length-append s.structs (x ∷ []) in omega (arith, here), refl)

struct_counts : (n : Totals) (a : Struct) → (k : Known) → Counts n k → Counts (one_more_struct n) (with_struct k a)
struct_counts n a k h =
    let kept = tag_kept k.context.scope _ (is_tag k.context.scope a.name.text) in
    record {
      structs = let few = h.structs in let one = kept.0 in omega (arith, few, one);
      globals = h.globals;
      mutexes = h.mutexes;
      functions = h.functions;
      few_globals = h.few_globals;
      few_mutexes = h.few_mutexes;
      few_functions = h.few_functions;
      outside = kept.1 ∙ h.outside;
    }

-- ---- functions

declaration_kept : (c : Context) (n : List ℕ) (b : Bool) (g : Signature) (m : Option Meaning) → ((with_declaration c n b g m).scope.structs ≡ c.scope.structs) × ((with_declaration c n b g m).scope.locals ≡ c.scope.locals)
declaration_kept c n b g (Some (means.Function i)) = (refl, refl)
declaration_kept c n b g (Some (means.Mutex i)) = name_kept c.scope n _
declaration_kept c n b g (Some (means.Global i t)) = name_kept c.scope n _
declaration_kept c n b g (Some (means.Array i t)) = name_kept c.scope n _
declaration_kept c n b g (Some (means.Local i t)) = name_kept c.scope n _
declaration_kept c n b g None = name_kept c.scope n _

function_counts : (n m : Totals) (f : Function) (k : Known) (b : Option Body) → IsBody text_words n b m → (x : Told) → Counts n k
    → (length (k.functions ++ functions_of (length k.functions) (length f.parameters) x b) ≡ m.functions) × (m.functions ≤ 256) × (m.structs ≡ n.structs) × (m.globals ≡ n.globals) × (m.mutexes ≡ n.mutexes)
function_counts n m f k None no_body x h = (ap (λ (fs : List TypedFunction). length fs) (append-nil k.functions) ∙ h.functions, h.few_functions, refl, refl, refl)
function_counts n m f k (Some b) (a_body room s last) x h = (let before = h.functions in let one = length-append k.functions (functions_of (length k.functions) (length f.parameters) x (Some b)) in omega (arith, before, one), room, refl, refl, refl)

and_function : (n m : Totals) (f : Function) (k : Known) → IsBody text_words n f.body m → Counts n k → Counts m (with_function k f)
and_function n m f k is h =
    let c : Context = with_signature k.context f in
    let all = function_counts n m f k f.body is (told_in c f) h in
    let kept = declaration_kept k.context f.name.text (is_some f.body) (signature k.context.scope f) (find f.name.text k.context.scope.globals) in
    record {
      structs = subst (λ (xs : List StructOf). length xs ≤ m.structs) (sym kept.0) (let few = h.structs in let same = all.2 in omega (arith, few, same));
      globals = let before = h.globals in let same = all.3 in omega (arith, before, same);
      mutexes = let before = h.mutexes in let same = all.4 in omega (arith, before, same);
      functions = all.0;
      few_globals = let few = h.few_globals in let same = all.3 in omega (arith, few, same);
      few_mutexes = let few = h.few_mutexes in let same = all.4 in omega (arith, few, same);
      few_functions = all.1;
      outside = kept.1 ∙ h.outside;
    }

pub top_counts : (n m : Totals) (a : Top) → IsTop text_words n a m → (k : Known) → Counts n k → Counts m (with_top k a)
top_counts n m (top.Struct a) (a_struct room is) k h = struct_counts n a k h
top_counts n m (top.Globals a) (some_globals are) k h = globals_count n m a are k h
top_counts n m (top.Function f) (a_function is) k h = and_function n m f k is.is_body h
