-- What names mean in a typed program: each act names what is there, and keeps within bounds; each global opens with a number.
use Rattle.std.proofs.Common.{◌≡◌, ℕ, true, List, [], ◌∷◌, length, Option, Some, arith, refl, sym, ◌∙◌, ap, subst, inl, inr}
use Rattle.std.specs.Prelude.{slice_get, Contains, All}
use Rattle.std.specs.List.{AllByRecursion, list_any}
use Rattle.std.specs.Str.{bytes_eq}
use Rattle.std.proofs.lemmas.List.Elements.{All-nil, All-append, All-contains, Contains-append_cases}
use Rattle.ca_tree.specs.declared.tree.Top.{Top}
use Rattle.ca_tree.specs.declared.tree.Top.TheVariants as top
use Rattle.ca_tree.specs.declared.tree.Program.{Program}
use Rattle.ca_tree.specs.Counts.{Totals}
use Rattle.ca_tree.specs.TreeWords.{Words}
use Rattle.ca_tree.specs.ProgramTrees.{IsTop, AreTops, IsProgramOf}
use Rattle.ca_tree.specs.ProgramTrees as tree
use Rattle.ca_model.specs.declared.tree.Item.{Item}
use Rattle.ca_model.specs.declared.tree.Function.{Function as TypedFunction}
use Rattle.ca_model.specs.declared.tree.GlobalStart.{GlobalStart}
use Rattle.ca_model.specs.declared.types.Meaning.{Meaning}
use Rattle.ca_model.specs.declared.types.Meaning.TheVariants as means
use Rattle.ca_model.specs.Codes.{Typed}
use Rattle.ca_model.specs.Sites.{items_of, all_items}
use Rattle.ca_model.specs.WellFormed.{knows}
use Rattle.ca_model.specs.KnownGlobals.{act_within, KnowsItsGlobals}
use Rattle.ca_model.specs.Bounds.{takes, IsWithin}
use Rattle.ca_model.specs.typing.Scopes.{Signature, FunctionOf, find, defined_as}
use Rattle.ca_model.specs.typing.Signatures.{result_type}
use Rattle.ca_model.specs.typing.Functions.{begun, functions_of, told_in, with_function}
use Rattle.ca_model.specs.typing.Known.{Known, with_each}
use Rattle.ca_model.specs.typing.Structs.{with_struct}
use Rattle.ca_model.specs.typing.Globals.{with_globals}
use Rattle.ca_model.specs.typing.Programs.{with_top, definitions, at_start, known}
use Rattle.ca_model.specs.typing.Typing.{typed_by, IsTyping}
use Rattle.ca_model.proofs.MissingAnswers.{if_so, so_if}
use Rattle.ca_model.proofs.Members.{in_none, at_head, at_tail}
use Rattle.ca_model.proofs.ActBounds.{knows_good, within_good, bounds_good}
use Rattle.ca_model.proofs.Surroundings.{Takes_arguments, Means}
use Rattle.ca_model.proofs.LocalsFit.{GoodItem}
use Rattle.ca_model.proofs.FunctionsFit.{Knows, GoodFunction, function_tells, functions_good}
use Rattle.ca_model.proofs.TypedFields.{field_typed}
use Rattle.ca_model.proofs.KnownSoFar.{Grows, Declared, OpensWithNumber, Sound, Goes, each_keeps_faults}
use Rattle.ca_model.proofs.GlobalsKnown.{inside_some, struct_goes, globals_go}
use Rattle.ca_model.proofs.SignaturesKnown.{declares}
use Rattle.ca_model.proofs.DeclarationsKnown.{clean, Belongs, function_goes, top_keeps, all_go, RightFor, definitions_right}
use Rattle.ca_model.proofs.DefinitionsFound.{names, belong, globals_add_none, typed_counts, counts, counts_follow, FoundAt, found, takes_at}

-- ---- what names mean at the end

abbrev MeansAtEnd : Typed → Known → Type 0
MeansAtEnd t k = (x : List ℕ) (w : Meaning) → find x k.context.scope.globals ≡ Some w → Means t 0 k.context.functions k.context.defined x w

abbrev number_of : Option Meaning → ℕ
number_of (Some (means.Function i)) = i
number_of o = 0

module _ (p : Program) (k : Known) (sound : Sound (names (definitions p.tops)) k) (right : AllByRecursion (RightFor k) (definitions p.tops)) (typed : typed_counts k.functions ≡ counts (definitions p.tops)) where
  abbrev t : Typed
  t = typed_by p k

  function_takes : (x : List ℕ) (i : ℕ) → find x k.context.scope.globals ≡ Some (means.Function i) → list_any (λ m. bytes_eq x m) k.context.defined ≡ true → (f : FunctionOf) → slice_get k.context.functions i ≡ Some f
      → takes (slice_get k.functions (defined_as 0 x k.context.defined)) (length f.first.parameters) ≡ true
  function_takes x i means_it named f at =
      let d : FoundAt (RightFor k) x (definitions p.tops) 0 (defined_as 0 x (names (definitions p.tops))) =
      found (RightFor k) x (definitions p.tops) 0 right (subst (λ ns. list_any (λ m. bytes_eq x m) ns ≡ true) sound.all named) in
      let r = d.holds in
      let same : i ≡ r.0 = ap number_of (sym means_it ∙ (ap (λ y. find y k.context.scope.globals) d.named ∙ r.2)) in
      let one : f ≡ r.1 = inside_some f r.1 (sym at ∙ (ap (slice_get k.context.functions) same ∙ r.3)) in
      let long : length f.first.parameters ≡ length d.definition.parameters = ap (λ (g : FunctionOf). length g.first.parameters) one ∙ r.4 in
      let place : defined_as 0 x k.context.defined ≡ d.at = ap (defined_as 0 x) sound.all ∙ (d.is ∙ omega arith) in
      let count : slice_get (typed_counts k.functions) d.at ≡ Some (length d.definition.parameters) = ap (λ ns. slice_get ns d.at) typed ∙ d.count in
      subst (λ n. takes (slice_get k.functions (defined_as 0 x k.context.defined)) n ≡ true) (sym long)
      (subst (λ j. takes (slice_get k.functions j) (length d.definition.parameters) ≡ true) (sym place) (takes_at k.functions d.at (length d.definition.parameters) count))

  means_it : (x : List ℕ) (w : Meaning) → find x k.context.scope.globals ≡ Some w → Declared k x w → Means t 0 k.context.functions k.context.defined x w
  means_it x (means.Mutex m) at h = h
  means_it x (means.Global g u) at h = h
  means_it x (means.Array g u) at h = h
  means_it x (means.Function i) at h = if_so (Takes_arguments t k.context.defined x) (slice_get k.context.functions i) (λ f is. function_takes x i at h.0 f is)
  means_it x (means.Local y u) at h = absurd h

  means_at_end : MeansAtEnd t k
  means_at_end x w at = means_it x w at (sound.names x w at)

-- ---- what a function sees is so at the end

module _ (t : Typed) (words : Words) (all : List (List ℕ)) where
  means_back : (l k : Known) → Grows l k → (x : List ℕ) (w : Meaning) → Means t 0 k.context.functions k.context.defined x w → Means t 0 l.context.functions l.context.defined x w
  means_back l k g x (means.Mutex m) h = h
  means_back l k g x (means.Global i u) h = h
  means_back l k g x (means.Array i u) h = h
  means_back l k g x (means.Function i) h = if_so (Takes_arguments t l.context.defined x) (slice_get l.context.functions i) (λ f at.
      let on = g.functions i f at in
      let takes_so : Takes_arguments t k.context.defined x on.0 = so_if (Takes_arguments t k.context.defined x) (slice_get k.context.functions i) on.0 on.1 h in
      subst (λ ds. Takes_arguments t ds x f) g.defined (subst (λ (s : Signature). takes (slice_get t.functions (defined_as 0 x k.context.defined)) (length s.parameters) ≡ true) on.2 takes_so))
  means_back l k g x (means.Local y u) h = h

  knows_here : (l k : Known) → Grows l k → Sound all l → MeansAtEnd t k → Knows t l.context
  knows_here l k g s end = record {
    globals = λ x. if_so (Means t 0 l.context.functions l.context.defined x) (find x l.context.scope.globals) (λ w at. means_back l k g x w (end x w (g.names x w at)));
    fields = λ i x. field_typed l.context.scope i x s.fields;
  }

  -- the functions of each declaration keep within bounds
  functions_fit : {n m : Totals} (xs : List Top) → AreTops words n xs m → AllByRecursion (Belongs all) xs → (k : Known) → Sound all k → (with_each with_top k xs).faults ≡ [] → MeansAtEnd t (with_each with_top k xs)
      → All (GoodFunction t) k.functions → All (GoodFunction t) (with_each with_top k xs).functions
  functions_fit [] tree.no_top ok k s none end good = good
  functions_fit (top.Struct a ∷ xs) (tree.one_top is more) ok k s none end good =
      let here = each_keeps_faults with_top top_keeps xs (with_struct k a) none in
      functions_fit xs more ok.1 (with_struct k a) ((struct_goes all k a here).sound s) none end good
  functions_fit (top.Globals a ∷ xs) (tree.one_top is more) ok k s none end good =
      let here = each_keeps_faults with_top top_keeps xs (with_globals k a) none in
      functions_fit xs more ok.1 (with_globals k a) ((globals_go all k a here).sound s) none end (subst (All (GoodFunction t)) (sym (globals_add_none k a)) good)
  functions_fit (top.Function f ∷ xs) (tree.one_top (tree.a_function is) more) ok k s none end good =
      let l : Known = with_function k f in
      let here = each_keeps_faults with_top top_keeps xs l none in
      let c = clean k f here in
      let goes : Goes all k l = function_goes all k f ok.0 here in
      let well = function_tells t k.context.scope l.context f is.is_body (knows_here l (with_each with_top l xs) (all_go all xs ok.1 l none).grows (goes.sound s) end) (declares k.context f c.new).structs c.parameters c.told in
      functions_fit xs more ok.1 l (goes.sound s) none end
      (All-append (GoodFunction t) k.functions (functions_of (length k.functions) (length f.parameters) (told_in l.context f) f.body) good
      (functions_good t (length k.functions) (length f.parameters) (begun l.context (result_type l.context.scope f.result)) (told_in l.context f) f.body well))

-- ---- programs

start_sound : (p : Program) → Sound (names (definitions p.tops)) (at_start p)
start_sound p = record { names = λ x w at. absurd (no_name x w at); functions = λ i f at. absurd (no_function i f at); fields = tt; starts = λ g at. absurd (in_none g at); all = refl }
  where
    no_name : (x : List ℕ) (w : Meaning) → find x [] ≡ Some w → ⊥
    no_name x w at = cc

    no_function : (i : ℕ) (f : FunctionOf) → slice_get [] i ≡ Some f → ⊥
    no_function i f at = cc

module _ (words : Words) (p : Program) (is : IsProgramOf words p) (none : (known p).faults ≡ []) where
  abbrev all : List (List ℕ)
  all = names (definitions p.tops)

  belongs : AllByRecursion (Belongs all) p.tops
  belongs = belong p.tops all (λ x h. h)

  sound_end : Sound all (known p)
  sound_end = (all_go all p.tops belongs (at_start p) none).sound (start_sound p)

  end : MeansAtEnd (typed_by p (known p)) (known p)
  end = means_at_end p (known p) sound_end (definitions_right all p.tops belongs (at_start p) (start_sound p) none) (counts_follow p.tops (at_start p))

  all_fit : All (GoodFunction (typed_by p (known p))) (known p).functions
  all_fit = functions_fit (typed_by p (known p)) words all p.tops is.1 belongs (at_start p) (start_sound p) none end (All-nil (GoodFunction (typed_by p (known p))))

-- in a typed program within the limits each item keeps within bounds
pub all_good : (words : Words) (p : Program) (t : Typed) → IsProgramOf words p → IsTyping p t → All (GoodFunction t) t.functions
all_good words p t is typing = subst (λ u. All (GoodFunction u) u.functions) (sym typing.is) (all_fit words p is typing.sound)

module _ (words : Words) (p : Program) (t : Typed) (is : IsProgramOf words p) (typing : IsTyping p t) where
  item_good : (f : TypedFunction) (i : Item) → Contains t.functions f → Contains (items_of f) i → GoodItem t f.locals i
  item_good f i at here = All-contains (GoodItem t f.locals) (items_of f) i (All-contains (GoodFunction t) t.functions f (all_good words p t is typing) at) here

  -- the functions and mutexes that an item names are there
  pub names_known : (f : TypedFunction) (i : Item) → Contains t.functions f → Contains (items_of f) i → knows t i.act ≡ true
  names_known f i at here = knows_good t f.locals i.act (item_good f i at here)

  -- and so are the globals
  pub globals_known : (f : TypedFunction) (i : Item) → Contains t.functions f → Contains (items_of f) i → act_within (length t.globals) i.act ≡ true
  globals_known f i at here = within_good t f.locals i.act (item_good f i at here)

  -- its locals, its expressions and its arguments keep within bounds
  pub acts_bounded : (f : TypedFunction) (i : Item) → Contains t.functions f → Contains (items_of f) i → IsWithin t f i.act
  acts_bounded f i at here = bounds_good t f i.act (item_good f i at here)

  -- each global opens with a number
  pub globals_open : (g : GlobalStart) → Contains t.globals g → OpensWithNumber g
  globals_open = subst (λ (u : Typed). (g : GlobalStart) → Contains u.globals g → OpensWithNumber g) (sym typing.is) (sound_end words p is typing.sound).starts

  some_function : (fs : List TypedFunction) (i : Item) → Contains (all_items fs) i → (f : TypedFunction) × Contains fs f × Contains (items_of f) i
  some_function [] i at = absurd (in_none i at)
  some_function (f ∷ fs) i at = elim (Contains-append_cases (items_of f) (all_items fs) i at) [
    | inl here ↦ (f, at_head f fs, here)
    | inr later ↦ let g = some_function fs i later in (g.0, at_tail f fs g.0 g.1, g.2)
  ]

  pub knows_its_globals : KnowsItsGlobals t
  knows_its_globals = record { names = λ i at. let f = some_function t.functions i at in globals_known f.0 i f.1 f.2; starts = globals_open }
