-- The act of a simple statement in which nothing is wrong keeps within bounds.
use Rattle.std.proofs.Common.{◌≡◌, ◌≤◌, ◌<◌, ℕ, suc, Bool, true, false, not, List, [], ◌∷◌, ◌++◌, length, Option, Some, None, arith, refl, sym, ap, subst}
use Rattle.std.specs.Prelude.{pos, ◌==◌, slice_get, All, IfSome, if◌then◌else◌}
use Rattle.std.specs.Option.{is_some}
use Rattle.std.specs.Str.{bytes_eq}
use Rattle.std.proofs.lemmas.Bool.{and_parts, eqb-true}
use Rattle.std.proofs.lemmas.List.Elements.{All-nil, All-cons, All-head, All-tail}
use Rattle.ca_tree.specs.declared.text.Pos.{Pos}
use Rattle.ca_tree.specs.declared.numbers.VarId.{VarId}
use Rattle.ca_tree.specs.declared.tree.Name.{Name}
use Rattle.ca_tree.specs.declared.tree.Exp.{Exp}
use Rattle.ca_tree.specs.declared.tree.Call.{Call}
use Rattle.ca_tree.specs.declared.tree.Right.{Right}
use Rattle.ca_tree.specs.declared.tree.Right.TheVariants as right
use Rattle.ca_tree.specs.declared.tree.Library.{Library}
use Rattle.ca_tree.specs.declared.tree.Library.TheVariants as library
use Rattle.ca_tree.specs.declared.tree.Simple.{Simple}
use Rattle.ca_tree.specs.declared.tree.Simple.TheVariants as simple
use Rattle.ca_tree.specs.TreeWords.{Words}
use Rattle.ca_tree.specs.ExpressionTrees.{depth, IsWhole}
use Rattle.ca_tree.specs.PhraseTrees.{IsCall, IsRight, IsLibrary, IsSimple}
use Rattle.ca_model.specs.declared.tree.Target.{Target}
use Rattle.ca_model.specs.declared.tree.Target.TheVariants as target
use Rattle.ca_model.specs.declared.types.TypeFault.{TypeFault}
use Rattle.ca_model.specs.declared.types.ObjectType.{ObjectType}
use Rattle.ca_model.specs.declared.types.Operand.{Operand}
use Rattle.ca_model.specs.declared.types.Operand.TheVariants as operand
use Rattle.ca_model.specs.declared.types.Meaning.{Meaning}
use Rattle.ca_model.specs.declared.types.Meaning.TheVariants as means
use Rattle.ca_model.specs.Codes.{Typed}
use Rattle.ca_model.specs.Bounds.{takes}
use Rattle.ca_model.specs.typing.Faults.{if_none, unless, given}
use Rattle.ca_model.specs.typing.Types.{held}
use Rattle.ca_model.specs.typing.Values.{also}
use Rattle.ca_model.specs.typing.Scopes.{Signature, FunctionOf, Context, meaning, function_id}
use Rattle.ca_model.specs.typing.Expressions.{judged, no_place}
use Rattle.ca_model.specs.typing.Uses.{value_in, values_in, argument_faults}
use Rattle.ca_model.specs.typing.Targets.{Aim, target_of, aim_of, aim, aim_faults, target_at, local_at}
use Rattle.ca_model.specs.typing.Calls.{main_name, signature_of, takes_result, is_callable, known_call_faults, call_faults, call_act}
use Rattle.ca_model.specs.typing.RightSides.{count_or_one, right_faults, set_act}
use Rattle.ca_model.specs.typing.LibraryCalls.{mutex_of, or_first, is_thread, thread_local, var_or_first, is_void_pointer, only_void_pointer, is_thread_function, library_faults, library_act}
use Rattle.ca_model.specs.typing.SimpleStatements.{simple_faults, simple_act}
use Rattle.ca_model.proofs.MissingAnswers.{also_if, also_each}
use Rattle.ca_model.proofs.ExpressionBounds.{fits_num, local_below}
use Rattle.ca_model.proofs.OperandBounds.{FitsOperand}
use Rattle.ca_model.proofs.ExpressionsFit.{operand_fits, value_in_fits}
use Rattle.ca_model.proofs.NoFaults.{held_by_none}
use Rattle.ca_model.proofs.EmptyFaults.{none_in, place_there}
use Rattle.ca_model.proofs.ExpressionsThere.{operand_there}
use Rattle.ca_model.proofs.ActBounds.{GoodExp, GoodLocal, GoodTarget, GoodAct}
use Rattle.ca_model.proofs.Surroundings.{Takes_arguments, Means, Surrounds, sees, knows_types}

one_parameter : (ts : List (Option ObjectType)) → only_void_pointer ts ≡ true → length ts ≡ 1
one_parameter [] h = absurd cc
one_parameter (u ∷ []) h = refl
one_parameter (u ∷ v ∷ ts) h = absurd cc

thread_parameter : (g : Signature) → is_thread_function (Some g) ≡ true → length g.parameters ≡ 1
thread_parameter g h = one_parameter g.parameters (and_parts (is_void_pointer g.result) (only_void_pointer g.parameters) h).1

callable_parameters : (a : Option Aim) (x : List ℕ) (count : ℕ) (g : Signature) → is_callable a x count (Some g) ≡ true → count ≡ length g.parameters
callable_parameters a x count g h =
    let called = and_parts (not (bytes_eq x main_name)) _ h in
    eqb-true count (length g.parameters) (and_parts (count == length g.parameters) (takes_result a g) called.1).0

module _ (t : Typed) (n : ℕ) (words : Words) (k : Context) (here : Surrounds t n k) where
  -- ---- values and targets

  pub good_value : (a : Exp) → IsWhole words a → GoodExp t n (value_in k.scope a)
  good_value a h = value_in_fits n (length t.globals) k.scope (sees t n k here) 64 a (omega arith) h.shallow

  good_values : (xs : List Exp) → All (IsWhole words) xs → All (GoodExp t n) (values_in k.scope xs)
  good_values [] h = All-nil (GoodExp t n)
  good_values (a ∷ xs) h =
      All-cons (GoodExp t n) (value_in k.scope a) (values_in k.scope xs) (good_value a (All-head (IsWhole words) a xs h)) (good_values xs (All-tail (IsWhole words) a xs h))

  as_many : (xs : List Exp) → length (values_in k.scope xs) ≡ length xs
  as_many [] = refl
  as_many (a ∷ xs) = ap suc (as_many xs)

  abbrev Aims : ObjectType × Target → Type 0
  Aims z = GoodTarget t n z.1

  target_fits : (d : ℕ) (x : Operand) → d ≤ 64 → FitsOperand n (length t.globals) d x → IfSome (target_of x) Aims
  target_fits d (operand.Value u a) le h = tt
  target_fits d (operand.Local u x) le h = local_below n (length t.globals) d x h
  target_fits d (operand.Place u p) le h = also_each Aims (held u) _ (λ v. record { locals = h.locals; globals = h.globals; deep = let i = h.deep in omega arith })
  target_fits d operand.Name le h = tt

  aim_good : (o : Option (ObjectType × Target)) → is_some o ≡ true → IfSome o Aims → GoodTarget t n (target_at (aim_of o).at)
  aim_good None there h = absurd cc
  aim_good (Some x) there h = h

  good_aim : (a : Exp) → IsWhole words a → aim_faults k.scope a ≡ [] → GoodTarget t n (target_at (aim k.scope a).at)
  good_aim a h none =
      let parts = none_in (judged k.scope a).faults (no_place (judged k.scope a) target_of) none in
      aim_good (also (judged k.scope a).is target_of) (place_there (judged k.scope a) target_of parts.1 (operand_there k.scope (knows_types t n k here) a parts.0))
      (also_if (FitsOperand n (length t.globals) (depth a)) Aims (judged k.scope a).is target_of (operand_fits n (length t.globals) k.scope (sees t n k here) a) (λ x i. target_fits (depth a) x h.shallow i))

  local_good : (o : Option Target) → GoodTarget t n (target_at o) → IfSome (local_at o) (GoodLocal t n)
  local_good None h = tt
  local_good (Some (target.Local x)) h = h
  local_good (Some (target.Place p)) h = tt

  -- ---- calls

  abbrev TakesSo : List ℕ → ℕ → Type 0
  TakesSo x count = takes (slice_get t.functions (function_id k x).0) count ≡ true

  abbrev MeansHere : List ℕ → Meaning → Type 0
  MeansHere x w = Means t n k.functions k.defined x w

  function_takes : (a : Option Aim) (c : Call) (o : Option FunctionOf) → IfSome o (Takes_arguments t k.defined c.name.text) → known_call_faults a c (also o (λ f. Some f.first)) ≡ [] → TakesSo c.name.text (length c.arguments)
  function_takes a c None h none = absurd cc
  function_takes a c (Some f) h none =
      subst (TakesSo c.name.text) (sym (callable_parameters a c.name.text (length c.arguments) f.first (held_by_none (is_callable a c.name.text (length c.arguments) (Some f.first)) _ none))) h

  meaning_takes : (a : Option Aim) (c : Call) (w : Option Meaning) (x : TypeFault) → IfSome w (MeansHere c.name.text) → if_none x w ≡ [] → given w (λ m. known_call_faults a c (signature_of k (Some m))) ≡ [] → TakesSo c.name.text (length c.arguments)
  meaning_takes a c None x h known none = absurd cc
  meaning_takes a c (Some (means.Mutex m)) x h known none = absurd cc
  meaning_takes a c (Some (means.Global g u)) x h known none = absurd cc
  meaning_takes a c (Some (means.Array g u)) x h known none = absurd cc
  meaning_takes a c (Some (means.Function i)) x h known none = function_takes a c (slice_get k.functions i) h none
  meaning_takes a c (Some (means.Local y u)) x h known none = absurd cc

  good_call : (a : Option Aim) (x : Option VarId) (c : Call) → IsCall words c → IfSome x (GoodLocal t n) → call_faults k a c ≡ [] → GoodAct t n (call_act k x c)
  good_call a x c h good none =
      let parts = none_in (argument_faults k.scope _ c.arguments ++ if_none _ (meaning k.scope c.name.text)) _ none in
      let known = none_in (argument_faults k.scope _ c.arguments) _ parts.0 in
      (good, subst (TakesSo c.name.text) (sym (as_many c.arguments)) (meaning_takes a c (meaning k.scope c.name.text) _ (here.names c.name.text) known.1 parts.1), good_values c.arguments h.arguments)

  -- ---- right sides

  good_count : (a : Option Exp) → IfSome a (IsWhole words) → GoodExp t n (count_or_one k.scope a)
  good_count None h = fits_num n (length t.globals) 64 (pos 1) (omega arith)
  good_count (Some a) h = good_value a h

  pub good_right : (a : Aim) (r : Right) → IsRight words r → GoodTarget t n (target_at a.at) → right_faults k a r ≡ [] → GoodAct t n (set_act k a r)
  good_right a (right.Value b) h good none = (good, good_value b h)
  good_right a (right.Call c) h good none = good_call (Some a) (local_at a.at) c h (local_good a.at good) none
  good_right a (right.Malloc m) h good none = (good, good_count m.count h.count)

  -- ---- calls of the library

  mutex_good : (x : List ℕ) (w : Option Meaning) (p q : TypeFault) → IfSome w (MeansHere x) → if_none p w ++ given w (λ m. if_none q (mutex_of (Some m))) ≡ [] → (or_first (mutex_of w)).0 < t.mutexes
  mutex_good x None p q h none = absurd cc
  mutex_good x (Some (means.Mutex m)) p q h none = h
  mutex_good x (Some (means.Global g u)) p q h none = absurd cc
  mutex_good x (Some (means.Array g u)) p q h none = absurd cc
  mutex_good x (Some (means.Function i)) p q h none = absurd cc
  mutex_good x (Some (means.Local y u)) p q h none = absurd cc

  thread_by : (b : Bool) (y : VarId) (q : TypeFault) → y.0 < n → if_none q (if b then Some y else None) ≡ [] → GoodLocal t n (var_or_first (if b then Some y else None))
  thread_by true y q h none = h
  thread_by false y q h none = absurd cc

  thread_good : (x : List ℕ) (w : Option Meaning) (p q : TypeFault) → IfSome w (MeansHere x) → if_none p w ≡ [] → given w (λ m. if_none q (thread_local (Some m))) ≡ [] → GoodLocal t n (var_or_first (thread_local w))
  thread_good x None p q h known none = absurd cc
  thread_good x (Some (means.Mutex m)) p q h known none = absurd cc
  thread_good x (Some (means.Global g u)) p q h known none = absurd cc
  thread_good x (Some (means.Array g u)) p q h known none = absurd cc
  thread_good x (Some (means.Function i)) p q h known none = absurd cc
  thread_good x (Some (means.Local y u)) p q h known none = thread_by (is_thread u) y q h.0 none

  thread_takes : (x : List ℕ) (o : Option FunctionOf) (q : TypeFault) → IfSome o (Takes_arguments t k.defined x) → unless (is_thread_function (also o (λ f. Some f.first))) q ≡ [] → TakesSo x 1
  thread_takes x None q h none = absurd cc
  thread_takes x (Some f) q h none = subst (TakesSo x) (thread_parameter f.first (held_by_none (is_thread_function (Some f.first)) q none)) h

  created_takes : (x : List ℕ) (w : Option Meaning) (p q : TypeFault) → IfSome w (MeansHere x) → if_none p w ≡ [] → given w (λ m. unless (is_thread_function (signature_of k (Some m))) q) ≡ [] → TakesSo x 1
  created_takes x None p q h known none = absurd cc
  created_takes x (Some (means.Mutex m)) p q h known none = absurd cc
  created_takes x (Some (means.Global g u)) p q h known none = absurd cc
  created_takes x (Some (means.Array g u)) p q h known none = absurd cc
  created_takes x (Some (means.Function i)) p q h known none = thread_takes x (slice_get k.functions i) q h none
  created_takes x (Some (means.Local y u)) p q h known none = absurd cc

  good_create : (p : Pos) (x f : Name) (a : Exp) → IsWhole words a → library_faults k p (library.Create x f a) ≡ [] → GoodAct t n (library_act k (library.Create x f a))
  good_create p x f a h none =
      let five = none_in (if_none _ (meaning k.scope x.text) ++ given (meaning k.scope x.text) _ ++ if_none _ (meaning k.scope f.text) ++ given (meaning k.scope f.text) _) _ none in
      let four = none_in (if_none _ (meaning k.scope x.text) ++ given (meaning k.scope x.text) _ ++ if_none _ (meaning k.scope f.text)) _ five.0 in
      let three = none_in (if_none _ (meaning k.scope x.text) ++ given (meaning k.scope x.text) _) _ four.0 in
      let two = none_in (if_none _ (meaning k.scope x.text)) _ three.0 in
      (thread_good x.text (meaning k.scope x.text) _ _ (here.names x.text) two.0 two.1, created_takes f.text (meaning k.scope f.text) _ _ (here.names f.text) three.1 four.1, good_value a h)

  good_library : (p : Pos) (c : Library) → IsLibrary words c → library_faults k p c ≡ [] → GoodAct t n (library_act k c)
  good_library p (library.Lock x) h none = mutex_good x.text (meaning k.scope x.text) _ _ (here.names x.text) none
  good_library p (library.Unlock x) h none = mutex_good x.text (meaning k.scope x.text) _ _ (here.names x.text) none
  good_library p (library.Create x f a) h none = good_create p x f a h.2 none
  good_library p (library.Join a) h none = good_value a h
  good_library p (library.Free a) h none = good_value a h
  good_library p (library.Assert a) h none = good_value a h
  good_library p (library.Print q u more) h none = (h.1, subst (λ i. i ≤ 8) (sym (as_many more)) h.2, good_values more h.3)

  -- ---- simple statements

  pub good_simple : (p : Pos) (a : Simple) → IsSimple words a → simple_faults k p a ≡ [] → GoodAct t n (simple_act k a)
  good_simple p (simple.Set a r) h none =
      let parts = none_in (aim_faults k.scope a) _ none in
      good_right (aim k.scope a) r h.1 (good_aim a h.0 parts.0) parts.1
  good_simple p (simple.Update a o b) h none =
      let parts = none_in (aim_faults k.scope a ++ (judged k.scope b).faults) _ none in
      (good_aim a h.0 (none_in (aim_faults k.scope a) _ parts.0).0, good_value b h.1)
  good_simple p (simple.Call c) h none = good_call None None c h tt none
  good_simple p (simple.Library c) h none = good_library p c h none
