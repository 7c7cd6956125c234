-- The act of a simple statement in which nothing is wrong has the sites that the text shows for it.
use Rattle.std.proofs.Common.{◌≡◌, ℕ, zero, suc, Bool, true, false, not, List, [], ◌∷◌, ◌++◌, map, length, Option, Some, None, arith, refl, sym, ap, ◌∙◌, subst, append-nil}
use Rattle.std.specs.Prelude.{pos, ◌==◌, slice_get, IfSome, if◌then◌else◌}
use Rattle.std.specs.Option.{is_some}
use Rattle.std.specs.Str.{bytes_eq}
use Rattle.std.proofs.lemmas.Bool.{and_parts, eqb-true}
use Rattle.std.proofs.lemmas.List.{map-append}
use Rattle.ca_tree.specs.declared.numbers.ItemId.{ItemId}
use Rattle.ca_tree.specs.declared.text.Pos.{Pos}
use Rattle.ca_tree.specs.declared.tree.Exp.{Exp}
use Rattle.ca_tree.specs.declared.tree.ItemAt.{ItemAt}
use Rattle.ca_tree.specs.declared.tree.Call.{Call}
use Rattle.ca_tree.specs.declared.tree.Right.{Right}
use Rattle.ca_tree.specs.declared.tree.Right.TheVariants as right
use Rattle.ca_tree.specs.declared.tree.Library.{Library}
use Rattle.ca_tree.specs.declared.tree.Library.TheVariants as library
use Rattle.ca_tree.specs.declared.tree.Simple.{Simple}
use Rattle.ca_tree.specs.declared.tree.Simple.TheVariants as simple
use Rattle.ca_model.specs.declared.tree.Exp.{Exp as TypedExp}
use Rattle.ca_model.specs.declared.tree.Target.{Target}
use Rattle.ca_model.specs.declared.tree.Target.TheVariants as target
use Rattle.ca_model.specs.declared.types.TypeFault.{TypeFault}
use Rattle.ca_model.specs.declared.types.ObjectType.{ObjectType}
use Rattle.ca_model.specs.declared.types.Operand.{Operand}
use Rattle.ca_model.specs.declared.types.Meaning.{Meaning}
use Rattle.ca_model.specs.declared.types.Meaning.TheVariants as means
use Rattle.ca_model.specs.declared.types.Wanted.{Wanted}
use Rattle.ca_model.specs.declared.types.Wanted.TheVariants.{Scalar, OfType}
use Rattle.ca_model.specs.Accesses.{Kind, A_load, A_store, Access, Allocates, loads, stores, kinds, accesses, accesses_to, accesses_of_all, aim_accesses, target_loads, target_stores, act_accesses}
use Rattle.ca_model.specs.typing.Faults.{if_none, unless, given}
use Rattle.ca_model.specs.typing.Types.{int, thread, void_pointer, same_object}
use Rattle.ca_model.specs.typing.Values.{Typed_value, also, value_of}
use Rattle.ca_model.specs.typing.Scopes.{Signature, FunctionOf, Scope, Context, meaning}
use Rattle.ca_model.specs.typing.Expressions.{judged, no_place}
use Rattle.ca_model.specs.typing.Uses.{value_is_wanted, value_or_zero, value_in, faults_in, values_in, argument_faults, each_faults}
use Rattle.ca_model.specs.typing.Targets.{Aim, target_of, aim_of, aim, aim_faults, target_at}
use Rattle.ca_model.specs.typing.TypeNames.{type_faults}
use Rattle.ca_model.specs.typing.Calls.{main_name, signature_of, parameters_of, takes_result, is_local, is_callable, is_no_void, result_goes_into, known_call_faults, call_faults}
use Rattle.ca_model.specs.typing.RightSides.{count_or_one, right_faults, set_act}
use Rattle.ca_model.specs.typing.LibraryCalls.{library_faults, library_act}
use Rattle.ca_model.specs.typing.SimpleStatements.{update_allowed, simple_faults, simple_act}
use Rattle.ca_model.proofs.MissingAnswers.{also_if}
use Rattle.ca_model.proofs.NoFaults.{held_by_none}
use Rattle.ca_model.proofs.EmptyFaults.{none_in, place_there}
use Rattle.ca_model.proofs.Equations.{accesses_num}
use Rattle.ca_model.proofs.ExpressionsThere.{Knows_types, operand_there}
use Rattle.ca_sites.specs.declared.items.TextSite.{TextSite}
use Rattle.ca_sites.specs.declared.site.SiteKind.{SiteKind}
use Rattle.ca_sites.specs.TextSites.{Sought, accessed, sought, value_places, values_places, if_written, right_places, sites_at, library_sites, simple_sites}
use Rattle.ca_sites.specs.TextSites as text
use Rattle.ca_sites.specs.SiteLists.{kind_of, in_text}
use Rattle.ca_sites.specs.SiteLaws.{all_loads}
use Rattle.ca_sites.proofs.TypedLoads.{kinds_append, all_both}
use Rattle.ca_sites.proofs.LoadsPlaced.{AtPlace, Aimed, values_placed, aimed}

abbrev pub AllThere : List (Option ObjectType) → Type 0
AllThere [] = Unit {0}
AllThere (t ∷ ts) = (is_some t ≡ true) × AllThere ts

abbrev pub Signed : List FunctionOf → Type 0
Signed [] = Unit {0}
Signed (f ∷ fs) = AllThere f.first.parameters × Signed fs

-- no type of what is seen at a place was refused
pub record Sees (k : Context) : Type 0 where
  pub types : Knows_types k.scope
  pub signatures : Signed k.functions

-- ---- the sites of an item

-- the items and kinds of the sites among some accesses of an item
abbrev pub sites_among : ItemId → List Access → List (ItemId × SiteKind)
sites_among i xs = map (λ k. (i, kind_of k)) (kinds xs)

-- those of sites in the text
abbrev pub shown : List TextSite → List (ItemId × SiteKind)
shown ss = map in_text ss

-- the sites among the accesses are those that the text shows
abbrev pub Shows : ItemId → List Access → List TextSite → Type 0
Shows i xs ss = sites_among i xs ≡ shown ss

pub shown_both : (ss us : List TextSite) → shown (ss ++ us) ≡ shown ss ++ shown us
shown_both ss us = map-append in_text ss us

pub both_same : {A : Type 0} (xs ys us vs : List A) → xs ≡ us → ys ≡ vs → xs ++ ys ≡ us ++ vs
both_same xs ys us vs h i = ap (λ zs. zs ++ ys) h ∙ ap (λ zs. us ++ zs) i

both_show : (i : ItemId) (xs ys : List Access) (ss us : List TextSite) → Shows i xs ss → Shows i ys us → Shows i (xs ++ ys) (ss ++ us)
both_show i xs ys ss us h j =
    ap (map (λ k. (i, kind_of k))) (kinds_append xs ys) ∙ (map-append (λ k. (i, kind_of k)) (kinds xs) (kinds ys)
    ∙ (both_same (sites_among i xs) (sites_among i ys) (shown ss) (shown us) h j ∙ sym (shown_both ss us)))

three_show : (i : ItemId) (xs ys zs : List Access) (ss us vs : List TextSite) → Shows i xs ss → Shows i ys us → Shows i zs vs → Shows i (xs ++ (ys ++ zs)) (ss ++ (us ++ vs))
three_show i xs ys zs ss us vs h j l = both_show i xs (ys ++ zs) ss (us ++ vs) h (both_show i ys zs us vs j l)

-- where all are of one kind
of_kind : (i : ItemId) (k : Kind) (xs : List Access) (ps : List Pos) → kinds xs ≡ map (λ p. k) ps → Shows i xs (sites_at i (kind_of k) ps)
of_kind i k xs ps is = ap (map (λ j. (i, kind_of j))) is ∙ each ps
  where
    each : (ps : List Pos) → map (λ j. (i, kind_of j)) (map (λ p. k) ps) ≡ shown (sites_at i (kind_of k) ps)
    each [] = refl
    each (p ∷ ps) = ap (λ l. (i, kind_of k) ∷ l) (each ps)

pub loads_show : (i : ItemId) (xs : List Access) (ps : List Pos) → kinds xs ≡ all_loads ps → Shows i xs (text.loads i ps)
loads_show i xs ps is = of_kind i A_load xs ps is

abbrev all_stores : List Pos → List Kind
all_stores ps = map (λ p. A_store) ps

stores_show : (i : ItemId) (xs : List Access) (ps : List Pos) → kinds xs ≡ all_stores ps → Shows i xs (text.stores i ps)
stores_show i xs ps is = of_kind i A_store xs ps is

abbrev kinds_in : TypedExp → List Kind
kinds_in a = kinds (accesses a)

-- ---- values

-- something is asked of a value
abbrev pub Asked : Wanted → Type 0
Asked Scalar = Unit {0}
Asked (OfType None) = ⊥
Asked (OfType (Some t)) = Unit {0}

pub asked_of : (t : Option ObjectType) → is_some t ≡ true → Asked (OfType t)
asked_of None h = absurd cc
asked_of (Some t) h = tt

wanted_there : (w : Wanted) (v : Option Typed_value) → Asked w → value_is_wanted w v ≡ true → is_some v ≡ true
wanted_there w (Some v) ask h = refl
wanted_there Scalar None ask h = absurd cc
wanted_there (OfType None) None ask h = absurd ask
wanted_there (OfType (Some t)) None ask h = absurd cc

value_there : (w : Wanted) (o : Option Operand) (x : TypeFault) → Asked w → is_some o ≡ true → given o (λ a. unless (value_is_wanted w (value_of a)) x) ≡ [] → is_some (also o value_of) ≡ true
value_there w None x ask there none = absurd cc
value_there w (Some a) x ask there none = wanted_there w (value_of a) ask (held_by_none (value_is_wanted w (value_of a)) x none)

or_zero_loads : (o : Option Typed_value) (ks : List Kind) → is_some o ≡ true → ((v : Typed_value) → o ≡ Some v → kinds_in v.1 ≡ ks) → kinds_in (value_or_zero o) ≡ ks
or_zero_loads None ks there k = absurd cc
or_zero_loads (Some v) ks there k = k v refl

module _ (s : Scope) (types : Knows_types s) where
  loads_by : (a : Exp) → is_some (also (judged s a).is value_of) ≡ true → kinds_in (value_in s a) ≡ all_loads (value_places a)
  loads_by a there = or_zero_loads (also (judged s a).is value_of) (all_loads (value_places a)) there (λ v is. values_placed s a v is)

  pub value_loads : (w : Wanted) (a : Exp) → Asked w → faults_in s w a ≡ [] → kinds_in (value_in s a) ≡ all_loads (value_places a)
  value_loads w a ask none =
      let parts = none_in (judged s a).faults _ none in
      loads_by a (value_there w (judged s a).is _ ask (operand_there s types a parts.0) parts.1)

  both_load : (a : TypedExp) (as' : List TypedExp) (ps qs : List Pos) → kinds_in a ≡ all_loads ps → kinds (accesses_of_all as') ≡ all_loads qs → kinds (accesses_of_all (a ∷ as')) ≡ all_loads (ps ++ qs)
  both_load a as' ps qs h i = kinds_append (accesses a) (accesses_of_all as') ∙ (both_same (kinds_in a) (kinds (accesses_of_all as')) (all_loads ps) (all_loads qs) h i ∙ sym (all_both ps qs))

  arguments_load : (ts : List (Option ObjectType)) (xs : List Exp) → AllThere ts → length xs ≡ length ts → argument_faults s ts xs ≡ [] → kinds (accesses_of_all (values_in s xs)) ≡ all_loads (values_places xs)
  arguments_load ts [] there same none = refl
  arguments_load [] (a ∷ xs) there same none = absurd cc
  arguments_load (t ∷ ts) (a ∷ xs) there same none =
      let parts = none_in (faults_in s (OfType t) a) (argument_faults s ts xs) none in
      both_load (value_in s a) (values_in s xs) (value_places a) (values_places xs) (value_loads (OfType t) a (asked_of t there.0) parts.0) (arguments_load ts xs there.1 (let h = same in omega (arith, h)) parts.1)

  each_loads : (t : ObjectType) (xs : List Exp) → each_faults s t xs ≡ [] → kinds (accesses_of_all (values_in s xs)) ≡ all_loads (values_places xs)
  each_loads t [] none = refl
  each_loads t (a ∷ xs) none =
      let parts = none_in (faults_in s (OfType (Some t)) a) (each_faults s t xs) none in
      both_load (value_in s a) (values_in s xs) (value_places a) (values_places xs) (value_loads (OfType (Some t)) a tt parts.0) (each_loads t xs parts.1)

-- ---- targets

-- what is assigned to is found by loads at some places, and an access to it is a site at others; a local has none
pub record Aims (a : Aim) (within reached : List Pos) : Type 0 where
  pub typed : is_some a.of ≡ true
  pub finds : kinds (aim_accesses (target_at a.at)) ≡ all_loads within
  pub loaded : kinds (target_loads (target_at a.at)) ≡ all_loads reached
  pub stored : kinds (target_stores (target_at a.at)) ≡ all_stores reached
  pub local : is_local a.at ≡ true → (within ≡ []) × (reached ≡ [])

abbrev place_if : Pos → Bool → List Pos
place_if p b = if b then p ∷ [] else []

reached_by : (p : Pos) (b : Bool) → (kinds (loads b) ≡ all_loads (place_if p b)) × (kinds (stores b) ≡ all_stores (place_if p b))
reached_by p true = (refl, refl)
reached_by p false = (refl, refl)

accessed_by : (f : Sought) (b : Bool) → b ≡ f.through → (kinds (loads b) ≡ all_loads (accessed f)) × (kinds (stores b) ≡ all_stores (accessed f))
accessed_by f b is = subst (λ c. (kinds (loads b) ≡ all_loads (place_if f.pos c)) × (kinds (stores b) ≡ all_stores (place_if f.pos c))) is (reached_by f.pos b)

none_accessed : (f : Sought) → f.through ≡ false → accessed f ≡ []
none_accessed f is = ap (place_if f.pos) is

at_place : (f : Sought) (t : ObjectType) (x : Target) → AtPlace f x → Aims (aim_of (Some (t, x))) f.within (accessed f)
at_place f t (target.Local x) h = record {
  typed = refl;
  finds = sym (ap all_loads h.0);
  loaded = sym (ap all_loads (none_accessed f h.1));
  stored = sym (ap all_stores (none_accessed f h.1));
  local = λ is. (h.0, none_accessed f h.1);
}
at_place f t (target.Place p) h = record {
  typed = refl;
  finds = h.0;
  loaded = (accessed_by f (accesses_to p).0 h.1).0;
  stored = (accessed_by f (accesses_to p).0 h.1).1;
  local = λ is. absurd (never is);
}
  where
    never : false ≡ true → ⊥
    never h = cc

aims_at : (f : Sought) (o : Option (ObjectType × Target)) → is_some o ≡ true → IfSome o (Aimed f) → Aims (aim_of o) f.within (accessed f)
aims_at f None there h = absurd cc
aims_at f (Some z) there h = at_place f z.0 z.1 h

-- a local takes a result, and only its arguments have sites
alone : (i : ItemId) (within reached ps : List Pos) → within ≡ [] → reached ≡ [] → text.loads i ps ≡ text.loads i within ++ (text.loads i ps ++ text.stores i reached)
alone i within reached ps none nor =
    sym (ap (λ qs. text.loads i qs ++ (text.loads i ps ++ text.stores i reached)) none ∙ (ap (λ qs. text.loads i ps ++ text.stores i qs) nor ∙ append-nil (text.loads i ps)))

-- ---- calls

signed_at : (fs : List FunctionOf) (i : ℕ) → Signed fs → IfSome (slice_get fs i) (λ f. AllThere f.first.parameters)
signed_at [] i h = tt
signed_at (f ∷ fs) zero h = h.0
signed_at (f ∷ fs) (suc i) h = signed_at fs i h.1

module _ (k : Context) (sees : Sees k) where
  signed_by : (m : Meaning) → IfSome (signature_of k (Some m)) (λ g. AllThere g.parameters)
  signed_by (means.Mutex m) = tt
  signed_by (means.Global g u) = tt
  signed_by (means.Array g u) = tt
  signed_by (means.Function i) = also_if (λ (f : FunctionOf). AllThere f.first.parameters) (λ (g : Signature). AllThere g.parameters) (slice_get k.functions i) _ (signed_at k.functions i sees.signatures) (λ f h. h)
  signed_by (means.Local y u) = tt

  module _ (a : Option Aim) (c : Call) where
    abbrev ArgumentsLoad : Type 0
    ArgumentsLoad = (kinds (accesses_of_all (values_in k.scope c.arguments)) ≡ all_loads (values_places c.arguments)) × ((g : Signature) × (takes_result a g ≡ true))

    by_signature : (o : Option Signature) → IfSome o (λ g. AllThere g.parameters) → known_call_faults a c o ≡ [] → argument_faults k.scope (parameters_of o) c.arguments ≡ [] → ArgumentsLoad
    by_signature None there known none = absurd cc
    by_signature (Some g) there known none =
        let called = and_parts (not (bytes_eq c.name.text main_name)) _ (held_by_none (is_callable a c.name.text (length c.arguments) (Some g)) _ known) in
        let rest = and_parts (length c.arguments == length g.parameters) (takes_result a g) called.1 in
        (arguments_load k.scope sees.types g.parameters c.arguments there (eqb-true (length c.arguments) (length g.parameters) rest.0) none, (g, rest.1))

    by_meaning : (w : Option Meaning) (x : TypeFault) → if_none x w ≡ [] → given w (λ m. known_call_faults a c (signature_of k (Some m))) ≡ [] → argument_faults k.scope (parameters_of (signature_of k w)) c.arguments ≡ [] → ArgumentsLoad
    by_meaning None x there known none = absurd cc
    by_meaning (Some m) x there known none = by_signature (signature_of k (Some m)) (signed_by m) known none

    call_loads : call_faults k a c ≡ [] → ArgumentsLoad
    call_loads none =
        let parts = none_in (argument_faults k.scope _ c.arguments ++ if_none _ (meaning k.scope c.name.text)) _ none in
        let first = none_in (argument_faults k.scope _ c.arguments) _ parts.0 in
        by_meaning (meaning k.scope c.name.text) _ first.1 parts.1 first.0

  takes_local : (a : Aim) (g : Signature) → takes_result (Some a) g ≡ true → is_local a.at ≡ true
  takes_local a g h = (and_parts (is_local a.at) (result_goes_into g.result a.of) (and_parts (is_no_void g.result) _ h).1).0

  -- ---- right sides

  one_loads : (a : Option Exp) → given a (faults_in k.scope (OfType (Some int))) ≡ [] → kinds_in (count_or_one k.scope a) ≡ all_loads (if_written a)
  one_loads None none = ap kinds (accesses_num (pos 1))
  one_loads (Some a) none = value_loads k.scope sees.types (OfType (Some int)) a tt none

  pub right_shows : (i : ItemId) (a : Aim) (within reached : List Pos) → Aims a within reached → (r : Right) → right_faults k a r ≡ []
      → Shows i (act_accesses (set_act k a r)) (text.loads i within ++ (text.loads i (right_places r) ++ text.stores i reached))
  right_shows i a within reached aims (right.Value b) none =
      let xs : List Access = aim_accesses (target_at a.at) in
      let ys : List Access = accesses (value_in k.scope b) in
      let zs : List Access = target_stores (target_at a.at) in
      three_show i xs ys zs _ _ _ (loads_show i xs within aims.finds)
      (loads_show i ys (value_places b) (value_loads k.scope sees.types (OfType a.of) b (asked_of a.of aims.typed) none)) (stores_show i zs reached aims.stored)
  right_shows i a within reached aims (right.Call c) none =
      let h = call_loads (Some a) c none in
      let no = aims.local (takes_local a h.1.0 h.1.1) in
      loads_show i (accesses_of_all (values_in k.scope c.arguments)) (values_places c.arguments) h.0 ∙ ap shown (alone i within reached (values_places c.arguments) no.0 no.1)
  right_shows i a within reached aims (right.Malloc c) none =
      let parts = none_in (given c.cast (λ d. type_faults k.scope d.base) ++ given c.count (faults_in k.scope (OfType (Some int))) ++ type_faults k.scope c.of.base) _ none in
      let two = none_in (given c.cast (λ d. type_faults k.scope d.base) ++ given c.count (faults_in k.scope (OfType (Some int)))) _ parts.0 in
      let one = none_in (given c.cast (λ d. type_faults k.scope d.base)) _ two.0 in
      let xs : List Access = aim_accesses (target_at a.at) in
      let ys : List Access = accesses (count_or_one k.scope c.count) in
      let zs : List Access = Allocates ∷ target_stores (target_at a.at) in
      three_show i xs ys zs _ _ _ (loads_show i xs within aims.finds) (loads_show i ys (if_written c.count) (one_loads c.count one.1)) (stores_show i zs reached aims.stored)

  -- ---- simple statements

  library_shows : (i : ItemAt) (c : Library) → library_faults k i.pos c ≡ [] → Shows i.id (act_accesses (library_act k c)) (library_sites i c)
  library_shows i (library.Lock x) none = refl
  library_shows i (library.Unlock x) none = refl
  library_shows i (library.Create x f a) none =
      loads_show i.id (accesses (value_in k.scope a)) (value_places a) (value_loads k.scope sees.types (OfType (Some void_pointer)) a tt (none_in _ (faults_in k.scope (OfType (Some void_pointer)) a) none).1)
  library_shows i (library.Join a) none = loads_show i.id (accesses (value_in k.scope a)) (value_places a) (value_loads k.scope sees.types (OfType (Some thread)) a tt none)
  library_shows i (library.Free a) none =
      both_show i.id (accesses (value_in k.scope a)) _ _ _ (loads_show i.id (accesses (value_in k.scope a)) (value_places a) (value_loads k.scope sees.types (OfType (Some void_pointer)) a tt none)) refl
  library_shows i (library.Assert a) none =
      both_show i.id (accesses (value_in k.scope a)) _ _ _ (loads_show i.id (accesses (value_in k.scope a)) (value_places a) (value_loads k.scope sees.types Scalar a tt none)) refl
  library_shows i (library.Print q t more) none =
      loads_show i.id (accesses_of_all (values_in k.scope more)) (values_places more) (each_loads k.scope sees.types int more (none_in _ (each_faults k.scope int more) none).1)

  update_value : (t : Option (ObjectType × Target)) (x : Option Operand) → is_some t ≡ true → is_some x ≡ true → update_allowed t x ≡ true → is_some (also x value_of) ≡ true
  update_value None x it ix h = absurd cc
  update_value (Some t) None it ix h = absurd cc
  update_value (Some t) (Some x) it ix h = wanted_there (OfType (Some int)) (value_of x) tt (and_parts (same_object t.0 int) (value_is_wanted (OfType (Some int)) (value_of x)) h).1

  target_there : (a : Exp) → aim_faults k.scope a ≡ [] → is_some (also (judged k.scope a).is target_of) ≡ true
  target_there a none =
      let parts = none_in (judged k.scope a).faults (no_place (judged k.scope a) target_of) none in
      place_there (judged k.scope a) target_of parts.1 (operand_there k.scope sees.types a parts.0)

  pub simple_shows : (i : ItemAt) (a : Simple) → simple_faults k i.pos a ≡ [] → Shows i.id (act_accesses (simple_act k a)) (simple_sites i a)
  simple_shows i (simple.Set a r) none =
      let parts = none_in (aim_faults k.scope a) _ none in
      let aims = aims_at (sought a) (also (judged k.scope a).is target_of) (target_there a parts.0) (aimed k.scope a) in
      right_shows i.id (aim k.scope a) (sought a).within (accessed (sought a)) aims r parts.1
  simple_shows i (simple.Update a o b) none =
      let parts = none_in (aim_faults k.scope a ++ (judged k.scope b).faults) _ none in
      let two = none_in (aim_faults k.scope a) (judged k.scope b).faults parts.0 in
      let there = target_there a two.0 in
      let aims = aims_at (sought a) (also (judged k.scope a).is target_of) there (aimed k.scope a) in
      let value = update_value (also (judged k.scope a).is target_of) (judged k.scope b).is there (operand_there k.scope sees.types b two.1) (held_by_none (update_allowed (also (judged k.scope a).is target_of) (judged k.scope b).is) _ parts.1) in
      let xs : List Access = aim_accesses (target_at (aim k.scope a).at) in
      let us : List Access = target_loads (target_at (aim k.scope a).at) in
      let ys : List Access = accesses (value_in k.scope b) in
      let zs : List Access = target_stores (target_at (aim k.scope a).at) in
      both_show i.id xs (us ++ (ys ++ zs)) _ _ (loads_show i.id xs (sought a).within aims.finds)
      (three_show i.id us ys zs _ _ _ (loads_show i.id us (accessed (sought a)) aims.loaded)
      (loads_show i.id ys (value_places b) (loads_by k.scope sees.types b value)) (stores_show i.id zs (accessed (sought a)) aims.stored))
  simple_shows i (simple.Call c) none = loads_show i.id (accesses_of_all (values_in k.scope c.arguments)) (values_places c.arguments) (call_loads None c none).0
  simple_shows i (simple.Library c) none = library_shows i c none
