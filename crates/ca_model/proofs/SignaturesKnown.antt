-- Declarations of functions in which nothing is wrong: the function is known behind them by its first declaration, and a definition agrees with that.
use Rattle.std.proofs.Common.{◌≡◌, ℕ, zero, suc, Bool, true, false, not, List, [], ◌∷◌, length, Option, Some, None, arith, refl, sym, ◌∙◌, ap, subst, inl, inr}
use Rattle.std.specs.Prelude.{slice_get, Contains, ◌⊎◌, ◌&&◌, ◌||◌}
use Rattle.std.specs.Option.{is_some}
use Rattle.std.proofs.lemmas.Bool.{and_parts}
use Rattle.std.proofs.lemmas.List.{length-map}
use Rattle.std.proofs.lemmas.List.Elements.{Contains-append_left}
use Rattle.ca_tree.specs.declared.tree.Function.{Function}
use Rattle.ca_tree.specs.Names.{is_library_word}
use Rattle.ca_model.specs.declared.types.ObjectType.{ObjectType}
use Rattle.ca_model.specs.declared.types.Meaning.{Meaning}
use Rattle.ca_model.specs.declared.types.Meaning.TheVariants as means
use Rattle.ca_model.specs.typing.TypeNames.{both_same}
use Rattle.ca_model.specs.typing.Scopes.{Signature, FunctionOf, Context, find}
use Rattle.ca_model.specs.typing.Signatures.{parameter_type, signature, void_pointers_allowed, all_same, agree, all_agree, fits_others, all_named, function_meant, function_named, may_follow, is_new, is_right, declared_too, declared_first, changed_at, with_declaration, with_signature}
use Rattle.ca_model.proofs.Composition.{get_right}
use Rattle.ca_model.proofs.Law.{get_either}
use Rattle.ca_model.proofs.Steps.{get_left}
use Rattle.ca_model.proofs.Members.{in_none, in_cons, at_head}
use Rattle.ca_model.proofs.KnownSoFar.{found_new, FirstThere}
use Rattle.ca_model.proofs.GlobalsKnown.{named_by, kept_name, either_name, same_structs, inside_some}

-- ---- signatures that agree

same_length : (ts us : List (Option ObjectType)) → all_same ts us ≡ true → length ts ≡ length us
same_length [] [] h = refl
same_length [] (u ∷ us) h = absurd cc
same_length (t ∷ ts) [] h = absurd cc
same_length (t ∷ ts) (u ∷ us) h = ap suc (same_length ts us (and_parts (both_same t u) (all_same ts us) h).1)

agrees_in : (g : Signature) (hs : List Signature) (h : Signature) → all_agree g hs ≡ true → Contains hs h → agree g h ≡ true
agrees_in g [] h all at = absurd (in_none h at)
agrees_in g (x ∷ hs) h all at =
    let parts = and_parts (agree g x) (all_agree g hs) all in
    elim (in_cons x hs h at) [ inl is ↦ subst (λ y. agree g y ≡ true) is parts.0 | inr more ↦ agrees_in g hs h parts.1 more ]

-- a definition of a function that has none so far has as many parameters as the first declaration
as_first : (g : Signature) (f : FunctionOf) → FirstThere f → not (true && is_some f.definition) ≡ true → fits_others true g (Some f) ≡ true → length f.first.parameters ≡ length g.parameters
as_first g f (inl has) none fits = absurd (two_ways (is_some f.definition) has none)
  where
    two_ways : (b : Bool) → b ≡ true → not (true && b) ≡ true → ⊥
    two_ways true h i = cc
    two_ways false h i = cc
as_first g f (inr at) none fits =
    let same = agrees_in g f.prototypes f.first fits at in
    sym (same_length g.parameters f.first.parameters (and_parts (both_same g.result f.first.result) (all_same g.parameters f.first.parameters) same).1)

-- ---- one declaration more

kept_first : (b : Bool) (g : Signature) (f : FunctionOf) → (declared_too b g f).first ≡ f.first
kept_first true g f = refl
kept_first false g f = refl

there_too : (b : Bool) (g : Signature) (f : FunctionOf) → FirstThere f → FirstThere (declared_too b g f)
there_too true g f h = inl refl
there_too false g f (inl has) = inl has
there_too false g f (inr at) = inr (Contains-append_left f.prototypes (g ∷ []) f.first at)

there_first : (b : Bool) (g : Signature) → FirstThere (declared_first b g)
there_first true g = inl refl
there_first false g = inr (at_head g [])

changed_here : (i : ℕ) (go : FunctionOf → FunctionOf) (fs : List FunctionOf) (f : FunctionOf) → slice_get fs i ≡ Some f → slice_get (changed_at i go fs) i ≡ Some (go f)
changed_here i go [] f h = absurd cc
changed_here zero go (x ∷ fs) f h = ap (λ y. Some (go y)) (inside_some x f h)
changed_here (suc i) go (x ∷ fs) f h = changed_here i go fs f h

changed_first : (i : ℕ) (go : FunctionOf → FunctionOf) → ((f : FunctionOf) → (go f).first ≡ f.first) → (fs : List FunctionOf) (j : ℕ) (f : FunctionOf) → slice_get fs j ≡ Some f → (g : FunctionOf) × (slice_get (changed_at i go fs) j ≡ Some g) × (g.first ≡ f.first)
changed_first i go keeps [] j f h = absurd cc
changed_first zero go keeps (x ∷ fs) zero f h = (go x, refl, keeps x ∙ ap (λ (y : FunctionOf). y.first) (inside_some x f h))
changed_first zero go keeps (x ∷ fs) (suc j) f h = (f, h, refl)
changed_first (suc i) go keeps (x ∷ fs) zero f h = (f, h, refl)
changed_first (suc i) go keeps (x ∷ fs) (suc j) f h = changed_first i go keeps fs j f h

changed_there : (i : ℕ) (go : FunctionOf → FunctionOf) → ((f : FunctionOf) → FirstThere f → FirstThere (go f)) → (fs : List FunctionOf) → ((j : ℕ) (f : FunctionOf) → slice_get fs j ≡ Some f → FirstThere f) → (j : ℕ) (f : FunctionOf) → slice_get (changed_at i go fs) j ≡ Some f → FirstThere f
changed_there i go keeps [] there j f h = absurd cc
changed_there zero go keeps (x ∷ fs) there zero f h = subst FirstThere (inside_some (go x) f h) (keeps x (there 0 x refl))
changed_there zero go keeps (x ∷ fs) there (suc j) f h = there (suc j) f h
changed_there (suc i) go keeps (x ∷ fs) there zero f h = there 0 f h
changed_there (suc i) go keeps (x ∷ fs) there (suc j) f h = changed_there i go keeps fs (λ k g at. there (suc k) g at) j f h

only_one : (x f : FunctionOf) (k : ℕ) → slice_get (x ∷ []) k ≡ Some f → x ≡ f
only_one x f zero h = inside_some x f h
only_one x f (suc k) h = absurd cc

-- ---- what a declaration of the name n makes of what is known

abbrev pub EachThere : List FunctionOf → Type 0
EachThere fs = (i : ℕ) (f : FunctionOf) → slice_get fs i ≡ Some f → FirstThere f

-- n means a function that by its first declaration has so many parameters
abbrev pub RightIn : Context → List ℕ → ℕ → Type 0
RightIn c n parameters = (i : ℕ) × (f : FunctionOf) × (find n c.scope.globals ≡ Some (means.Function i)) × (slice_get c.functions i ≡ Some f) × (length f.first.parameters ≡ parameters)

pub record Declares (c d : Context) (n : List ℕ) : Type 0 where
  pub names : (x : List ℕ) (w : Meaning) → find x c.scope.globals ≡ Some w → find x d.scope.globals ≡ Some w
  pub either : (x : List ℕ) (w : Meaning) → find x d.scope.globals ≡ Some w → (find x c.scope.globals ≡ Some w) ⊎ ((x ≡ n) × ((i : ℕ) × (means.Function i ≡ w) × ((f : FunctionOf) × (slice_get d.functions i ≡ Some f))))
  pub functions : (i : ℕ) (f : FunctionOf) → slice_get c.functions i ≡ Some f → (g : FunctionOf) × (slice_get d.functions i ≡ Some g) × (g.first ≡ f.first)
  pub there : EachThere c.functions → EachThere d.functions
  pub defined : d.defined ≡ c.defined
  pub structs : d.scope.structs ≡ c.scope.structs

module _ (c : Context) (n : List ℕ) (b : Bool) (g : Signature) where
  abbrev once : Context
  once = with_declaration c n b g None

  abbrev again : ℕ → Context
  again i = with_declaration c n b g (Some (means.Function i))

  last : slice_get once.functions (length c.functions) ≡ Some (declared_first b g)
  last = get_right c.functions (declared_first b g ∷ []) 0 (length c.functions) (declared_first b g) (omega arith) refl

  once_declares : Declares c once n
  once_declares = record {
    names = kept_name c.scope n (means.Function (length c.functions));
    either = λ x w at. elim (either_name c.scope n (means.Function (length c.functions)) x w at) [
      | inl old ↦ inl old
      | inr new ↦ inr (new.0, (length c.functions, inside_some (means.Function (length c.functions)) w new.1, (declared_first b g, last)))
    ];
    functions = λ i f at. (f, get_left c.functions (declared_first b g ∷ []) i f at, refl);
    there = λ all i f at. elim (get_either c.functions (declared_first b g ∷ []) i f at) [
      | inl old ↦ all i f old
      | inr new ↦ subst FirstThere (only_one (declared_first b g) f new.0 new.2) (there_first b g)
    ];
    defined = refl;
    structs = same_structs c.scope n (means.Function (length c.functions));
  }

  again_declares : (i : ℕ) → Declares c (again i) n
  again_declares i = record {
    names = λ x w at. at;
    either = λ x w at. inl at;
    functions = changed_first i (declared_too b g) (kept_first b g) c.functions;
    there = λ all. changed_there i (declared_too b g) (there_too b g) c.functions all;
    defined = refl;
    structs = refl;
  }

  absent_named : (t : Bool) (m : Meaning) → t ≡ false → find n c.scope.globals ≡ None → find n (named_by t c.scope n m).globals ≡ Some m
  absent_named true m h none = absurd cc
  absent_named false m h none = found_new n m c.scope.globals none

  once_right : find n c.scope.globals ≡ None → RightIn once n (length g.parameters)
  once_right none = (
    length c.functions,
    declared_first b g,
    absent_named (is_some (find n c.scope.globals)) (means.Function (length c.functions)) (ap is_some none) none,
    last,
    ap (λ (s : Signature). length s.parameters) (kept_first b g (record { first = g; definition = None; prototypes = [] })),
  )

  again_right : (i : ℕ) (f : FunctionOf) → find n c.scope.globals ≡ Some (means.Function i) → slice_get c.functions i ≡ Some f → length f.first.parameters ≡ length g.parameters → RightIn (again i) n (length g.parameters)
  again_right i f is at same = (
    i,
    declared_too b g f,
    is,
    changed_here i (declared_too b g) c.functions f at,
    ap (λ (s : Signature). length s.parameters) (kept_first b g f) ∙ same,
  )

-- a name that may be declared as a function means nothing so far, or a function
abbrev Was : Option Meaning → Type 0
Was o = (o ≡ None) ⊎ ((i : ℕ) × (o ≡ Some (means.Function i)))

was : (c : Context) (b : Bool) (o : Option Meaning) → may_follow b (is_some o) (function_meant c o) ≡ true → Was o
was c b None h = inl refl
was c b (Some (means.Mutex m)) h = absurd cc
was c b (Some (means.Global g u)) h = absurd cc
was c b (Some (means.Array g u)) h = absurd cc
was c b (Some (means.Function i)) h = inr (i, refl)
was c b (Some (means.Local x u)) h = absurd cc

module _ (c : Context) (f : Function) (new : is_new c f ≡ true) where
  abbrev follows : may_follow (is_some f.body) (is_some (find f.name.text c.scope.globals)) (function_named c f.name.text) ≡ true
  follows = (and_parts (not (is_library_word f.name.text)) _ new).1

  abbrev by : Option Meaning → Context
  by o = with_declaration c f.name.text (is_some f.body) (signature c.scope f) o

  declares_by : (o : Option Meaning) → Was o → Declares c (by o) f.name.text
  declares_by o (inl none) = subst (λ p. Declares c (by p) f.name.text) (sym none) (once_declares c f.name.text (is_some f.body) (signature c.scope f))
  declares_by o (inr some) = subst (λ p. Declares c (by p) f.name.text) (sym some.1) (again_declares c f.name.text (is_some f.body) (signature c.scope f) some.0)

  pub declares : Declares c (with_signature c f) f.name.text
  declares = declares_by (find f.name.text c.scope.globals) (was c (is_some f.body) (find f.name.text c.scope.globals) follows)

  module _ (right : is_right c f (signature c.scope f) ≡ true) (is_definition : is_some f.body ≡ true) (each : EachThere c.functions)
      (known : (i : ℕ) → find f.name.text c.scope.globals ≡ Some (means.Function i) → (h : FunctionOf) × (slice_get c.functions i ≡ Some h)) where
    abbrev long : ℕ
    long = length (signature c.scope f).parameters

    fits : fits_others (is_some f.body) (signature c.scope f) (function_named c f.name.text) ≡ true
    fits = (and_parts (not (is_some f.body) || all_named f.parameters) _ (and_parts (void_pointers_allowed (signature c.scope f)) _ right).1).1

    right_by : Was (find f.name.text c.scope.globals) → RightIn (with_signature c f) f.name.text long
    right_by (inl none) = subst (λ o. RightIn (by o) f.name.text long) (sym none) (once_right c f.name.text (is_some f.body) (signature c.scope f) none)
    right_by (inr some) =
        let h = known some.0 some.1 in
        let is : function_named c f.name.text ≡ Some h.0 = ap (function_meant c) some.1 ∙ h.1 in
        let first : may_follow true true (Some h.0) ≡ true =
        subst (λ o. may_follow true true o ≡ true) is (subst (λ o. may_follow true (is_some o) (function_named c f.name.text) ≡ true) some.1 (subst (λ b. may_follow b (is_some (find f.name.text c.scope.globals)) (function_named c f.name.text) ≡ true) is_definition follows)) in
        let others : fits_others true (signature c.scope f) (Some h.0) ≡ true =
        subst (λ o. fits_others true (signature c.scope f) o ≡ true) is (subst (λ b. fits_others b (signature c.scope f) (function_named c f.name.text) ≡ true) is_definition fits) in
        subst (λ o. RightIn (by o) f.name.text long) (sym some.1)
        (again_right c f.name.text (is_some f.body) (signature c.scope f) some.0 h.0 some.1 h.1 (as_first (signature c.scope f) h.0 (each some.0 h.0 h.1) first others))

    pub right_behind : RightIn (with_signature c f) f.name.text (length f.parameters)
    right_behind = subst (RightIn (with_signature c f) f.name.text) (length-map f.parameters (parameter_type c.scope)) (right_by (was c (is_some f.body) (find f.name.text c.scope.globals) follows))
