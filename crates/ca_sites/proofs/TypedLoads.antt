-- The sites of what an operand is, by the places in the text: each is a load.
use Rattle.std.proofs.Common.{◌≡◌, ℕ, Bool, true, false, List, [], ◌∷◌, ◌++◌, Option, Some, None, refl, sym, ap, ◌∙◌, subst, inl, inr, append-nil}
use Rattle.std.specs.Prelude.{IfSome, ◌⊎◌, if◌then◌else◌}
use Rattle.std.proofs.lemmas.List.{map-append}
use Rattle.ca_tree.specs.declared.text.Pos.{Pos}
use Rattle.ca_tree.specs.declared.numbers.GlobalId.{GlobalId}
use Rattle.ca_tree.specs.declared.numbers.StructId.{StructId}
use Rattle.ca_tree.specs.declared.tree.Name.{Name}
use Rattle.ca_tree.specs.declared.tree.UnaryOp.{UnaryOp}
use Rattle.ca_tree.specs.declared.tree.UnaryOp.TheVariants as unary_op
use Rattle.ca_tree.specs.declared.tree.BinaryOp.{BinaryOp}
use Rattle.ca_tree.specs.declared.tree.BinaryOp.TheVariants as op
use Rattle.ca_model.specs.declared.tree.BinOp.{BinOp}
use Rattle.ca_model.specs.declared.tree.BinOp.TheVariants as typed
use Rattle.ca_model.specs.declared.tree.LoadKind.{LoadKind}
use Rattle.ca_model.specs.declared.tree.Place.{Place, fold-roll-Place, fold_out-Place}
use Rattle.ca_model.specs.declared.tree.Exp.{Exp, out-Exp, fold_out-Exp}
use Rattle.ca_model.specs.declared.tree.Exp.TheVariants as e
use Rattle.ca_model.specs.declared.types.ObjectType.{ObjectType}
use Rattle.ca_model.specs.declared.types.ValueType.{ValueType}
use Rattle.ca_model.specs.declared.types.Operand.{Operand}
use Rattle.ca_model.specs.declared.types.Operand.TheVariants as operand
use Rattle.ca_model.specs.declared.types.Meaning.{Meaning}
use Rattle.ca_model.specs.declared.types.Meaning.TheVariants as means
use Rattle.ca_model.specs.Accesses.{Kind, A_load, Access, At_site, Named_load, Named_store, Allocates, exp_accesses, place_accesses, loads, kinds, accesses, accesses_to}
use Rattle.ca_model.specs.typing.Types.{held, load_kind, cells}
use Rattle.ca_model.specs.typing.Values.{Typed_value, also, with_type, value_of, is_int, is_scalar, int_of, scalar_of, pointed_at}
use Rattle.ca_model.specs.typing.Places.{behind, element, pointed, address, indexed, struct_of, struct_place, struct_behind, field_at}
use Rattle.ca_model.specs.typing.Operators.{an_int, negated, denied, are_comparable, int_op, equality, displaced, sum, logical_exp, logical, binary_values, binary}
use Rattle.ca_model.specs.typing.Scopes.{Scope, field_of}
use Rattle.ca_model.specs.typing.Expressions.{global_place, of_type, named, by_unary, field_place, chosen}
use Rattle.ca_model.proofs.MissingAnswers.{also_if, also_each, if_tested}
use Rattle.ca_model.proofs.Equations.{by_accesses, accesses_local, accesses_global, accesses_load, accesses_binary, accesses_plain, accesses_indexed}
use Rattle.ca_sites.specs.TextSites.{Sought, accessed, valued}
use Rattle.ca_sites.specs.TextSites as text
use Rattle.ca_sites.specs.SiteLaws.{all_loads}

abbrev pub sites_in : Exp → List Kind
sites_in a = kinds (accesses a)

abbrev pub sites_to : Place → List Kind
sites_to p = kinds (accesses_to p).1

-- a load, where it is a site
abbrev one_load : Bool → List Kind
one_load b = kinds (loads b)

-- ---- the sites of parts

accesses_out : (x : Exp) (l : _) → out-Exp x ≡ l → accesses x ≡ by_accesses l
accesses_out x l is = fold_out-Exp (List Access) (Bool × List Access) exp_accesses place_accesses x ∙ ap by_accesses is

both_accesses : (x a b : Exp) → ((o : BinOp) × (x ≡ e.Binary o a b)) ⊎ ((x ≡ e.And a b) ⊎ (x ≡ e.Or a b)) → accesses x ≡ accesses a ++ accesses b
both_accesses x a b (inl (o, is)) = ap accesses is ∙ accesses_binary o a b
both_accesses x a b (inr (inl is)) = ap accesses is ∙ accesses_out (e.And a b) _ (e.outs-And a b)
both_accesses x a b (inr (inr is)) = ap accesses is ∙ accesses_out (e.Or a b) _ (e.outs-Or a b)

pub kinds_append : (xs ys : List Access) → kinds (xs ++ ys) ≡ kinds xs ++ kinds ys
kinds_append [] ys = refl
kinds_append (At_site k ∷ xs) ys = ap (λ ks. k ∷ ks) (kinds_append xs ys)
kinds_append (Named_load ∷ xs) ys = kinds_append xs ys
kinds_append (Named_store ∷ xs) ys = kinds_append xs ys
kinds_append (Allocates ∷ xs) ys = kinds_append xs ys

of_load : (p : Place) (k : LoadKind) → sites_in (e.Load p k) ≡ sites_to p ++ one_load (accesses_to p).0
of_load p k = ap kinds (accesses_load p k) ∙ kinds_append (accesses_to p).1 (loads (accesses_to p).0)

of_address : (p : Place) → sites_in (e.AddressOf p) ≡ sites_to p
of_address p = ap kinds (accesses_out (e.AddressOf p) _ (e.outs-AddressOf p))

of_negate : (a : Exp) → sites_in (e.Negate a) ≡ sites_in a
of_negate a = ap kinds (accesses_out (e.Negate a) _ (e.outs-Negate a))

of_not : (a : Exp) → sites_in (e.Not a) ≡ sites_in a
of_not a = ap kinds (accesses_out (e.Not a) _ (e.outs-Not a))

of_both : (x a b : Exp) → ((o : BinOp) × (x ≡ e.Binary o a b)) ⊎ ((x ≡ e.And a b) ⊎ (x ≡ e.Or a b)) → sites_in x ≡ sites_in a ++ sites_in b
of_both x a b is = ap kinds (both_accesses x a b is) ∙ kinds_append (accesses a) (accesses b)

of_behind : (a : Exp) → (sites_to (behind a) ≡ sites_in a) × ((accesses_to (behind a)).0 ≡ true)
of_behind a = (
  ap (λ (x : Bool × List Access). kinds x.1) (accesses_plain a 0 true) ∙ ap kinds (append-nil (accesses a)),
  ap (λ (x : Bool × List Access). x.0) (accesses_plain a 0 true),
)

of_global : (g : GlobalId) → (sites_to (global_place g) ≡ []) × ((accesses_to (global_place g)).0 ≡ false)
of_global g = (
  ap (λ (x : Bool × List Access). kinds x.1) (accesses_plain (e.Global g) 0 false) ∙ (ap kinds (append-nil (accesses (e.Global g))) ∙ ap kinds (accesses_global g)),
  ap (λ (x : Bool × List Access). x.0) (accesses_plain (e.Global g) 0 false),
)

of_element : (a i : Exp) (k : ℕ) → (sites_to (element a i k) ≡ sites_in a ++ sites_in i) × ((accesses_to (element a i k)).0 ≡ true)
of_element a i k = (
  ap (λ (x : Bool × List Access). kinds x.1) (accesses_indexed a i k 0 true) ∙ kinds_append (accesses a) (accesses i),
  ap (λ (x : Bool × List Access). x.0) (accesses_indexed a i k 0 true),
)

of_field : (p : Place) (k : ℕ) → accesses_to (field_at p k) ≡ accesses_to p
of_field p k = fold-roll-Place (List Access) (Bool × List Access) exp_accesses place_accesses _ ∙ sym (fold_out-Place (List Access) (Bool × List Access) exp_accesses place_accesses p)

-- ---- the places in the text

pub all_both : (ps qs : List Pos) → all_loads (ps ++ qs) ≡ all_loads ps ++ all_loads qs
all_both ps qs = map-append (λ p. A_load) ps qs

pub all_valued : (f : Sought) → all_loads (valued f) ≡ all_loads f.within ++ one_load f.through
all_valued f = all_both f.within (accessed f) ∙ ap (λ ks. all_loads f.within ++ ks) (one f.through)
  where
    one : (b : Bool) → all_loads (if b then f.pos ∷ [] else []) ≡ one_load b
    one true = refl
    one false = refl

-- ---- operands

-- what is found with such sites, through a pointer or an index or not
abbrev pub Agrees : List Kind → Bool → Operand → Type 0
Agrees ks b (operand.Value t a) = (sites_in a ≡ ks) × (b ≡ false)
Agrees ks b (operand.Local t x) = (ks ≡ []) × (b ≡ false)
Agrees ks b (operand.Place t p) = (sites_to p ≡ ks) × ((accesses_to p).0 ≡ b)
Agrees ks b operand.Name = Unit {0}

abbrev pub HasSites : List Kind → Typed_value → Type 0
HasSites ks v = sites_in v.1 ≡ ks

abbrev Has : List Kind → Exp → Type 0
Has ks a = sites_in a ≡ ks

with_type_has : (ks : List Kind) (a : Exp) (t : Option ValueType) → sites_in a ≡ ks → IfSome (with_type a t) (HasSites ks)
with_type_has ks a None h = tt
with_type_has ks a (Some t) h = h

pub value_has : (ks : List Kind) (b : Bool) (x : Operand) → Agrees ks b x → IfSome (value_of x) (HasSites (ks ++ one_load b))
value_has ks b (operand.Value t a) h = subst (λ c. sites_in a ≡ ks ++ one_load c) (sym h.1) (h.0 ∙ sym (append-nil ks))
value_has ks b (operand.Local t x) h =
    with_type_has (ks ++ one_load b) (e.Local x) (held t) (subst (λ c. sites_in (e.Local x) ≡ ks ++ one_load c) (sym h.1) (ap kinds (accesses_local x) ∙ (sym h.0 ∙ sym (append-nil ks))))
value_has ks b (operand.Place t p) h =
    with_type_has (ks ++ one_load b) (e.Load p (load_kind t)) (held t) (of_load p (load_kind t) ∙ (ap (λ js. js ++ one_load (accesses_to p).0) h.0 ∙ ap (λ c. ks ++ one_load c) h.1))
value_has ks b operand.Name h = tt

int_has : (ks : List Kind) (v : Typed_value) → HasSites ks v → IfSome (int_of v) (Has ks)
int_has ks v h = if_tested (Has ks) (is_int v.0) (Some v.1) h

scalar_has : (ks : List Kind) (v : Typed_value) → HasSites ks v → IfSome (scalar_of v) (Has ks)
scalar_has ks v h = if_tested (Has ks) (is_scalar v.0) (Some v.1) h

-- ---- one operand

module _ (f : Sought) where
  abbrev found : Operand → Type 0
  found x = Agrees (all_loads f.within) f.through x

  abbrev m : List Kind
  m = all_loads f.within ++ one_load f.through

  abbrev IfAgrees : Bool → Option Operand → Type 0
  IfAgrees b o = IfSome o (Agrees (all_loads (valued f)) b)

  counted : (b : Bool) (o : Option Operand) → IfSome o (Agrees m b) → IfAgrees b o
  counted b o h = subst (λ k. IfSome o (Agrees k b)) (sym (all_valued f)) h

  pointed_agrees : (x : Operand) → found x → IfAgrees true (pointed x)
  pointed_agrees x h = counted true (pointed x) (also_if (HasSites m) (Agrees m true) (value_of x) _ (value_has (all_loads f.within) f.through x h) (λ v hv.
      also_each (Agrees m true) (pointed_at v.0) _ (λ t. ((of_behind v.1).0 ∙ hv, (of_behind v.1).1))))

  negated_agrees : (x : Operand) → found x → IfAgrees false (negated x)
  negated_agrees x h = counted false (negated x) (also_if (HasSites m) (Agrees m false) (value_of x) _ (value_has (all_loads f.within) f.through x h) (λ v hv.
      also_if (Has m) (Agrees m false) (int_of v) _ (int_has m v hv) (λ a ha. (of_negate a ∙ ha, refl))))

  denied_agrees : (x : Operand) → found x → IfAgrees false (denied x)
  denied_agrees x h = counted false (denied x) (also_if (HasSites m) (Agrees m false) (value_of x) _ (value_has (all_loads f.within) f.through x h) (λ v hv.
      also_if (Has m) (Agrees m false) (scalar_of v) _ (scalar_has m v hv) (λ a ha. (of_not a ∙ ha, refl))))

  address_agrees : (x : Operand) → found x → IfSome (address x) (Agrees (all_loads f.within) false)
  address_agrees (operand.Value t a) h = tt
  address_agrees (operand.Local t x) h = tt
  address_agrees (operand.Place t p) h = (of_address p ∙ h.0, refl)
  address_agrees operand.Name h = tt

  pub unary_agrees : (o : UnaryOp) (p : Pos) (x : Operand) → found x → IfSome (by_unary o x) (Agrees (all_loads (text.by_unary o p f).within) (text.by_unary o p f).through)
  unary_agrees unary_op.Negate p x h = negated_agrees x h
  unary_agrees unary_op.Not p x h = denied_agrees x h
  unary_agrees unary_op.Deref p x h = pointed_agrees x h
  unary_agrees unary_op.AddressOf p x h = address_agrees x h

  -- ---- fields

  abbrev OfStruct : List Kind → Bool → StructId × Place → Type 0
  OfStruct ks b x = (sites_to x.1 ≡ ks) × ((accesses_to x.1).0 ≡ b)

  pub struct_place_agrees : (x : Operand) → found x → IfSome (struct_place x) (OfStruct (all_loads f.within) f.through)
  struct_place_agrees (operand.Value t a) h = tt
  struct_place_agrees (operand.Local t x) h = tt
  struct_place_agrees (operand.Place t p) h = also_each (OfStruct (all_loads f.within) f.through) (struct_of t) _ (λ s. h)
  struct_place_agrees operand.Name h = tt

  pub struct_behind_agrees : (x : Operand) → found x → IfSome (struct_behind x) (OfStruct (all_loads (valued f)) true)
  struct_behind_agrees x h = subst (λ k. IfSome (struct_behind x) (OfStruct k true)) (sym (all_valued f)) (also_if (HasSites m) (OfStruct m true) (value_of x) _ (value_has (all_loads f.within) f.through x h) (λ v hv.
      also_each (OfStruct m true) (pointed_at v.0) _ (λ t. also_each (OfStruct m true) (struct_of t) _ (λ s. ((of_behind v.1).0 ∙ hv, (of_behind v.1).1)))))

of_type_agrees : (ks : List Kind) (b : Bool) (f : ObjectType → Operand) (t : Option ObjectType) → ((u : ObjectType) → Agrees ks b (f u)) → IfSome (of_type f t) (Agrees ks b)
of_type_agrees ks b f None h = tt
of_type_agrees ks b f (Some t) h = h t

field_place_agrees : (ks : List Kind) (b : Bool) (p : Place) (f : Option (ℕ × Option ObjectType)) → (sites_to p ≡ ks) × ((accesses_to p).0 ≡ b) → IfSome (field_place p f) (Agrees ks b)
field_place_agrees ks b p None h = tt
field_place_agrees ks b p (Some f) h =
    of_type_agrees ks b _ f.1 (λ t. (ap (λ (x : Bool × List Access). kinds x.1) (of_field p f.0) ∙ h.0, ap (λ (x : Bool × List Access). x.0) (of_field p f.0) ∙ h.1))

pub chosen_agrees : (ks : List Kind) (b : Bool) (s : Scope) (x : Name) (a : Option (StructId × Place)) → IfSome a (λ y. (sites_to y.1 ≡ ks) × ((accesses_to y.1).0 ≡ b)) → IfSome (chosen s x a) (Agrees ks b)
chosen_agrees ks b s x a h = also_if (λ (y : StructId × Place). (sites_to y.1 ≡ ks) × ((accesses_to y.1).0 ≡ b)) (Agrees ks b) a _ h (λ y hy. field_place_agrees ks b y.1 (field_of s y.0 x.text) hy)

-- ---- names

pub named_agrees : (w : Meaning) → IfSome (named w) (Agrees [] false)
named_agrees (means.Mutex k) = tt
named_agrees (means.Function f) = tt
named_agrees (means.Global g t) = of_type_agrees [] false _ t (λ u. of_global g)
named_agrees (means.Array g t) = of_type_agrees [] false _ t (λ u. (ap kinds (accesses_global g), refl))
named_agrees (means.Local x t) = of_type_agrees [] false _ t (λ u. (refl, refl))

-- ---- two operands

module _ (f g : Sought) where
  abbrev c : List Kind
  c = all_loads f.within ++ one_load f.through

  abbrev d : List Kind
  d = all_loads g.within ++ one_load g.through

  abbrev Two : Operand → Type 0
  Two o = Agrees (c ++ d) false o

  module _ (x y : Typed_value) (h : HasSites c x) (i : HasSites d y) where
    binary_has : (o : BinOp) (a b : Exp) → Has c a → Has d b → sites_in (e.Binary o a b) ≡ c ++ d
    binary_has o a b ha hb = of_both (e.Binary o a b) a b (inl (o, refl)) ∙ (ap (λ js. js ++ sites_in b) ha ∙ ap (λ js. c ++ js) hb)

    int_op_agrees : (o : BinOp) → IfSome (int_op o x y) Two
    int_op_agrees o = also_if (Has c) Two (int_of x) _ (int_has c x h) (λ a ha. also_if (Has d) Two (int_of y) _ (int_has d y i) (λ b hb. (binary_has o a b ha hb, refl)))

    equality_agrees : (o : BinOp) → IfSome (equality o x y) Two
    equality_agrees o = if_tested Two (are_comparable x y) (an_int (e.Binary o x.1 y.1)) (binary_has o x.1 y.1 h i, refl)

    displaced_agrees : (fields : StructId → ℕ) → IfSome (also (pointed_at x.0) (λ t. also (int_of y) (λ i. Some (displaced fields x.1 i t)))) Two
    displaced_agrees fields = also_each Two (pointed_at x.0) _ (λ t. also_if (Has d) Two (int_of y) _ (int_has d y i) (λ b hb.
        (of_address (element x.1 b (cells fields t)) ∙ ((of_element x.1 b (cells fields t)).0 ∙ (ap (λ js. js ++ sites_in b) h ∙ ap (λ js. c ++ js) hb)), refl)))

    sum_by : (b : Bool) (o p : Option Operand) → IfSome o Two → IfSome p Two → IfSome (if b then o else p) Two
    sum_by true o p j k = j
    sum_by false o p j k = k

    sum_agrees : (fields : StructId → ℕ) → IfSome (sum fields x y) Two
    sum_agrees fields = sum_by (is_int x.0) (int_op typed.Add x y) _ (int_op_agrees typed.Add) (displaced_agrees fields)

    logical_has : (is_and : Bool) (a b : Exp) → Has c a → Has d b → sites_in (logical_exp is_and a b) ≡ c ++ d
    logical_has true a b ha hb = of_both (e.And a b) a b (inr (inl refl)) ∙ (ap (λ js. js ++ sites_in b) ha ∙ ap (λ js. c ++ js) hb)
    logical_has false a b ha hb = of_both (e.Or a b) a b (inr (inr refl)) ∙ (ap (λ js. js ++ sites_in b) ha ∙ ap (λ js. c ++ js) hb)

    logical_agrees : (is_and : Bool) → IfSome (logical is_and x y) Two
    logical_agrees is_and = also_if (Has c) Two (scalar_of x) _ (scalar_has c x h) (λ a ha. also_if (Has d) Two (scalar_of y) _ (scalar_has d y i) (λ b hb. (logical_has is_and a b ha hb, refl)))

    binary_values_agrees : (fields : StructId → ℕ) (o : BinaryOp) → IfSome (binary_values fields o x y) Two
    binary_values_agrees fields op.Mul = int_op_agrees typed.Mul
    binary_values_agrees fields op.Div = int_op_agrees typed.Div
    binary_values_agrees fields op.Rem = int_op_agrees typed.Rem
    binary_values_agrees fields op.Add = sum_agrees fields
    binary_values_agrees fields op.Sub = int_op_agrees typed.Sub
    binary_values_agrees fields op.Less = int_op_agrees typed.Less
    binary_values_agrees fields op.More = int_op_agrees typed.More
    binary_values_agrees fields op.LessSame = int_op_agrees typed.LessSame
    binary_values_agrees fields op.MoreSame = int_op_agrees typed.MoreSame
    binary_values_agrees fields op.Same = equality_agrees typed.Same
    binary_values_agrees fields op.Differs = equality_agrees typed.Differs
    binary_values_agrees fields op.And = logical_agrees true
    binary_values_agrees fields op.Or = logical_agrees false

  two_counted : (b : Bool) (o : Option Operand) → IfSome o (Agrees (c ++ d) b) → IfSome o (Agrees (all_loads (valued f ++ valued g)) b)
  two_counted b o h = subst (λ k. IfSome o (Agrees k b)) (sym (all_both (valued f) (valued g) ∙ (ap (λ js. js ++ all_loads (valued g)) (all_valued f) ∙ ap (λ js. c ++ js) (all_valued g)))) h

  pub binary_agrees : (fields : StructId → ℕ) (o : BinaryOp) (x y : Operand) → Agrees (all_loads f.within) f.through x → Agrees (all_loads g.within) g.through y → IfSome (binary fields o x y) (Agrees (all_loads (valued f ++ valued g)) false)
  binary_agrees fields o x y h i = two_counted false (binary fields o x y) (also_if (HasSites c) Two (value_of x) _ (value_has (all_loads f.within) f.through x h) (λ v hv.
      also_if (HasSites d) Two (value_of y) _ (value_has (all_loads g.within) g.through y i) (λ w hw. binary_values_agrees v w hv hw fields o)))

  pub indexed_agrees : (fields : StructId → ℕ) (x y : Operand) → Agrees (all_loads f.within) f.through x → Agrees (all_loads g.within) g.through y → IfSome (indexed fields x y) (Agrees (all_loads (valued f ++ valued g)) true)
  indexed_agrees fields x y h i = two_counted true (indexed fields x y) (also_if (HasSites c) (Agrees (c ++ d) true) (value_of x) _ (value_has (all_loads f.within) f.through x h) (λ v hv.
      also_if (HasSites d) (Agrees (c ++ d) true) (value_of y) _ (value_has (all_loads g.within) g.through y i) (λ w hw.
      also_each (Agrees (c ++ d) true) (pointed_at v.0) _ (λ t.
      also_if (Has d) (Agrees (c ++ d) true) (int_of w) _ (int_has d w hw) (λ b hb.
      ((of_element v.1 b (cells fields t)).0 ∙ (ap (λ js. js ++ sites_in b) hv ∙ ap (λ js. c ++ js) hb), (of_element v.1 b (cells fields t)).1))))))
