-- What a place in a typed source knows of the names that are visible there.
use Rattle.std.proofs.Common.{◌≡◌, ◌≤◌, ◌<◌, ℕ, true, List, length, arith}
use Rattle.std.specs.Prelude.{slice_get, IfSome}
use Rattle.std.specs.Option.{is_some}
use Rattle.ca_tree.specs.declared.numbers.StructId.{StructId}
use Rattle.ca_model.specs.declared.types.Meaning.{Meaning}
use Rattle.ca_model.specs.declared.types.Meaning.TheVariants as means
use Rattle.ca_model.specs.Codes.{Typed}
use Rattle.ca_model.specs.Bounds.{takes}
use Rattle.ca_model.specs.typing.Scopes.{FunctionOf, Context, find, meaning, field_of, defined_as}
use Rattle.ca_model.specs.typing.Bodies.{Inside, inner, left}
use Rattle.ca_model.proofs.MissingAnswers.{weaker, or_else_if}
use Rattle.ca_model.proofs.OperandBounds.{Reaches}
use Rattle.ca_model.proofs.ExpressionsFit.{Sees}
use Rattle.ca_model.proofs.ExpressionsThere.{HasType, Typed_field, Knows_types}

module _ (t : Typed) where
  -- the typed function of a name takes as many arguments as its first declaration says
  abbrev pub Takes_arguments : List (List ℕ) → List ℕ → FunctionOf → Type 0
  Takes_arguments defined x f = takes (slice_get t.functions (defined_as 0 x defined)) (length f.first.parameters) ≡ true

  -- what a name means is there, and its type wasn't refused; a local is below n
  abbrev pub Means : ℕ → List FunctionOf → List (List ℕ) → List ℕ → Meaning → Type 0
  Means n fs defined x (means.Mutex m) = m.0 < t.mutexes
  Means n fs defined x (means.Global g u) = (g.0 < length t.globals) × (is_some u ≡ true)
  Means n fs defined x (means.Array g u) = (g.0 < length t.globals) × (is_some u ≡ true)
  Means n fs defined x (means.Function i) = IfSome (slice_get fs i) (Takes_arguments defined x)
  Means n fs defined x (means.Local y u) = (y.0 < n) × (is_some u ≡ true)

  means_more : (n k : ℕ) (fs : List FunctionOf) (defined : List (List ℕ)) (x : List ℕ) (w : Meaning) → n ≤ k → Means n fs defined x w → Means k fs defined x w
  means_more n k fs defined x (means.Mutex m) le h = h
  means_more n k fs defined x (means.Global g u) le h = h
  means_more n k fs defined x (means.Array g u) le h = h
  means_more n k fs defined x (means.Function i) le h = h
  means_more n k fs defined x (means.Local y u) le h = (let lt = h.0 in omega arith, h.1)

  -- an expression and an act of a function with n locals stand here
  pub record Surrounds (n : ℕ) (k : Context) : Type 0 where
    pub names : (x : List ℕ) → IfSome (meaning k.scope x) (Means n k.functions k.defined x)
    pub fields : (i : StructId) (x : List ℕ) → IfSome (field_of k.scope i x) Typed_field

  reaches : (n : ℕ) (fs : List FunctionOf) (defined : List (List ℕ)) (x : List ℕ) (w : Meaning) → Means n fs defined x w → Reaches n (length t.globals) w
  reaches n fs defined x (means.Mutex m) h = tt
  reaches n fs defined x (means.Global g u) h = h.0
  reaches n fs defined x (means.Array g u) h = h.0
  reaches n fs defined x (means.Function i) h = tt
  reaches n fs defined x (means.Local y u) h = h.0

  has_type : (n : ℕ) (fs : List FunctionOf) (defined : List (List ℕ)) (x : List ℕ) (w : Meaning) → Means n fs defined x w → HasType w
  has_type n fs defined x (means.Mutex m) h = tt
  has_type n fs defined x (means.Global g u) h = h.1
  has_type n fs defined x (means.Array g u) h = h.1
  has_type n fs defined x (means.Function i) h = tt
  has_type n fs defined x (means.Local y u) h = h.1

  pub sees : (n : ℕ) (k : Context) → Surrounds n k → Sees n (length t.globals) k.scope
  sees n k h x = weaker (Means n k.functions k.defined x) (Reaches n (length t.globals)) (meaning k.scope x) (reaches n k.functions k.defined x) (h.names x)

  pub knows_types : (n : ℕ) (k : Context) → Surrounds n k → Knows_types k.scope
  knows_types n k h = record { names = λ x. weaker (Means n k.functions k.defined x) HasType (meaning k.scope x) (has_type n k.functions k.defined x) (h.names x); fields = h.fields }

  -- a place in a function: no local of its is a name outside of functions, and the locals are below the number so far
  pub record Fine (c : Inside) : Type 0 where
    pub globals : (x : List ℕ) → IfSome (find x c.context.scope.globals) (Means 0 c.context.functions c.context.defined x)
    pub locals : (x : List ℕ) → IfSome (find x c.context.scope.locals) (Means c.count c.context.functions c.context.defined x)
    pub fields : (i : StructId) (x : List ℕ) → IfSome (field_of c.context.scope i x) Typed_field

  pub surrounds : (n : ℕ) (c : Inside) → Fine c → c.count ≤ n → Surrounds n c.context
  surrounds n c h le = record {
    names = λ x.
        or_else_if (Means n c.context.functions c.context.defined x) (find x c.context.scope.locals) (find x c.context.scope.globals)
        (weaker (Means c.count c.context.functions c.context.defined x) _ (find x c.context.scope.locals) (λ w. means_more c.count n c.context.functions c.context.defined x w le) (h.locals x))
        (weaker (Means 0 c.context.functions c.context.defined x) _ (find x c.context.scope.globals) (λ w. means_more 0 n c.context.functions c.context.defined x w (omega arith)) (h.globals x));
    fields = h.fields;
  }

  -- more locals are counted
  pub fine_more : (c : Inside) (n : ℕ) → Fine c → c.count ≤ n → Fine (record c { count = n })
  fine_more c n h le = record {
    globals = h.globals;
    locals = λ x. weaker (Means c.count c.context.functions c.context.defined x) _ (find x c.context.scope.locals) (λ w. means_more c.count n c.context.functions c.context.defined x w le) (h.locals x);
    fields = h.fields;
  }

  pub fine_inner : (c : Inside) → Fine c → Fine (inner c)
  fine_inner c h = record { globals = h.globals; locals = h.locals; fields = h.fields }

  pub fine_left : (c d : Inside) → Fine c → c.count ≤ d.count → Fine (left c d)
  fine_left c d h le = fine_more c d.count h le
