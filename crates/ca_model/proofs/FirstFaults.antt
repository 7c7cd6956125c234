-- Faults in their order: some fault of a list is the first, and at most one is.
use Rattle.std.proofs.Common.{◌≡◌, ◌<◌, ◌≤◌, ◌⊎◌, inl, inr, ℕ, Bool, true, false, ◌&&◌, ◌||◌, ◌==◌, List, [], ◌∷◌, refl, ap, sym, ◌∙◌, subst, arith, ⊎_elim}
use Rattle.std.specs.Prelude.{nat_lt, Contains, if◌then◌else◌}
use Rattle.std.proofs.lemmas.Bool.{ltb-true}
use Rattle.ca_model.specs.declared.types.TypeKind.{TypeKind}
use Rattle.ca_model.specs.declared.types.TypeKind.TheVariants as kind
use Rattle.ca_model.specs.declared.types.TypeFault.{TypeFault}
use Rattle.ca_model.specs.typing.Faults.{rank, is_before, IsFirst}
use Rattle.ca_model.proofs.Members.{in_none, in_cons, at_head, at_tail}

-- pairs in lexicographic order: a number, then a test
abbrev below : ℕ → ℕ → Bool → Bool
below a b t = nat_lt a b || (a == b && t)

below_false : (a b : ℕ) (t : Bool) → below a b t ≡ false → (b < a) ⊎ ((a ≡ b) × (t ≡ false))
below_false a b t h = grind arith

false_below : (a b : ℕ) (t : Bool) → (b < a) ⊎ ((a ≡ b) × (t ≡ false)) → below a b t ≡ false
false_below a b t h = grind arith

through_below : (a b c : ℕ) (t u v : Bool) → (t ≡ false → u ≡ false → v ≡ false) → below a b t ≡ false → below b c u ≡ false → below a c v ≡ false
through_below a b c t u v next p q = false_below a c v
    (⊎_elim (λ l. ⊎_elim (λ m. inl (omega arith)) (λ m. inl (omega arith)) (below_false b c u q))
    (λ l. ⊎_elim (λ m. inl (omega arith)) (λ m. inr (omega arith, next l.1 m.1)) (below_false b c u q)) (below_false a b t p))

self_below : (a : ℕ) (t : Bool) → t ≡ false → below a a t ≡ false
self_below a t h = false_below a a t (inr (refl, h))

one_way_below : (a b : ℕ) (t u : Bool) → (t ≡ true → u ≡ false) → below a b t ≡ true → below b a u ≡ false
one_way_below a b t u next h = grind arith

same_below : (a b : ℕ) (t u : Bool) → below a b t ≡ false → below b a u ≡ false → (a ≡ b) × (t ≡ false) × (u ≡ false)
same_below a b t u p q = ⊎_elim (λ l. ⊎_elim (λ m. absurd (omega arith)) (λ m. absurd (omega arith)) (below_false b a u q))
    (λ l. ⊎_elim (λ m. absurd (omega arith)) (λ m. (l.0, l.1, m.1)) (below_false b a u q)) (below_false a b t p)

less_false : (a b : ℕ) → b ≤ a → nat_lt a b ≡ false
less_false a b h = grind arith

false_less : (a b : ℕ) → nat_lt a b ≡ false → b ≤ a
false_less a b h = grind arith

pub not_before_itself : (x : TypeFault) → is_before x x ≡ false
not_before_itself x = self_below x.pos.line _ (self_below x.pos.column _ (less_false (rank x.kind) (rank x.kind) (omega arith)))

-- what isn't before y, where y isn't before z, isn't before z
pub not_before_through : (x y z : TypeFault) → is_before x y ≡ false → is_before y z ≡ false → is_before x z ≡ false
not_before_through x y z = through_below x.pos.line y.pos.line z.pos.line _ _ _ (through_below x.pos.column y.pos.column z.pos.column _ _ _
    (λ p q. less_false (rank x.kind) (rank z.kind) (let a = false_less (rank x.kind) (rank y.kind) p in let b = false_less (rank y.kind) (rank z.kind) q in omega arith)))

pub before_one_way : (x y : TypeFault) → is_before x y ≡ true → is_before y x ≡ false
before_one_way x y = one_way_below x.pos.line y.pos.line _ _ (one_way_below x.pos.column y.pos.column _ _ (λ p. less_false (rank y.kind) (rank x.kind) (let a = ltb-true (rank x.kind) (rank y.kind) p in omega arith)))

-- kinds are told apart by their places in the order
abbrev kind_of : ℕ → TypeKind
kind_of n = if n == 0 then kind.Unknown else (if n == 1 then kind.Twice else (if n == 2 then kind.ThreadForm else (if n == 3 then kind.NotLvalue else (if n == 4 then kind.Directive else (if n == 5 then kind.Mismatch else (if n == 6 then kind.TooManyLocals else (if n == 7 then kind.TooManyCells else kind.NoMain)))))))

kind_back : (k : TypeKind) → kind_of (rank k) ≡ k
kind_back kind.Unknown = refl
kind_back kind.Twice = refl
kind_back kind.ThreadForm = refl
kind_back kind.NotLvalue = refl
kind_back kind.Directive = refl
kind_back kind.Mismatch = refl
kind_back kind.TooManyLocals = refl
kind_back kind.TooManyCells = refl
kind_back kind.NoMain = refl

one_kind : (j k : TypeKind) → rank j ≡ rank k → j ≡ k
one_kind j k same = sym (kind_back j) ∙ (ap kind_of same ∙ kind_back k)

abbrev made : ℕ → ℕ → TypeKind → TypeFault
made l c k = record { pos = record { line = l; column = c }; kind = k }

-- two faults of which none is before the other are one
pub neither_before : (x y : TypeFault) → is_before x y ≡ false → is_before y x ≡ false → x ≡ y
neither_before x y p q =
    let lines = same_below x.pos.line y.pos.line _ _ p q in
    let columns = same_below x.pos.column y.pos.column _ _ lines.1 lines.2 in
    let ranks : rank x.kind ≡ rank y.kind = let a = false_less (rank x.kind) (rank y.kind) columns.1 in let b = false_less (rank y.kind) (rank x.kind) columns.2 in omega arith in
    ap (λ l. made l x.pos.column x.kind) lines.0 ∙ (ap (λ c. made y.pos.line c x.kind) columns.0 ∙ ap (λ k. made y.pos.line y.pos.column k) (one_kind x.kind y.kind ranks))

pub one_first : (xs : List TypeFault) (x y : TypeFault) → IsFirst xs x → IsFirst xs y → x ≡ y
one_first xs x y a b = neither_before x y (b.least x a.is_one) (a.least y b.is_one)

-- with one more fault
sooner_first : (x r : TypeFault) (xs : List TypeFault) → IsFirst xs r → (b : Bool) → is_before x r ≡ b → (y : TypeFault) × IsFirst (x ∷ xs) y
sooner_first x r xs h true before = (
  x,
  record {
    is_one = at_head x xs;
    least = λ y at. elim (in_cons x xs y at) [
      | inl is ↦ subst (λ z. is_before z x ≡ false) is (not_before_itself x)
      | inr more ↦ not_before_through y r x (h.least y more) (before_one_way x r before)
    ];
  },
)
sooner_first x r xs h false later = (
  r,
  record {
    is_one = at_tail x xs r h.is_one;
    least = λ y at. elim (in_cons x xs y at) [ inl is ↦ subst (λ z. is_before z r ≡ false) is later | inr more ↦ h.least y more ];
  },
)

pub some_first : (xs : List TypeFault) → (xs ≡ []) ⊎ ((x : TypeFault) × IsFirst xs x)
some_first [] = inl refl
some_first (x ∷ xs) = inr (elim (some_first xs) [
  | inl none ↦ (
    x,
    record {
      is_one = at_head x xs;
      least = λ y at. elim (in_cons x xs y at) [
        | inl is ↦ subst (λ z. is_before z x ≡ false) is (not_before_itself x)
        | inr more ↦ absurd (in_none y (subst (λ zs. Contains zs y) none more))
      ];
    },
  )
  | inr (r, h) ↦ sooner_first x r xs h (is_before x r) refl
])

-- where some fault is the first, there are some
pub some_there : (xs : List TypeFault) (x : TypeFault) → xs ≡ [] → IsFirst xs x → ⊥
some_there xs x none first = in_none x (subst (λ zs. Contains zs x) none first.is_one)
