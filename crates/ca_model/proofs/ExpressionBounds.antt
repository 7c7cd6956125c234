-- What a typed expression keeps within bounds, by what its parts do: the locals that it reads, the globals that it names, and its depth.
use Rattle.std.proofs.Common.{◌≡◌, ◌≤◌, ◌<◌, ℕ, ◌+◌, max, Bool, true, None, arith, refl, ap, sym, ◌∙◌, subst}
use Rattle.std.specs.Prelude.{ℤ, ◌&&◌}
use Rattle.std.proofs.lemmas.Bool.{and_from, lt-ltb, ltb-true}
use Rattle.ca_tree.specs.declared.numbers.GlobalId.{GlobalId}
use Rattle.ca_tree.specs.declared.numbers.VarId.{VarId}
use Rattle.ca_model.specs.declared.tree.BinOp.{BinOp}
use Rattle.ca_model.specs.declared.tree.LoadKind.{LoadKind}
use Rattle.ca_model.specs.declared.tree.Exp.{Exp, out-Exp, map-Exp, fold_out-Exp}
use Rattle.ca_model.specs.declared.tree.Exp.TheOpen.{Exp-F}
use Rattle.ca_model.specs.declared.tree.Exp.TheVariants as e
use Rattle.ca_model.specs.declared.tree.Place.{Place, fold-Place, fold_out-Place, fold-roll-Place}
use Rattle.ca_model.specs.KnownGlobals.{exp_within, place_within, within, within_place}
use Rattle.ca_model.specs.Bounds.{exp_among, place_among, among, exp_depth, place_depth, depth}
use Rattle.ca_model.specs.typing.Places.{element, field_at}

-- it reads only locals below n, names only globals below m, and is at most d deep
pub record Fits (n m d : ℕ) (a : Exp) : Type 0 where
  pub locals : among n a ≡ true
  pub globals : within m a ≡ true
  pub deep : depth a ≤ d

abbrev pub among_place : ℕ → Place → Bool
among_place n = fold-Place Bool Bool (exp_among n) place_among

abbrev pub place_deep : Place → ℕ
place_deep = fold-Place ℕ ℕ exp_depth place_depth

-- and so of a place
pub record FitsPlace (n m d : ℕ) (p : Place) : Type 0 where
  pub locals : among_place n p ≡ true
  pub globals : within_place m p ≡ true
  pub deep : place_deep p ≤ d

module _ (n m : ℕ) where
  abbrev among_level : Exp-F Exp Place → Bool
  among_level l = exp_among n (map-Exp Exp Place Bool Bool (among n) (among_place n) l)

  abbrev within_level : Exp-F Exp Place → Bool
  within_level l = exp_within m (map-Exp Exp Place Bool Bool (within m) (within_place m) l)

  abbrev depth_level : Exp-F Exp Place → ℕ
  depth_level l = exp_depth (map-Exp Exp Place ℕ ℕ depth place_deep l)

  fits_out : (d : ℕ) (x : Exp) (l : Exp-F Exp Place) → out-Exp x ≡ l → among_level l ≡ true → within_level l ≡ true → depth_level l ≤ d → Fits n m d x
  fits_out d x l is a w k = record {
    locals = fold_out-Exp Bool Bool (exp_among n) place_among x ∙ ap among_level is ∙ a;
    globals = fold_out-Exp Bool Bool (exp_within m) place_within x ∙ ap within_level is ∙ w;
    deep = subst (λ k. k ≤ d) (sym (fold_out-Exp ℕ ℕ exp_depth place_depth x ∙ ap depth_level is)) k;
  }

  pub deeper : (c d : ℕ) (a : Exp) → c ≤ d → Fits n m c a → Fits n m d a
  deeper c d a le h = record { locals = h.locals; globals = h.globals; deep = let k = h.deep in omega arith }

  pub fits_num : (d : ℕ) (k : ℤ) → 1 ≤ d → Fits n m d (e.Num k)
  fits_num d k le = fits_out d (e.Num k) _ (e.outs-Num k) refl refl le

  pub fits_null : (d : ℕ) → 1 ≤ d → Fits n m d e.Null
  fits_null d le = fits_out d e.Null _ e.outs-Null refl refl le

  pub fits_local : (d : ℕ) (x : VarId) → 1 ≤ d → x.0 < n → Fits n m d (e.Local x)
  fits_local d x le h = fits_out d (e.Local x) _ (e.outs-Local x) (lt-ltb x.0 n h) refl le

  pub fits_global : (d : ℕ) (g : GlobalId) → 1 ≤ d → g.0 < m → Fits n m d (e.Global g)
  fits_global d g le h = fits_out d (e.Global g) _ (e.outs-Global g) refl (lt-ltb g.0 m h) le

  pub fits_load : (d : ℕ) (p : Place) (k : LoadKind) → FitsPlace n m d p → Fits n m d (e.Load p k)
  fits_load d p k h = fits_out d (e.Load p k) _ (e.outs-Load p k) h.locals h.globals h.deep

  pub fits_address : (d : ℕ) (p : Place) → FitsPlace n m d p → Fits n m d (e.AddressOf p)
  fits_address d p h = fits_out d (e.AddressOf p) _ (e.outs-AddressOf p) h.locals h.globals h.deep

  pub fits_negate : (d : ℕ) (a : Exp) → Fits n m d a → Fits n m (d + 1) (e.Negate a)
  fits_negate d a h = fits_out (d + 1) (e.Negate a) _ (e.outs-Negate a) h.locals h.globals (let k = h.deep in omega arith)

  pub fits_not : (d : ℕ) (a : Exp) → Fits n m d a → Fits n m (d + 1) (e.Not a)
  fits_not d a h = fits_out (d + 1) (e.Not a) _ (e.outs-Not a) h.locals h.globals (let k = h.deep in omega arith)

  module _ (c d : ℕ) (a b : Exp) (h : Fits n m c a) (i : Fits n m d b) where
    reads : (among n a && among n b) ≡ true
    reads = and_from (among n a) (among n b) h.locals i.locals

    names : (within m a && within m b) ≡ true
    names = and_from (within m a) (within m b) h.globals i.globals

    under : max (depth a) (depth b) + 1 ≤ max c d + 1
    under = let j = h.deep in let k = i.deep in omega arith

    pub fits_binary : (o : BinOp) → Fits n m (max c d + 1) (e.Binary o a b)
    fits_binary o = fits_out _ (e.Binary o a b) _ (e.outs-Binary o a b) reads names under

    pub fits_and : Fits n m (max c d + 1) (e.And a b)
    fits_and = fits_out _ (e.And a b) _ (e.outs-And a b) reads names under

    pub fits_or : Fits n m (max c d + 1) (e.Or a b)
    fits_or = fits_out _ (e.Or a b) _ (e.outs-Or a b) reads names under

    pub fits_element : (k : ℕ) → FitsPlace n m (max c d + 1) (element a b k)
    fits_element k = record {
      locals = fold-roll-Place Bool Bool (exp_among n) place_among _ ∙ reads;
      globals = fold-roll-Place Bool Bool (exp_within m) place_within _ ∙ names;
      deep = subst (λ k. k ≤ max c d + 1) (sym (fold-roll-Place ℕ ℕ exp_depth place_depth _)) under;
    }

  -- a place without an index
  pub fits_plain : (d : ℕ) (a : Exp) (t : Bool) → Fits n m d a → FitsPlace n m d (record { base = a; index = None; field = 0; through = t })
  fits_plain d a t h = record {
    locals = fold-roll-Place Bool Bool (exp_among n) place_among _ ∙ and_from (among n a) true h.locals refl;
    globals = fold-roll-Place Bool Bool (exp_within m) place_within _ ∙ and_from (within m a) true h.globals refl;
    deep = subst (λ k. k ≤ d) (sym (fold-roll-Place ℕ ℕ exp_depth place_depth _)) h.deep;
  }

  pub fits_field : (d : ℕ) (p : Place) (k : ℕ) → FitsPlace n m d p → FitsPlace n m d (field_at p k)
  fits_field d p k h = record {
    locals = fold_out-Place Bool Bool (exp_among n) place_among (field_at p k) ∙ sym (fold_out-Place Bool Bool (exp_among n) place_among p) ∙ h.locals;
    globals = fold_out-Place Bool Bool (exp_within m) place_within (field_at p k) ∙ sym (fold_out-Place Bool Bool (exp_within m) place_within p) ∙ h.globals;
    deep = subst (λ k. k ≤ d) (sym (fold_out-Place ℕ ℕ exp_depth place_depth (field_at p k) ∙ sym (fold_out-Place ℕ ℕ exp_depth place_depth p))) h.deep;
  }

  -- the local that an expression is
  pub local_below : (d : ℕ) (x : VarId) → Fits n m d (e.Local x) → x.0 < n
  local_below d x h = ltb-true x.0 n (sym (fold_out-Exp Bool Bool (exp_among n) place_among (e.Local x) ∙ ap among_level (e.outs-Local x)) ∙ h.locals)
