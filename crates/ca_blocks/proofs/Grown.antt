-- Places in a function that follow one another.
use Rattle.std.proofs.Common.{◌≡◌, ◌≤◌, ◌-◌, ◌+◌, ℕ, Bool, true, false, List, [], ◌∷◌, ◌++◌, drop, length, Option, refl, ap, sym, subst, ◌∙◌, append_assoc, arith, length-append}
use Rattle.std.specs.Prelude.{nat_lt, if◌then◌else◌}
use Rattle.std.proofs.Math.Seq.{drop-append_seam}
use Rattle.ca_tree.specs.declared.tree.Name.{Name}
use Rattle.ca_model.specs.declared.types.ObjectType.{ObjectType}
use Rattle.ca_model.specs.declared.types.Meaning.{Meaning}
use Rattle.ca_model.specs.declared.types.Meaning.TheVariants as means
use Rattle.ca_model.specs.typing.Bodies.{Inside, inner, left}
use Rattle.ca_model.specs.typing.Locals.{with_locals, most_locals, declared}
use Rattle.ca_blocks.specs.Shown.{GrewTo}

pub grew_not : (c : Inside) → GrewTo c c
grew_not c = record { more = []; is = refl }

pub grew_left : (c d e : Inside) → d ≡ left c e → GrewTo c d
grew_left c d e is = subst (GrewTo c) (sym is) (record { more = []; is = refl })

pub grew_through : (c d e : Inside) → GrewTo c d → GrewTo d e → GrewTo c e
grew_through c d e g h = record {
  more = h.more ++ g.more;
  is = h.is ∙ ap (λ (d : Inside). record (with_locals d (h.more ++ d.context.scope.locals) e.count) { outer = e.outer }) g.is
      ∙ ap (λ (xs : List (List ℕ × Meaning)). record (with_locals c xs e.count) { outer = e.outer }) (sym (append_assoc h.more g.more c.context.scope.locals));
}

-- a block that is entered
pub block_grew : (c e d : Inside) → e ≡ inner c → GrewTo e d → GrewTo c d
block_grew c e d is g = let h : GrewTo (inner c) d = subst (λ (e : Inside). GrewTo e d) is g in record { more = h.more; is = h.is }

-- a local that is declared
pub declared_grew : (c : Inside) (n : Name) (t : Option ObjectType) → GrewTo c (declared c n t)
declared_grew c n t = by (nat_lt c.count most_locals)
  where
    by : (b : Bool) → GrewTo c (if b then with_locals c ((n.text, means.Local (record { 0 = c.count }) t) ∷ c.context.scope.locals) (c.count + 1) else c)
    by true = record { more = (n.text, means.Local (record { 0 = c.count }) t) ∷ []; is = refl }
    by false = grew_not c

-- the locals that were visible still are
pub as_many : (c d : Inside) → GrewTo c d → length c.context.scope.locals ≤ length d.context.scope.locals
as_many c d g =
    let n : length d.context.scope.locals ≡ length g.more + length c.context.scope.locals = ap (λ (d : Inside). length d.context.scope.locals) g.is ∙ length-append g.more c.context.scope.locals in
    omega arith

pub entered : (c e d : Inside) (was : ℕ × ℕ) → e ≡ inner c → was ≡ (length c.context.scope.locals, c.outer) → GrewTo e d → was.0 ≤ length d.context.scope.locals
entered c e d was is at g =
    let n : was.0 ≡ length c.context.scope.locals = ap (λ (w : ℕ × ℕ). w.0) at in
    let m = as_many c d (block_grew c e d is g) in omega arith

pub placed : (c d : Inside) (was : ℕ × ℕ) → was ≡ (length c.context.scope.locals, c.outer) → GrewTo c d → was.0 ≤ length d.context.scope.locals
placed c d was at g =
    let n : was.0 ≡ length c.context.scope.locals = ap (λ (w : ℕ × ℕ). w.0) at in
    let m = as_many c d g in omega arith
