-- A source with a loop whose condition reads through an index that the loop writes.
--
--     int a[2]; int n;
--     int main(void) { int i = 0; while (i < a[n]) { i = i + 1; n = i; } return 0; }
use Rattle.std.specs.Prelude.{pos, [], ◌∷◌, Some, None, true, false}
use Rattle.ca_tree.specs.declared.numbers.FunId.{FunId}
use Rattle.ca_tree.specs.declared.numbers.VarId.{VarId}
use Rattle.ca_model.specs.declared.tree.BinOp.TheVariants as op
use Rattle.ca_model.specs.declared.tree.LoadKind.TheVariants as kind
use Rattle.ca_model.specs.declared.tree.Exp.{Exp}
use Rattle.ca_model.specs.declared.tree.Exp.TheVariants as e
use Rattle.ca_model.specs.declared.tree.Place.{Place, roll-Place}
use Rattle.ca_model.specs.declared.tree.Target.TheVariants as target
use Rattle.ca_model.specs.declared.tree.Act.TheVariants as act
use Rattle.ca_model.specs.declared.tree.Item.{Item}
use Rattle.ca_model.specs.declared.tree.Stmt.{Stmt}
use Rattle.ca_model.specs.declared.tree.Stmt.TheVariants as s
use Rattle.ca_model.specs.declared.tree.Function.{Function}
use Rattle.ca_model.specs.Arith.{null}
use Rattle.ca_model.specs.Codes.{Typed}
use Rattle.ca_model.specs.Accesses.{A_load, Named_load, Site}
use Rattle.ca_examples.specs.Items.{item}

abbrev pub main : FunId
main = record { 0 = 0 }

abbrev pub i : VarId
i = record { 0 = 0 }

-- the place `n`, and the place `a[n]`
abbrev pub bound : Place
bound = roll-Place (record { base = e.Global (record { 0 = 1 }); index = None; field = 0; through = false })

abbrev pub element : Place
element = roll-Place (record { base = e.Global (record { 0 = 0 }); index = Some (e.Load bound kind.Int, 1); field = 0; through = true })

abbrev pub is_below : Exp
is_below = e.Binary op.Less (e.Local i) (e.Load element kind.Int)

abbrev pub one_more : Exp
one_more = e.Binary op.Add (e.Local i) (e.Num (pos 1))

abbrev pub begins : Item
begins = item 1 (act.Set (target.Local i) (e.Num (pos 0)))

abbrev pub tests : Item
tests = item 2 (act.Cond is_below)

abbrev pub counts : Item
counts = item 3 (act.Set (target.Local i) one_more)

abbrev pub writes : Item
writes = item 4 (act.Set (target.Place bound) (e.Local i))

abbrev pub gives_zero : Item
gives_zero = item 5 (act.Return (Some (e.Num (pos 0))))

abbrev pub closes : Item
closes = item 6 act.Close

abbrev pub body : Stmt
body = s.Block (s.Item counts ∷ s.Item writes ∷ [])

abbrev pub main_function : Function
main_function = record { id = main; parameters = 0; locals = 1; body = s.Item begins ∷ s.While tests body ∷ s.Item gives_zero ∷ []; close = closes }

abbrev pub program : Typed
program = record {
  functions = main_function ∷ [];
  main = main;
  globals = record { cells = 2; first = null } ∷ record { cells = 1; first = null } ∷ [];
  mutexes = 0;
}

-- the load of `a[n]`, which is done after the load of `n`
abbrev pub site : Site
site = record { item = tests; kind = A_load; earlier = Named_load ∷ [] }
