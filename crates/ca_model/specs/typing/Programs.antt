-- Programs: their declarations in order, and `main` (C11 5.1.2.2.1, 6.9).
use Rattle.std.specs.Prelude.{Bool, true, false, ◌&&◌, ◌==◌, is_some, List, [], ◌∷◌, map, if◌then◌else◌}
use Rattle.std.specs.Str.{bytes_eq}
use Rattle.std.specs.List.{list_any}
use Rattle.ca_tree.specs.declared.text.Pos.{Pos}
use Rattle.ca_tree.specs.declared.tree.Base.{Base}
use Rattle.ca_tree.specs.declared.tree.Base.TheVariants as base
use Rattle.ca_tree.specs.declared.tree.ResultType.{ResultType}
use Rattle.ca_tree.specs.declared.tree.ResultType.TheVariants as result
use Rattle.ca_tree.specs.declared.tree.Function.{Function}
use Rattle.ca_tree.specs.declared.tree.Top.{Top}
use Rattle.ca_tree.specs.declared.tree.Top.TheVariants as top
use Rattle.ca_tree.specs.declared.tree.Program.{Program}
use Rattle.ca_model.specs.declared.types.TypeFault.{TypeFault}
use Rattle.ca_model.specs.declared.types.TypeKind.TheVariants as wrong
use Rattle.ca_model.specs.typing.Faults.{fault, unless}
use Rattle.ca_model.specs.typing.Calls.{main_name}
use Rattle.ca_model.specs.typing.Known.{Known, with_each}
use Rattle.ca_model.specs.typing.Structs.{with_struct}
use Rattle.ca_model.specs.typing.Globals.{with_globals}
use Rattle.ca_model.specs.typing.Functions.{with_function}

abbrev pub with_top : Known → Top → Known
with_top k (top.Struct a) = with_struct k a
with_top k (top.Globals a) = with_globals k a
with_top k (top.Function f) = with_function k f

-- the functions that a program defines, in order
abbrev pub definitions : List Top → List Function
definitions [] = []
definitions (top.Function f ∷ more) = if is_some f.body then f ∷ definitions more else definitions more
definitions (t ∷ more) = definitions more

-- `int main(void)` (C11 5.1.2.2.1)
abbrev pub is_int_base : Base → Bool
is_int_base base.Int = true
is_int_base b = false

abbrev pub has_int : ResultType → Bool
has_int (result.Value t) = is_int_base t.base && t.stars == 0
has_int r = false

abbrev pub is_empty : {A : Type 0} → List A → Bool
is_empty [] = true
is_empty (x ∷ xs) = false

abbrev pub is_main : Function → Bool
is_main f = bytes_eq f.name.text main_name && (has_int f.result && is_empty f.parameters)

abbrev pub first_place : Pos
first_place = record { line = 1; column = 1 }

abbrev pub main_faults : Program → List TypeFault
main_faults p = unless (list_any is_main (definitions p.tops)) (fault first_place wrong.NoMain)

abbrev pub at_start : Program → Known
at_start p = record {
  context = record { scope = record { structs = []; globals = []; locals = [] }; functions = []; defined = map (λ f. f.name.text) (definitions p.tops) };
  starts = [];
  cells = 0;
  mutexes = 0;
  functions = [];
  faults = main_faults p;
}

abbrev pub known : Program → Known
known p = with_each with_top (at_start p) p.tops
