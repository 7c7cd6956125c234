-- What the code holds behind one more declaration is what is known behind it.
use Rattle.std.proofs.Common.{◌≡◌, ◌≤◌, ◌<◌, ◌*◌, ◌^◌, ◌+◌, ℕ, suc, drop, drop-cons, add-one, get_or, List, [], ◌∷◌, ◌++◌, length, Option, ap, sym, ◌∙◌, subst, arith}
use Rattle.ca_tree.specs.Counts.{Totals}
use Rattle.ca_tree.specs.TreeWords.{text_words}
use Rattle.ca_tree.specs.declared.tree.Globals.{Globals as GlobalsOf}
use Rattle.ca_tree.specs.declared.tree.Struct.{Struct}
use Rattle.ca_tree.specs.declared.tree.Function.{Function}
use Rattle.ca_tree.specs.declared.tree.Top.{Top}
use Rattle.ca_tree.specs.declared.tree.Top.TheVariants as top
use Rattle.ca_tree.specs.declared.tree.Program.{Program}
use Rattle.ca_tree.specs.ProgramTrees.{IsTop, a_struct, some_globals, a_function, AreTops, one_top, field_count}
use Rattle.ca_model.specs.declared.tree.Function.{Function as TypedFunction}
use Rattle.ca_model.specs.declared.types.TypeFault.{TypeFault}
use Rattle.ca_model.specs.typing.Known.{Known}
use Rattle.ca_model.specs.typing.Scopes.{Scope, Context, FunctionOf}
use Rattle.ca_model.specs.typing.Structs.{fields, with_tag, struct_faults, with_struct}
use Rattle.ca_model.specs.typing.Globals.{with_globals}
use Rattle.ca_model.specs.typing.Signatures.{function_faults, with_signature}
use Rattle.ca_model.specs.typing.Functions.{told_in, functions_of, with_function}
use Rattle.ca_model.specs.typing.Programs.{known, with_top}
use Rattle.ca_operands.specs.Noted.{noted}
use Rattle.ca_bodies.specs.Functions.{Functions, context}
use Rattle.ca_types.specs.declared.tops.Known.{Known as KnownOf}
use Rattle.ca_types.specs.declared.globals.Starts.{Starts}
use Rattle.ca_types.specs.Holds.{Holds}
use Rattle.ca_types.specs.Counts.{mutex_count, start_count}
use Rattle.ca_types.specs.Knows.{Knows, Counts, Goes, Onward}
use Rattle.ca_types.proofs.Holding.{more_faults, Keeps, globals_keep}
use Rattle.ca_types.proofs.Counted.{mutexes_have_room, globals_have_room}
use Rattle.ca_types.proofs.Counting.{top_counts}

abbrev with_first : Option TypeFault → Context → Function → Option TypeFault
with_first f c a = noted f (function_faults c a ++ (told_in (with_signature c a) a).faults)

abbrev with_typed : List TypedFunction → Context → Function → List TypedFunction
with_typed fs c a = fs ++ functions_of (length fs) (length a.parameters) (told_in (with_signature c a) a) a.body

module _ (x y : KnownOf) (k : Known) (h : Knows x k) where
  pub struct_known : (a : Struct) → y.functions ≡ x.functions → y.starts ≡ x.starts → y.mutexes ≡ x.mutexes → y.typed.items ≡ x.typed.items → y.scope ≡ with_tag x.scope a.name.text (fields (with_tag x.scope a.name.text []) a.fields)
      → y.faults.first ≡ noted x.faults.first (struct_faults x.scope a) → Knows y (with_struct k a)
  struct_known a functions starts mutexes typed scope told = record {
    holds = record {
      scope_is = scope ∙ ap (λ (s : Scope). with_tag s a.name.text (fields (with_tag s a.name.text []) a.fields)) h.holds.scope_is;
      starts_are = ap (λ (s : Starts). s.starts.items) starts ∙ h.holds.starts_are;
      cells_are = ap (λ (s : Starts). s.cells) starts ∙ h.holds.cells_are;
      mutexes_are = mutexes ∙ h.holds.mutexes_are;
      first_is = more_faults k x.faults.first y.faults.first (struct_faults k.context.scope a) h.holds.first_is (told ∙ ap (λ (s : Scope). noted x.faults.first (struct_faults s a)) h.holds.scope_is);
    };
    functions_are = functions ∙ h.functions_are;
    typed_are = typed ∙ h.typed_are;
    few_cells = subst (λ (s : Starts). s.cells ≤ length s.starts.items * 2 ^ 37) (sym starts) h.few_cells;
  }

  pub globals_known : (a : GlobalsOf) → y.functions ≡ x.functions → y.typed.items ≡ x.typed.items → Holds (with_globals k a) y.scope y.starts.starts.items y.starts.cells y.mutexes y.faults.first
      → y.starts.cells ≤ length y.starts.starts.items * 2 ^ 37 → Knows y (with_globals k a)
  globals_known a functions typed holds few =
      let keep : Keeps k (with_globals k a) = globals_keep k a in
      record {
        holds = holds;
        functions_are = functions ∙ h.functions_are
            ∙ sym (ap (λ (fs : List FunctionOf). record { functions = fs; defined = (with_globals k a).context.defined }) keep.declared ∙ ap (λ (d : List (List ℕ)). record { functions = k.context.functions; defined = d }) keep.defined);
        typed_are = typed ∙ h.typed_are ∙ sym keep.functions;
        few_cells = few;
      }

  pub function_known : (a : Function) → y.starts ≡ x.starts → y.mutexes ≡ x.mutexes → context y.scope y.functions ≡ with_signature (context x.scope x.functions) a → y.typed.items ≡ with_typed x.typed.items (context x.scope x.functions) a
      → y.faults.first ≡ with_first x.faults.first (context x.scope x.functions) a → Knows y (with_function k a)
  function_known a starts mutexes is typed told =
      let same : context x.scope x.functions ≡ k.context = ap (λ (s : Scope). context s x.functions) h.holds.scope_is ∙ ap (λ (fs : Functions). context k.context.scope fs) h.functions_are in
      let here : context y.scope y.functions ≡ with_signature k.context a = is ∙ ap (λ (c : Context). with_signature c a) same in
      record {
        holds = record {
          scope_is = ap (λ (c : Context). c.scope) here;
          starts_are = ap (λ (s : Starts). s.starts.items) starts ∙ h.holds.starts_are;
          cells_are = ap (λ (s : Starts). s.cells) starts ∙ h.holds.cells_are;
          mutexes_are = mutexes ∙ h.holds.mutexes_are;
          first_is = more_faults k x.faults.first y.faults.first (function_faults k.context a ++ (told_in (with_signature k.context a) a).faults) h.holds.first_is (told ∙ ap (λ (c : Context). with_first x.faults.first c a) same);
        };
        functions_are = ap (λ (c : Context). record { functions = c.functions; defined = c.defined }) here;
        typed_are = typed ∙ ap (λ (c : Context). with_typed x.typed.items c a) same ∙ ap (λ (fs : List TypedFunction). with_typed fs k.context a) h.typed_are;
        few_cells = subst (λ (s : Starts). s.cells ≤ length s.starts.items * 2 ^ 37) (sym starts) h.few_cells;
      }

-- ---- room for one more

module _ (n : Totals) (k : Known) (x : KnownOf) where
  pub room_for_a_struct : (a : Struct) → Goes n k x (top.Struct a) → (length x.scope.structs < 64) × (field_count a.fields ≤ 64)
  room_for_a_struct a g = by g.behind g.top
    where
      by : (m : Totals) → IsTop text_words n (top.Struct a) m → (length x.scope.structs < 64) × (field_count a.fields ≤ 64)
      by m (a_struct room is) = (let few = g.counts.structs in let same = ap (λ (s : Scope). length s.structs) g.knows.holds.scope_is in omega (arith, few, same, room), is.few)

  pub room_for_globals : (a : GlobalsOf) → Goes n k x (top.Globals a) → (x.mutexes + mutex_count a ≤ 64) × (length x.starts.starts.items + start_count a ≤ 1024)
  room_for_globals a g = by g.behind g.top
    where
      by : (m : Totals) → IsTop text_words n (top.Globals a) m → (x.mutexes + mutex_count a ≤ 64) × (length x.starts.starts.items + start_count a ≤ 1024)
      by m (some_globals are) = (
        let few = mutexes_have_room n m a are g.counts.few_mutexes in let same = g.knows.holds.mutexes_are in let count = g.counts.mutexes in omega (arith, few, same, count),
        let few = globals_have_room n m a are g.counts.few_globals in let same = ap (λ xs. length xs) g.knows.holds.starts_are in let count = g.counts.globals in omega (arith, few, same, count),
      )

  pub room_for_a_function : (a : Function) → Goes n k x (top.Function a) → (x.scope.locals ≡ []) × (length x.typed.items < 2 ^ 32) × (length a.parameters ≤ 16)
  room_for_a_function a g = by g.behind g.top
    where
      by : (m : Totals) → IsTop text_words n (top.Function a) m → (x.scope.locals ≡ []) × (length x.typed.items < 2 ^ 32) × (length a.parameters ≤ 16)
      by m (a_function is) = (
        ap (λ (s : Scope). s.locals) g.knows.holds.scope_is ∙ g.counts.outside,
        let few = g.counts.few_functions in let same = ap (λ (fs : List TypedFunction). length fs) g.knows.typed_are in let count = g.counts.functions in omega (arith, few, same, count),
        is.few,
      )

-- ---- on to the whole program

pub goes : (p : Program) (a : Top) (left : List Top) (x : KnownOf) → Onward p (a ∷ left) x → (n : Totals) × (k : Known) × Goes n k x a
goes p a left x on = by on.count on.last on.counts on.tops
  where
    by : (n m : Totals) → Counts n on.so_far → AreTops text_words n (a ∷ left) m → (n : Totals) × (k : Known) × Goes n k x a
    by n m counts (one_top {k = k} is more) = (n, on.so_far, record { behind = k; knows = on.knows; counts = counts; top = is })

pub next : (p : Program) (a : Top) (left : List Top) (x y : KnownOf) → (on : Onward p (a ∷ left) x) → Knows y (with_top on.so_far a) → Onward p left y
next p a left x y on knows = by on.count on.last on.counts on.tops
  where
    by : (n m : Totals) → Counts n on.so_far → AreTops text_words n (a ∷ left) m → Onward p left y
    by n m counts (one_top {k = k} is more) = record { so_far = with_top on.so_far a; count = k; last = m; knows = knows; counts = top_counts n k a is on.so_far counts; tops = more; leads_on = on.leads_on }

pub at_end : (p : Program) (x : KnownOf) → Onward p [] x → Knows x (known p)
at_end p x on = subst (λ (k : Known). Knows x k) on.leads_on on.knows

-- what is left from a place on begins with what stands there
pub left_from : {A : Type 0} (xs ys : List A) (i : ℕ) (x : A) → ys ≡ xs → i < length ys → x ≡ get_or ys i x → drop i xs ≡ x ∷ drop (i + 1) xs
left_from {A = A} xs ys i x same lt is =
    ap (drop i) (sym same) ∙ drop-cons ys i x lt ∙ ap (λ y. y ∷ drop (suc i) ys) (sym is) ∙ ap (λ (k : ℕ). x ∷ drop k ys) (sym (add-one i)) ∙ ap (λ (zs : List A). x ∷ drop (i + 1) zs) same
