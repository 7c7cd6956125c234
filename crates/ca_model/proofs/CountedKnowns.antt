-- What is known behind declarations, counted: as many things as the tree counts, in the order of the text, and within the limits where nothing is wrong.
use Rattle.std.proofs.Common.{◌≡◌, ◌≤◌, ℕ, suc, ◌+◌, Bool, true, false, List, [], ◌∷◌, ◌++◌, map, length, refl, sym, ap, ◌∙◌, subst, inl, inr, arith, append_assoc, append-nil, length-append}
use Rattle.std.specs.Prelude.{Contains, sum_by, nat_le, nat_lt, if◌then◌else◌}
use Rattle.std.proofs.lemmas.Bool.{and_parts, or_cases, leb-true, ltb-true, le-leb}
use Rattle.std.proofs.lemmas.List.Sums.{sum_by-append}
use Rattle.std.proofs.lemmas.List.Elements.{Contains-append_cases}
use Rattle.ca_tree.specs.Counts.{Totals, one_more_global, one_more_mutex, one_more_struct, one_more_function}
use Rattle.ca_model.specs.declared.values.Value.{Value}
use Rattle.ca_model.specs.declared.tree.Act.TheVariants as act
use Rattle.ca_model.specs.declared.tree.Function.{Function}
use Rattle.ca_model.specs.declared.tree.GlobalStart.{GlobalStart}
use Rattle.ca_model.specs.declared.types.TypeFault.{TypeFault}
use Rattle.ca_model.specs.Codes.{Typed}
use Rattle.ca_model.specs.Sites.{items_of, all_items}
use Rattle.ca_model.specs.WellFormed.{all_placed, is_placed}
use Rattle.ca_model.specs.typing.Faults.{unless}
use Rattle.ca_model.specs.typing.Globals.{most_cells, cells_allowed, start_of}
use Rattle.ca_model.specs.typing.Known.{Known}
use Rattle.ca_model.proofs.NoFaults.{none_left, none_right, held_by_none}
use Rattle.ca_model.proofs.Members.{in_one}
use Rattle.ca_model.proofs.NumberedLists.{Ascends, just_one, and_more, how_many}
use Rattle.ca_model.proofs.PlacedItems.{item_number, Numbered, KnowsEach}

abbrev pub function_number : Function → ℕ
function_number f = f.id.0

-- a function that ends with its closing brace, and whose acts stand where they may
pub record IsInOrder (f : Function) : Type 0 where
  pub closed : f.close.act ≡ act.Close
  pub placed : (p : Typed) → KnowsEach p (items_of f) → all_placed (map (is_placed p) f.body) false ≡ true

abbrev pub HasFewLocals : Function → Type 0
HasFewLocals f = (f.parameters ≤ 16) × (f.parameters ≤ f.locals) × (f.locals ≤ 128)

abbrev pub all_cells : List GlobalStart → ℕ
all_cells gs = sum_by (λ (g : GlobalStart). g.cells) gs

-- totals within the limits
pub record AreFew (n : Totals) : Type 0 where
  pub items : n.items ≤ 65536
  pub functions : n.functions ≤ 256
  pub globals : n.globals ≤ 1024
  pub mutexes : n.mutexes ≤ 64

-- where nothing is wrong, nothing was wrong at the start either
pub record IsSound (at_start : List TypeFault) (gs : List GlobalStart) (size : ℕ) (fs : List Function) : Type 0 where
  pub start : at_start ≡ []
  pub cells : all_cells gs ≡ size
  pub few_cells : size ≤ 65536
  pub locals : (f : Function) → Contains fs f → HasFewLocals f

-- globals, mutexes, functions and faults that are known where so many things are counted
pub record Counts (start : List TypeFault) (n : Totals) (gs : List GlobalStart) (size locks : ℕ) (fs : List Function) (faults : List TypeFault) : Type 0 where
  pub items : Ascends item_number 1 (all_items fs) (suc n.items)
  pub functions : Ascends function_number 0 fs n.functions
  pub globals : length gs ≡ n.globals
  pub mutexes : locks ≡ n.mutexes
  pub few : AreFew n
  pub each : (f : Function) → Contains fs f → IsInOrder f
  pub sound : faults ≡ [] → IsSound start gs size fs

abbrev pub Counted : List TypeFault → Totals → Known → Type 0
Counted start n k = Counts start n k.starts k.cells k.mutexes k.functions k.faults

module _ {start : List TypeFault} {n : Totals} {starts : List GlobalStart} {cells mutexes : ℕ} {functions : List Function} {faults : List TypeFault} (h : Counts start n starts cells mutexes functions faults) where
  -- more faults
  pub and_faults : (more : List TypeFault) → Counts start n starts cells mutexes functions (faults ++ more)
  and_faults more = record {
    items = h.items;
    functions = h.functions;
    globals = h.globals;
    mutexes = h.mutexes;
    few = h.few;
    each = h.each;
    sound = λ none. h.sound (none_left faults more none);
  }

  pub and_struct : (more : List TypeFault) → Counts start (one_more_struct n) starts cells mutexes functions (faults ++ more)
  and_struct more = record {
    items = h.items;
    functions = h.functions;
    globals = h.globals;
    mutexes = h.mutexes;
    few = record { items = h.few.items; functions = h.few.functions; globals = h.few.globals; mutexes = h.few.mutexes };
    each = h.each;
    sound = λ none. h.sound (none_left faults more none);
  }

  pub and_mutex : suc n.mutexes ≤ 64 → (more : List TypeFault) → Counts start (one_more_mutex n) starts cells (mutexes + 1) functions (faults ++ more)
  and_mutex room more = record {
    items = h.items;
    functions = h.functions;
    globals = h.globals;
    mutexes = omega (arith, h.mutexes);
    few = record { items = h.few.items; functions = h.few.functions; globals = h.few.globals; mutexes = room };
    each = h.each;
    sound = λ none. h.sound (none_left faults more none);
  }

-- ---- globals

allowed_within : (before n : ℕ) → before ≤ 65536 → cells_allowed before n ≡ true → before + n ≤ 65536
allowed_within before n h allowed = elim (or_cases (nat_le (before + n) most_cells) (nat_lt most_cells before) (and_parts (nat_lt 0 n) _ allowed).1) [
  | inl le ↦ leb-true (before + n) 65536 le
  | inr lt ↦ absurd (let over = ltb-true 65536 before lt in omega arith)
]

kept_if : (b : Bool) (n : ℕ) → b ≡ true → (if b then n else 0) ≡ n
kept_if true n h = refl
kept_if false n h = absurd cc

start_cells : (n : ℕ) (v : Value) → n ≤ 65536 → all_cells (start_of n v ∷ []) ≡ n
start_cells n v h = let is : (start_of n v).cells ≡ n = kept_if (nat_le n most_cells) n (le-leb n 65536 h) in omega arith

pub and_global : {start : List TypeFault} {n : Totals} {starts : List GlobalStart} {cells mutexes : ℕ} {functions : List Function} {faults : List TypeFault}
    → Counts start n starts cells mutexes functions faults → suc n.globals ≤ 1024 → (size : ℕ) (v : Value) (name : List TypeFault) (x : TypeFault) (more : List TypeFault)
    → Counts start (one_more_global n) (starts ++ start_of size v ∷ []) (cells + size) mutexes functions (faults ++ (name ++ unless (cells_allowed cells size) x ++ more))
and_global {starts = starts} {cells = cells} {faults = faults} h room size v name x more = record {
  items = h.items;
  functions = h.functions;
  globals = omega (arith, h.globals, length-append starts (start_of size v ∷ []));
  mutexes = h.mutexes;
  few = record { items = h.few.items; functions = h.few.functions; globals = room; mutexes = h.few.mutexes };
  each = h.each;
  sound = λ none.
      let before = h.sound (none_left faults _ none) in
      let here : name ++ unless (cells_allowed cells size) x ≡ [] = none_left (name ++ unless (cells_allowed cells size) x) more (none_right faults _ none) in
      let within : cells + size ≤ 65536 = allowed_within cells size before.few_cells (held_by_none (cells_allowed cells size) x (none_right name _ here)) in
      let more_cells : all_cells (start_of size v ∷ []) ≡ size = start_cells size v (omega arith) in
      record {
        start = before.start;
        cells = omega (arith, before.cells, more_cells, sum_by-append (λ (g : GlobalStart). g.cells) starts (start_of size v ∷ []));
        few_cells = within;
        locals = before.locals;
      };
}

-- ---- functions

all_items_append : (fs gs : List Function) → all_items (fs ++ gs) ≡ all_items fs ++ all_items gs
all_items_append [] gs = refl
all_items_append (f ∷ fs) gs = ap (λ is. items_of f ++ is) (all_items_append fs gs) ∙ sym (append_assoc (items_of f) (all_items fs) (all_items gs))

pub and_function : {start : List TypeFault} {n : Totals} {starts : List GlobalStart} {cells mutexes : ℕ} {functions : List Function} {faults : List TypeFault}
    → Counts start n starts cells mutexes functions faults → {m : ℕ} (f : Function) → f.id.0 ≡ length functions → Numbered n.items (items_of f) m → suc n.functions ≤ 256 → m ≤ 65536 → IsInOrder f
    → (more : List TypeFault) → (more ≡ [] → HasFewLocals f) → Counts start (one_more_function n m) starts cells mutexes (functions ++ f ∷ []) (faults ++ more)
and_function {n = n} {functions = functions} {faults = faults} h {m} f id items room few in_order more locals =
    let all : all_items (functions ++ f ∷ []) ≡ all_items functions ++ items_of f = all_items_append functions (f ∷ []) ∙ ap (λ is. all_items functions ++ is) (append-nil (items_of f)) in
    let number : f.id.0 ≡ n.functions = omega (arith, id, how_many h.functions) in
    record {
      items = subst (λ is. Ascends item_number 1 is (suc m)) (sym all) (and_more h.items items);
      functions = and_more h.functions (just_one f number);
      globals = h.globals;
      mutexes = h.mutexes;
      few = record { items = few; functions = room; globals = h.few.globals; mutexes = h.few.mutexes };
      each = λ g c. elim (Contains-append_cases functions (f ∷ []) g c) [ inl before ↦ h.each g before | inr here ↦ subst IsInOrder (in_one f g here) in_order ];
      sound = λ none.
          let before = h.sound (none_left faults more none) in
          record {
            start = before.start;
            cells = before.cells;
            few_cells = before.few_cells;
            locals = λ g c. elim (Contains-append_cases functions (f ∷ []) g c) [
              | inl earlier ↦ before.locals g earlier
              | inr here ↦ subst HasFewLocals (in_one f g here) (locals (none_right faults more none))
            ];
          };
    }
