-- What all the steps of a plan have in common: what they count stands in order, and only an end is wanted at the end.
use Rattle.std.proofs.Common.{◌≡◌, ◌⊎◌, inl, inr, ℕ, ℤ, zero, suc, ◌<◌, ◌≤◌, ◌+◌, Bool, true, false, List, [], ◌∷◌, ◌++◌, All, length, Option, Some, None, arith, lit<, refl}
use Rattle.std.proofs.lemmas.Bool.{le-leb}
use Rattle.std.proofs.lemmas.List.Elements.{All-nil, All-cons, All-head, All-tail, All-append}
use Rattle.ca_tree.specs.declared.text.Pos.{Pos}
use Rattle.ca_tree.specs.declared.tree.Name.{Name}
use Rattle.ca_tree.specs.declared.tree.Base.{Base}
use Rattle.ca_tree.specs.declared.tree.Base.TheVariants as base
use Rattle.ca_tree.specs.declared.tree.«Type».{«Type» as CType}
use Rattle.ca_tree.specs.declared.tree.Exp.{Exp}
use Rattle.ca_tree.specs.declared.tree.ItemAt.{ItemAt}
use Rattle.ca_tree.specs.declared.tree.Library.{Library}
use Rattle.ca_tree.specs.declared.tree.Library.TheVariants as library
use Rattle.ca_tree.specs.declared.tree.Top.{Top}
use Rattle.ca_grammar.specs.declared.faults.Count.{Count}
use Rattle.ca_tree.specs.declared.counted.Counted.TheVariants.{Items, Nesting, Globals, Functions, Parameters as Parameter_count, Mutexes as Mutex_count, Structs, Fields, Arguments, StringBytes}
use Rattle.ca_tree.specs.Counts.{Totals}
use Rattle.ca_tree.specs.StatementTrees.{Branch}
use Rattle.ca_grammar.specs.Words.{Class, A_string, A_name, A_name_of_the_source, A_binary_operator, The_end, Of}
use Rattle.ca_grammar.specs.Limits.{Limit, order, Firm, within, the_limits}
use Rattle.ca_grammar.specs.Expressions.{name}
use Rattle.ca_grammar.specs.Plan.{Plan, give, take, want, call, deep, no_counts, these, and_name, bytes_of_name, counted}
use Rattle.ca_grammar.specs.ExpressionPlans.{one_more}
use Rattle.ca_grammar.specs.PhrasePlans.{behind_star, behind_sizeof, behind_cast, behind_open, behind_lock, behind_one, behind_join, behind_create, behind_print, on_target_or_call}
use Rattle.ca_grammar.specs.StatementPlans.{an_item, nested, nested_item, at_close, if_closed, in_loops}
use Rattle.ca_grammar.specs.DeclarationPlans.{behind_mutex, a_global, behind_thread, a_parameter, behind_top}
use Rattle.ca_grammar.specs.Goals.{Goal, Primary, Postfixes, Postfix, Level, Operators, Behind, From, Unary, Nameless_unary, Expression, Whole, Stars, Starred_name, Base_at, Type_name, Arguments_behind, More_arguments, Print_arguments, Behind_malloc, A_right, Initializer, Behind_target, Simple_at, First_declarator, More_declarators, More_threads, Threads_at, Variables_at, Local_at, Statements, A_statement, Braceless, A_body, Condition, Else_part, For_first, For_condition, For_step, Field_declarators, A_field, More_fields, Mutexes, Threads, A_constant, Behind_global, More_globals, Next_global, Behind_type, More_parameters, Next_parameter, Parameters, Body_of, Function_of, Behind_paren, Behind_base, Behind_void, Qualified, Behind_tag, A_top, Tops, A_program, Tree}
use Rattle.ca_grammar.specs.Reads.{plan}
use Rattle.ca_grammar.proofs.Combinators.{All_front, All_back}

-- a class of tokens that aren't the end
abbrev pub IsWord : Class → Type 0
IsWord The_end = ⊥
IsWord c = Unit {0}

-- no word is a binary operator of some levels, and no plan wants one
abbrev pub CanBeWanted : Class → Type 0
CanBeWanted (A_binary_operator l) = ⊥
CanBeWanted c = Unit {0}

abbrev pub Above : ℕ → Count → Type 0
Above n c = n < order (Limit c.of)

-- what is counted stands in the order in which it is answered
abbrev pub Ascending : List Count → Type 0
Ascending [] = Unit {0}
Ascending (c ∷ cs) = All (Above (order (Limit c.of))) cs × Ascending cs

-- a firm rule is kept where something is counted
abbrev pub Harmless : Option Firm → List Count → Type 0
Harmless None cs = Unit {0}
Harmless (Some f) cs = (cs ≡ []) ⊎ (within (the_limits f.0) f.1 ≡ true)

abbrev pub Tidy : Option Firm → List Count → Type 0
Tidy firm cs = Ascending cs × Harmless firm cs

-- what is counted comes before a depth and before the bytes of a name
abbrev pub BelowNine : Count → Type 0
BelowNine c = order (Limit c.of) < 9

abbrev pub Orderly : List Count → Type 0
Orderly cs = Ascending cs × All BelowNine cs

-- and an expression that stands v deep isn't too deep where something is counted
abbrev pub OrderlyAt : List Count → ℕ → Bool → Type 0
OrderlyAt cs v inside = Orderly cs × ((cs ≡ []) ⊎ (v + one_more inside + 2 ≤ 64))

-- what a goal's first counts must be; no goal calls those that step over the end
abbrev pub Fine : Goal → Type 0
Fine (Primary cs v inside) = OrderlyAt cs v inside
Fine (Postfix cs v inside) = OrderlyAt cs v inside
Fine (Level l cs v inside) = OrderlyAt cs v inside
Fine (Unary cs) = Orderly cs
Fine (Nameless_unary cs) = Orderly cs
Fine (Expression cs) = Orderly cs
Fine (Base_at cs) = Orderly cs
Fine (Simple_at cs) = Orderly cs
Fine (Starred_name cs at_name b) = Orderly (cs ++ at_name)
Fine Whole = ⊥
Fine A_program = ⊥
Fine g = Unit {0}

-- something holds of a step, whatever its token tells
pub record Each (S : Class → List Count → Option Firm → Type 0) (c : Class) (counts : Of c → List Count) (firm : Option Firm) : Type 0 where
  pub holds : (x : Of c) → S c (counts x) firm

-- something holds of each step: of its class, of what it counts, and of its firm rule
abbrev pub Steps : (Class → List Count → Option Firm → Type 0) → {g : Goal} → Plan g → Type 0
Steps S (give a) = Unit {0}
Steps S (take c firm counts on otherwise) = Each S c counts firm × ((p : Pos) (x : Of c) → Steps S (on p x)) × Steps S otherwise
Steps S (want c counts on) = Each S c counts None × CanBeWanted c × ((p : Pos) (x : Of c) → Steps S (on p x))
Steps S (call q on) = Fine q × ((b : Tree q) → Steps S (on b))

-- ---- what is counted

pub nothing_counted : Orderly []
nothing_counted = (tt, All-nil BelowNine)

alone : (c : Count) → order (Limit c.of) < 9 → Orderly (c ∷ [])
alone c h = ((All-nil (Above (order (Limit c.of))), tt), All-cons BelowNine c [] h (All-nil BelowNine))

item_counted : (n : ℕ) → Orderly (an_item n)
item_counted n = alone (counted Items (suc n)) (lit< tt)

nested_counted : (d : ℕ) → Orderly (nested d)
nested_counted d = alone (counted Nesting d) (lit< tt)

nested_item_counted : (n d : ℕ) → Orderly (nested_item n d)
nested_item_counted n d =
    let i = nested_counted d in
    ((All-cons (Above 0) (counted Nesting d) [] (lit< tt) (All-nil (Above 0)), i.0), All-cons BelowNine _ (nested d) (lit< tt) i.1)

close_counted : (of_function : Bool) (n : ℕ) → Orderly (at_close of_function n)
close_counted true n = item_counted n
close_counted false n = nothing_counted

ascending_front : (cs ds : List Count) → Ascending (cs ++ ds) → Ascending cs
ascending_front [] ds h = tt
ascending_front (c ∷ cs) ds h = (All_front (Above (order (Limit c.of))) cs ds h.0, ascending_front cs ds h.1)

ascending_back : (cs ds : List Count) → Ascending (cs ++ ds) → Ascending ds
ascending_back [] ds h = h
ascending_back (c ∷ cs) ds h = ascending_back cs ds h.1

-- the bytes of a name come last
named : (cs : List Count) (t : List ℕ) → Orderly cs → Ascending (and_name cs t)
named [] t h = (All-nil (Above 11), tt)
named (c ∷ cs) t h =
    let first : order (Limit c.of) < 9 = All-head BelowNine c cs h.1 in
    let P = Above (order (Limit c.of)) in
    (All-append P cs (bytes_of_name t ∷ []) h.0.0 (All-cons P (bytes_of_name t) [] (omega (arith, first)) (All-nil P)), named cs t (h.0.1, All-tail BelowNine c cs h.1))

not_too_deep : {cs : List Count} (m n : ℕ) → m ≤ n → (cs ≡ []) ⊎ (n ≤ 64) → Harmless (deep m) cs
not_too_deep m n h (inl e) = inl e
not_too_deep m n h (inr l) = inr (le-leb m 64 (omega (arith, h, l)))

-- ---- the steps of each plan

module _ (S : Class → List Count → Option Firm → Type 0) (each : (c : Class) (cs : List Count) (firm : Option Firm) → IsWord c → Tidy firm cs → S c cs firm) where
  plain : {c : Class} → IsWord c → Each S c no_counts None
  plain {c} w = record { holds = λ x. each c [] None w (tt, tt) }

  firmly : {c : Class} {f : Firm} → IsWord c → Each S c no_counts (Some f)
  firmly {c} {f} w = record { holds = λ x. each c [] (Some f) w (tt, inl refl) }

  counting : {c : Class} {cs : List Count} {firm : Option Firm} → IsWord c → Tidy firm cs → Each S c (these cs) firm
  counting {c} {cs} {firm} w h = record { holds = λ x. each c cs firm w h }

  naming : (cs : List Count) → Orderly cs → Each S A_name (and_name cs) None
  naming cs h = record { holds = λ t. each A_name (and_name cs t) None tt (named cs t h, tt) }

  naming_source : (cs : List Count) → Orderly cs → Each S A_name_of_the_source (and_name cs) None
  naming_source cs h = record { holds = λ t. each A_name_of_the_source (and_name cs t) None tt (named cs t h, tt) }

  one_name : Each S A_name (and_name []) None
  one_name = naming [] nothing_counted

  musts : {c : Class} {X : Type 0} → IsWord c → CanBeWanted c → X → Each S c no_counts None × CanBeWanted c × (Pos → Of c → X)
  musts w h x = (plain w, h, λ p y. x)

  maybes : {c : Class} {X Y : Type 0} → IsWord c → X → Y → Each S c no_counts None × (Pos → Of c → X) × Y
  maybes w x y = (plain w, λ p z. x, y)

  -- phrases

  star_steps : (cs at_name : List Count) (b : Base) (p : Pos) → Orderly (cs ++ at_name) → Steps S (behind_star cs at_name b p)
  star_steps cs at_name b p h = (tt, λ k. (naming at_name (ascending_back cs at_name h.0, All_back BelowNine cs at_name h.1), tt, λ q t. tt))

  sizeof_steps : (p : Pos) (cast : Option CType) (c : Option Exp) → Steps S (behind_sizeof p cast c)
  sizeof_steps p cast c = musts tt tt (tt, λ t. musts tt tt (musts tt tt tt))

  cast_steps : (p : Pos) (b : Base) → Steps S (behind_cast p b)
  cast_steps p b = (tt, λ k. musts tt tt (musts tt tt (tt, λ m. tt)))

  open_steps : (p : Pos) → Steps S (behind_open p)
  open_steps p = maybes tt (cast_steps p base.Int) (maybes tt (one_name, tt, λ q t. cast_steps p (base.Struct (name q t))) ((nothing_counted, inl refl), λ a. musts tt tt (tt, λ b. tt)))

  lock_steps : (cs : List Count) (p : Pos) (f : Pos → List ℕ → Library) → Steps S (behind_lock cs p f)
  lock_steps cs p f = musts tt tt (musts tt tt (one_name, tt, λ q t. musts tt tt tt))

  one_steps : (cs : List Count) (p : Pos) (f : Exp → Library) → Steps S (behind_one cs p f)
  one_steps cs p f = musts tt tt (nothing_counted, λ a. musts tt tt tt)

  join_steps : (cs : List Count) (p : Pos) → Steps S (behind_join cs p)
  join_steps cs p = musts tt tt (nothing_counted, λ a. musts tt tt (musts tt tt (musts tt tt tt)))

  create_steps : (cs : List Count) (p : Pos) → Steps S (behind_create cs p)
  create_steps cs p =
      musts tt tt (musts tt tt (one_name, tt, λ q t. musts tt tt (musts tt tt (musts tt tt (one_name, tt, λ r f. musts tt tt (nothing_counted, λ a. musts tt tt tt))))))

  print_steps : (cs : List Count) (p : Pos) → Steps S (behind_print cs p)
  print_steps cs p = musts tt tt (record { holds = λ t. each A_string (counted StringBytes (length t) ∷ []) None tt ((All-nil (Above 10), tt), tt) }, tt, λ q t. (tt, λ more. tt))

  target_or_call_steps : (cs : List Count) → Orderly cs → Steps S (on_target_or_call cs)
  target_or_call_steps cs h = (
    counting tt (h.0, tt),
    λ p o. (nothing_counted, λ a. tt),
    (naming_source cs h, λ p t. maybes tt (tt, λ more. tt) (tt, λ a. (tt, λ s. tt)), (h, λ a. (tt, λ s. tt))),
  )

  -- statements

  else_steps : (in_loop : Bool) (d : ℕ) (i : ItemAt) (c : Exp) (a : Branch) (n : ℕ) (is_open : Bool) → Steps S (if_closed in_loop d i c a n is_open)
  else_steps in_loop d i c a n false = maybes tt (tt, λ b. tt) tt
  else_steps in_loop d i c a n true = tt

  loop_steps : (in_loop : Bool) (d n : ℕ) → Steps S (in_loops in_loop d n)
  loop_steps true d n =
      let h = nested_counted d in
      (counting tt (h.0, tt), λ p x. musts tt tt tt, (counting tt (h.0, tt), λ p x. musts tt tt tt, (nested_item_counted n d, λ a. musts tt tt tt)))
  loop_steps false d n = (nested_item_counted n d, λ a. musts tt tt tt)

  -- declarations

  mutex_steps : (t : Totals) (x : Name) (b : Bool) → Steps S (behind_mutex t x b)
  mutex_steps t x b = maybes tt (tt, λ m. tt) (musts tt tt tt)

  thread_steps : (t : Totals) (cs : List Count) (x : Name) (l : Option ℤ) → Ascending cs → Steps S (behind_thread t cs x l)
  thread_steps t cs x l h = (counting tt (h, tt), λ p y. (tt, λ m. tt), (counting tt (h, tt), tt, λ p y. tt))

  top_steps : (t : Totals) (a : Option Top) (u : Totals) → Steps S (behind_top t a u)
  top_steps t None u = tt
  top_steps t (Some a) u = (tt, λ m. tt)

  pub steps : (g : Goal) → Fine g → Steps S (plan g)
  steps (Primary cs v inside) h = (
    counting tt (h.0.0, not_too_deep (v + one_more inside + 1) _ (omega arith) h.1),
    λ p x. ((nothing_counted, inl refl), λ a. musts tt tt tt),
    (counting tt (h.0.0, tt), λ p x. tt, (naming cs h.0, λ p t. tt, (counting tt (h.0.0, tt), tt, λ p n. tt))),
  )
  steps (Postfixes v a) h = (
    firmly tt,
    λ p x. ((nothing_counted, inl refl), λ i. musts tt tt (tt, λ c. tt)),
    (firmly tt, λ p x. (one_name, tt, λ q t. (tt, λ c. tt)), (firmly tt, λ p x. (one_name, tt, λ q t. (tt, λ c. tt)), tt)),
  )
  steps (Postfix cs v inside) h = (h, λ a. (tt, λ b. tt))
  steps (Level zero cs v inside) h = (counting tt (h.0.0, not_too_deep (v + 2) _ (omega arith) h.1), λ p o. ((nothing_counted, inl refl), λ a. tt), (h, λ a. tt))
  steps (Level (suc l) cs v inside) h = (h, λ a. (tt, λ b. tt))
  steps (Operators zero v a) h = tt
  steps (Operators (suc l) v a) h = (firmly tt, λ p o. ((nothing_counted, inl refl), λ b. (tt, λ c. tt)), tt)
  steps (Behind zero a) h = tt
  steps (Behind (suc l) a) h = (tt, λ b. (tt, λ c. tt))
  steps (From l a) h = (tt, λ b. (tt, λ c. tt))
  steps (Unary cs) h = ((h, inr (omega arith)), λ a. tt)
  steps (Nameless_unary cs) h = (
    counting tt (h.0, inr refl),
    λ p o. ((nothing_counted, inl refl), λ a. tt),
    (
      counting tt (h.0, inr refl),
      λ p x. ((nothing_counted, inl refl), λ a. musts tt tt (tt, λ b. tt)),
      (counting tt (h.0, tt), λ p x. (tt, λ b. tt), (counting tt (h.0, tt), tt, λ p n. (tt, λ b. tt))),
    ),
  )
  steps (Expression cs) h = ((h, inr (omega arith)), λ a. tt)
  steps Whole h = absurd h
  steps (Stars k) h = maybes tt (tt, λ n. tt) tt
  steps (Starred_name cs at_name base.Int) h = (
    counting tt (ascending_front cs at_name h.0, tt),
    λ p x. star_steps cs at_name base.Int p h,
    (naming (cs ++ at_name) h, tt, λ q t. tt),
  )
  steps (Starred_name cs at_name (base.Struct n)) h = (counting tt (ascending_front cs at_name h.0, tt), tt, λ p x. star_steps cs at_name (base.Struct n) p h)
  steps (Base_at cs) h = (counting tt (h.0, tt), λ p x. tt, (counting tt (h.0, tt), tt, λ p x. (one_name, tt, λ q t. tt)))
  steps Type_name h = (nothing_counted, λ b. (tt, λ k. tt))
  steps Arguments_behind h = maybes tt tt (nothing_counted, λ a. (tt, λ more. tt))
  steps More_arguments h = maybes tt (nothing_counted, λ a. (tt, λ more. tt)) (musts tt tt tt)
  steps (Print_arguments k) h = maybes tt (alone (counted Arguments (suc k)) (lit< tt), λ a. (tt, λ more. tt)) (musts tt tt tt)
  steps (Behind_malloc p cast) h = musts tt tt (maybes tt (sizeof_steps p cast None) (nothing_counted, λ a. musts tt tt (musts tt tt (sizeof_steps p cast (Some a.exp)))))
  steps A_right h = (
    plain tt,
    λ p x. (tt, λ m. tt),
    (
      naming_source [] nothing_counted,
      λ p t. maybes tt (tt, λ more. tt) (tt, λ b. tt),
      (plain tt, λ p x. open_steps p, (firmly tt, λ p o. ((nothing_counted, inl refl), λ a. (tt, λ b. tt)), (plain tt, λ p x. (tt, λ b. tt), (plain tt, tt, λ p n. (tt, λ b. tt))))),
    ),
  )
  steps Initializer h = maybes tt (tt, λ r. tt) tt
  steps (Behind_target a) h = maybes tt (tt, λ r. tt) (plain tt, λ p o. (nothing_counted, λ b. tt), (plain tt, tt, λ p o. tt))
  steps (Simple_at cs) h =
      let w : Tidy None cs = (h.0, tt) in (
        counting tt w,
        λ p x. lock_steps cs p (λ q t. library.Lock (name q t)),
        (
          counting tt w,
          λ p x. lock_steps cs p (λ q t. library.Unlock (name q t)),
          (
            counting tt w,
            λ p x. create_steps cs p,
            (
              counting tt w,
              λ p x. join_steps cs p,
              (counting tt w, λ p x. one_steps cs p library.Free, (counting tt w, λ p x. one_steps cs p library.Assert, (counting tt w, λ p x. print_steps cs p, target_or_call_steps cs h))),
            ),
          ),
        ),
      )
  steps (First_declarator b p n) h = (nothing_counted, λ x. (tt, λ r. tt))
  steps (More_declarators b n) h = maybes tt (item_counted n, λ x. (tt, λ r. (tt, λ m. tt))) tt
  steps (More_threads n) h = maybes tt (naming (an_item n) (item_counted n), tt, λ p t. (tt, λ m. tt)) tt
  steps (Threads_at p n) h = (one_name, tt, λ q t. (tt, λ m. tt))
  steps (Variables_at b p n) h = (tt, λ l. (tt, λ m. tt))
  steps (Local_at p n) h = maybes tt (tt, λ l. tt) (maybes tt (tt, λ l. tt) (maybes tt (tt, λ l. tt) (musts tt tt (one_name, tt, λ q t. (tt, λ l. tt)))))
  steps (Statements in_loop d of_function n) h =
      let w : Tidy None (nested_item n d) = ((nested_item_counted n d).0, tt) in (
        counting tt ((close_counted of_function n).0, tt),
        λ p x. tt,
        (
          counting tt w,
          λ p x. (tt, λ l. musts tt tt (tt, λ more. tt)),
          (
            counting tt w,
            λ p x. (tt, λ l. musts tt tt (tt, λ more. tt)),
            (
              counting tt w,
              λ p x. (tt, λ l. musts tt tt (tt, λ more. tt)),
              (counting tt w, λ p x. (one_name, tt, λ q t. (tt, λ l. musts tt tt (tt, λ more. tt))), (tt, λ a. (tt, λ more. tt))),
            ),
          ),
        ),
      )
  steps (A_statement in_loop d n) h = (counting tt ((nested_counted d).0, tt), λ p x. (tt, λ m. tt), (tt, λ a. tt))
  steps (Braceless in_loop d n) h =
      let w : Tidy None (nested d) = ((nested_counted d).0, tt) in (
        counting tt w,
        λ p x. tt,
        (
          counting tt ((nested_item_counted n d).0, tt),
          λ p x. maybes tt tt (nothing_counted, λ a. musts tt tt tt),
          (
            counting tt w,
            λ p x. (tt, λ c. (tt, λ a. (tt, λ b. tt))),
            (
              counting tt w,
              λ p x. (tt, λ c. (tt, λ a. tt)),
              (
                counting tt w,
                λ p x. (tt, λ a. musts tt tt (tt, λ c. musts tt tt tt)),
                (counting tt w, λ p x. musts tt tt (tt, λ f. (tt, λ c. (tt, λ g. (tt, λ a. tt)))), loop_steps in_loop d n),
              ),
            ),
          ),
        ),
      )
  steps (A_body in_loop d n) h = maybes tt (tt, λ m. tt) (tt, λ a. tt)
  steps (Condition n) h = musts tt tt (item_counted n, λ c. musts tt tt tt)
  steps (Else_part in_loop d i c a n) h = else_steps in_loop d i c a n a.is_open
  steps (For_first n) h =
      let w : Tidy None (an_item n) = ((item_counted n).0, tt) in
      maybes tt tt (
        counting tt w,
        λ p x. (tt, λ l. musts tt tt tt),
        (counting tt w, λ p x. (one_name, tt, λ q t. (tt, λ l. musts tt tt tt)), (item_counted n, λ a. musts tt tt tt)),
      )
  steps (For_condition n) h = (counting tt ((item_counted n).0, tt), λ p x. tt, (item_counted n, λ c. musts tt tt tt))
  steps (For_step n) h = maybes tt tt (item_counted n, λ a. musts tt tt tt)
  steps (Field_declarators b j) h = (alone (counted Fields (suc j)) (lit< tt), λ x. maybes tt (tt, λ more. tt) (musts tt tt tt))
  steps (A_field j) h = (nothing_counted, λ b. (tt, λ ds. (tt, λ more. tt)))
  steps (More_fields j) h = maybes tt tt (tt, λ fs. tt)
  steps (Mutexes t) h = (
    naming (counted Mutex_count (suc t.mutexes) ∷ []) (alone (counted Mutex_count (suc t.mutexes)) (lit< tt)),
    tt,
    λ p x. maybes tt (musts tt tt (mutex_steps t (name p x) true)) (mutex_steps t (name p x) false),
  )
  steps (Threads t) h =
      let g = (alone (counted Globals (suc t.globals)) (lit< tt)).0 in
      (one_name, tt, λ p x. (counting tt (g, tt), λ q y. (plain tt, tt, λ r i. musts tt tt (thread_steps t [] (name p x) (Some i) tt)), thread_steps t (a_global t) (name p x) None g))
  steps A_constant h = maybes tt (plain tt, tt, λ p i. tt) (maybes tt tt (plain tt, tt, λ p i. tt))
  steps (Behind_global b k x t) h =
      let w : Tidy None (a_global t) = ((alone (counted Globals (suc t.globals)) (lit< tt)).0, tt) in (
        counting tt w,
        λ q y. (plain tt, tt, λ r i. musts tt tt (tt, λ m. tt)),
        (counting tt w, λ q y. (tt, λ c. (tt, λ m. tt)), (counting tt w, λ q y. (tt, λ m. tt), (counting tt w, tt, λ q y. tt))),
      )
  steps (More_globals b t) h = maybes tt (tt, λ m. tt) (musts tt tt tt)
  steps (Next_global b t) h = (tt, λ k. (one_name, tt, λ p x. (tt, λ m. tt)))
  steps (Behind_type of j) h =
      let w = alone (counted Parameter_count (suc j)) (lit< tt) in
      (naming (a_parameter j) w, λ p x. (tt, λ ds. tt), (counting tt (w.0, tt), λ p x. (tt, λ ds. tt), (counting tt (w.0, tt), tt, λ p x. tt)))
  steps (More_parameters j) h = maybes tt (tt, λ ds. tt) (musts tt tt tt)
  steps (Next_parameter j) h =
      maybes tt (musts tt tt (tt, λ ds. tt)) (maybes tt (tt, λ k. (tt, λ ds. tt)) (musts tt tt (one_name, tt, λ p x. musts tt tt (tt, λ k. (tt, λ ds. tt)))))
  steps Parameters h =
      maybes tt tt (maybes tt (maybes tt (tt, λ ds. tt) (musts tt tt tt))
      (maybes tt (tt, λ k. (tt, λ ds. tt)) (musts tt tt (one_name, tt, λ p x. musts tt tt (tt, λ k. (tt, λ ds. tt))))))
  steps (Body_of t) h = maybes tt tt (counting tt ((alone (counted Functions (suc t.functions)) (lit< tt)).0, tt), tt, λ p x. (tt, λ m. tt))
  steps (Function_of r t) h = (one_name, tt, λ p x. musts tt tt (tt, λ m. tt))
  steps (Behind_paren r x t) h = (tt, λ ds. (tt, λ b. tt))
  steps (Behind_base b t) h = (tt, λ k. (one_name, tt, λ p x. (firmly tt, λ q y. (tt, λ m. tt), (tt, λ m. tt))))
  steps (Behind_void t) h = maybes tt (tt, λ m. tt) (tt, λ m. tt)
  steps (Qualified t) h = maybes tt (tt, λ m. tt) (maybes tt (tt, λ m. tt) (maybes tt (tt, λ m. tt) (maybes tt (tt, λ m. tt) (maybes tt (tt, λ m. tt) (maybes tt (tt, λ m. tt) (musts tt tt (one_name, tt, λ p x. (tt, λ m. tt))))))))
  steps (Behind_tag x t) h = (counting tt ((alone (counted Structs (suc t.structs)) (lit< tt)).0, tt), λ p y. (tt, λ fs. musts tt tt tt), (tt, λ m. tt))
  steps (A_top t) h = maybes tt (tt, λ m. tt) (maybes tt (tt, λ m. tt) (maybes tt (tt, λ m. tt) (maybes tt (tt, λ m. tt) (maybes tt (tt, λ m. tt) (maybes tt (tt, λ m. tt) (maybes tt (one_name, tt, λ p x. (tt, λ m. tt)) tt))))))
  steps (Tops t) h = (tt, λ a. top_steps t a.what a.totals)
  steps A_program h = absurd h

  -- the two that step over the end
  pub steps_whole : S The_end [] None → Steps S (plan Whole)
  steps_whole e = (nothing_counted, λ a. (record { holds = λ x. e }, tt, λ p x. tt))

  pub steps_program : S The_end [] None → Steps S (plan A_program)
  steps_program e = (tt, λ m. (record { holds = λ x. e }, tt, λ p x. tt))
