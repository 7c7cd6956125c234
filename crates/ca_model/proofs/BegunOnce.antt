-- Between two answers a frame begins no item twice.
use Rattle.std.proofs.Common.{◌≡◌, ◌≤◌, ℕ, zero, suc, ◌+◌, Bool, true, false, List, [], ◌∷◌, ◌++◌, map, Option, Some, None, refl, ap, arith}
use Rattle.std.specs.Prelude.{slice_get}
use Rattle.ca_tree.specs.declared.numbers.FunId.{FunId}
use Rattle.ca_model.specs.declared.plan.Plan.{Plan}
use Rattle.ca_model.specs.declared.values.Value.{Value}
use Rattle.ca_model.specs.declared.tree.Item.{Item}
use Rattle.ca_model.specs.declared.tree.Stmt.{Stmt, out-Stmt}
use Rattle.ca_model.specs.declared.tree.Stmt.TheOpen.{Stmt-F}
use Rattle.ca_model.specs.declared.tree.Function.{Function}
use Rattle.ca_model.specs.Asks.{Got, Is, Wants, No_result}
use Rattle.ca_model.specs.Items.{Done}
use Rattle.ca_model.specs.Sites.{items_in, items_in_all, items_of, all_items}
use Rattle.ca_model.specs.Frames.{Code, Left, Enter, Begin, After, Run, Loop, Next, Leave, Frame, past_leave, past_next, past_stmt, past, past_first, begun, gives_way, settle, entered, first_weight}
use Rattle.ca_model.specs.Begun.{InProgress, starts, goes_on, evaluated_by, BeginsEachOnce}
use Rattle.ca_model.specs.Codes.{Typed, code_of}
use Rattle.ca_model.specs.WellFormed.{IsWellFormed}
use Rattle.ca_model.proofs.ItemCounts.{times, times_join, each_once, numbered_once, joined_all, function_counted}
use Rattle.ca_model.proofs.Silent.{step_by, answer_used}
use Rattle.ca_model.proofs.Ahead.{ahead, now_in, ahead_now, ahead_on, ahead_runs, level, level_of, quiet, after_answer}

-- from each place in what is left no item may be begun twice, where a loop's turn has come there
abbrev OnceEach : List Left → Type 0
OnceEach [] = Unit {0}
OnceEach (x ∷ ls) = ((m : ℕ) → now_in m x + ahead m ls ≤ 1) × OnceEach ls

once_first : (ls : List Left) → OnceEach ls → (m : ℕ) → ahead_now m ls ≤ 1
once_first [] h m = omega arith
once_first (x ∷ ls) h m = h.0 m

once_leave : (ls : List Left) → OnceEach ls → OnceEach (past_leave ls)
once_leave [] h = tt
once_leave (Leave ∷ ls) h = h.1
once_leave (Next ∷ ls) h = once_leave ls h.1
once_leave (Enter f ∷ ls) h = once_leave ls h.1
once_leave (After i ∷ ls) h = once_leave ls h.1
once_leave (Begin i ∷ ls) h = once_leave ls h.1
once_leave (Run s ∷ ls) h = once_leave ls h.1
once_leave (Loop c a step ∷ ls) h = once_leave ls h.1

once_next : (ls : List Left) → OnceEach ls → OnceEach (past_next ls)
once_next [] h = tt
once_next (Next ∷ ls) h = h.1
once_next (Leave ∷ ls) h = once_next ls h.1
once_next (Enter f ∷ ls) h = once_next ls h.1
once_next (After i ∷ ls) h = once_next ls h.1
once_next (Begin i ∷ ls) h = once_next ls h.1
once_next (Run s ∷ ls) h = once_next ls h.1
once_next (Loop c a step ∷ ls) h = once_next ls h.1

once_runs : (ss : List Stmt) (ls : List Left) → ((m : ℕ) → times m (items_in_all ss) + ahead m ls ≤ 1) → OnceEach ls → OnceEach (map Run ss ++ ls)
once_runs [] ls few h = h
once_runs (s ∷ ss) ls few h = (
  (λ m. omega (arith, few m, times_join m (items_in s) (items_in_all ss), ahead_on m (map Run ss) ls, ahead_runs m ss)),
  once_runs ss ls (λ m. omega (arith, few m, times_join m (items_in s) (items_in_all ss))) h,
)

once_stmt : (x : Stmt-F Stmt) (b : Bool) (ls : List Left) → ((m : ℕ) → times m (level x) + ahead m ls ≤ 1) → OnceEach ls → OnceEach (past_stmt x b ls)
once_stmt (Stmt-F.Item i) b ls few h = ((λ m. omega (arith, few m)), h)
once_stmt (Stmt-F.Block ss) b ls few h = once_runs ss ls (λ m. omega (arith, few m, ap (times m) (joined_all ss))) h
once_stmt (Stmt-F.If c a None) true ls few h =
    ((λ m. omega (arith, few m, times_join m (items_in a) [])), ((λ m. omega (arith, few m, times_join m (items_in a) [])), h))
once_stmt (Stmt-F.If c a None) false ls few h = ((λ m. omega (arith, few m)), h)
once_stmt (Stmt-F.If c a (Some s)) true ls few h =
    ((λ m. omega (arith, few m, times_join m (items_in a) (items_in s))), ((λ m. omega (arith, few m, times_join m (items_in a) (items_in s))), h))
once_stmt (Stmt-F.If c a (Some s)) false ls few h =
    ((λ m. omega (arith, few m, times_join m (items_in a) (items_in s))), ((λ m. omega (arith, few m, times_join m (items_in a) (items_in s))), h))
once_stmt (Stmt-F.While c a) b ls few h = ((λ m. omega (arith, few m)), ((λ m. omega (arith, few m)), h))
once_stmt (Stmt-F.Do a c) b ls few h = (
  (λ m. omega (arith, few m, times_join m (items_in a) (c ∷ []))),
  ((λ m. omega (arith, few m)), ((λ m. omega (arith, few m, times_join m (items_in a) (c ∷ []))), ((λ m. omega (arith, few m)), h))),
)
once_stmt (Stmt-F.For None c None a) b ls few h = ((λ m. omega (arith, few m)), ((λ m. omega (arith, few m)), h))
once_stmt (Stmt-F.For None c (Some j) a) b ls few h = ((λ m. omega (arith, few m)), ((λ m. omega (arith, few m)), h))
once_stmt (Stmt-F.For (Some i) c None a) b ls few h = ((λ m. omega (arith, few m)), ((λ m. omega (arith, few m)), ((λ m. omega (arith, few m)), h)))
once_stmt (Stmt-F.For (Some i) c (Some j) a) b ls few h = ((λ m. omega (arith, few m)), ((λ m. omega (arith, few m)), ((λ m. omega (arith, few m)), h)))
once_stmt Stmt-F.Break b ls few h = once_leave ls h
once_stmt Stmt-F.Continue b ls few h = once_next ls h

once_loop : (c : Item) (a : Stmt) (step : Option Item) (b : Bool) (ls : List Left) → OnceEach (Loop c a step ∷ ls) → OnceEach (past (Loop c a step) b ls)
once_loop c a None true ls h =
    ((λ m. omega (arith, h.0 m)), ((λ m. omega (arith, h.0 m)), ((λ m. omega (arith, h.0 m)), h)))
once_loop c a (Some i) true ls h =
    ((λ m. omega (arith, h.0 m)), ((λ m. omega (arith, h.0 m)), ((λ m. omega (arith, h.0 m)), ((λ m. omega (arith, h.0 m)), h))))
once_loop c a step false ls h = ((λ m. omega (arith, h.0 m)), h.1)

once_past : (x : Left) (b : Bool) (ls : List Left) → OnceEach (x ∷ ls) → OnceEach (past x b ls)
once_past (Enter f) b ls h = h.1
once_past (After i) b ls h = h.1
once_past (Begin i) b ls h = ((λ m. omega (arith, h.0 m)), h.1)
once_past (Run s) b ls h = once_stmt (out-Stmt s) b ls (λ m. omega (arith, h.0 m, level_of m s)) h.1
once_past (Loop c a step) b ls h = once_loop c a step b ls h
once_past Next b ls h = h.1
once_past Leave b ls h = h.1

once_past_first : (ls : List Left) (b : Bool) → OnceEach ls → OnceEach (past_first ls b)
once_past_first [] b h = tt
once_past_first (x ∷ ls) b h = once_past x b ls h

-- a function's items have different numbers
abbrev HasOnce : Option Function → Type 0
HasOnce None = Unit {0}
HasOnce (Some fn) = (m : ℕ) → times m (items_of fn) ≤ 1

once_entered : (f : FunId) (xs : List Value) (o : Option Function) → HasOnce o → OnceEach (entered f xs o).left
once_entered f xs None few = tt
once_entered f xs (Some fn) few = (
  (λ m. omega (arith, few m, times_join m (items_in_all fn.body) (fn.close ∷ []), ahead_on m (map Run fn.body) (Begin fn.close ∷ []), ahead_runs m fn.body)),
  once_runs fn.body (Begin fn.close ∷ []) (λ m. omega (arith, few m, times_join m (items_in_all fn.body) (fn.close ∷ []))) ((λ m. omega (arith, few m, times_join m (items_in_all fn.body) (fn.close ∷ []))), tt),
)

module _ (code : Code) where
  once_step : (n : ℕ) (f : Frame) (g : Got Done) → ((h : Frame) → OnceEach h.left → OnceEach (settle code n h).left) → OnceEach f.left → OnceEach (step_by code n f g).left
  once_step n f (Is d rest) more h = more (gives_way f d rest) (once_past_first f.left d.truth h)
  once_step n f (Wants w) more h = h
  once_step n f No_result more h = h

  once_settled : (n : ℕ) (f : Frame) → OnceEach f.left → OnceEach (settle code n f).left
  once_settled zero f h = h
  once_settled (suc n) f h = once_step n f (begun code f) (once_settled n) h

  module _ (known : (f : ℕ) → HasOnce (slice_get code.functions f)) where
    once_in_progress : (f : Frame) → InProgress code f → OnceEach f.left
    once_in_progress _ (starts f xs) = let h : Frame = entered f xs (slice_get code.functions f.0) in once_settled (first_weight h.left) h (once_entered f xs (slice_get code.functions f.0) (known f.0))
    once_in_progress _ (goes_on {f = f} before is other x) = once_settled (first_weight f.left) (record f { answers = f.answers ++ x ∷ [] }) (once_in_progress f before)

    bounded_start : (o : Option Function) (f : FunId) (xs : List Value) (m n : ℕ) → HasOnce o → times m (evaluated_by code n (entered f xs o)) ≤ 1
    bounded_start None f xs m n few = omega (arith, quiet code m n (entered f xs None) refl)
    bounded_start (Some fn) f xs m n few = omega (arith, quiet code m n (entered f xs (Some fn)) refl, (once_entered f xs (Some fn) few).0 m)

    pub begins_each_once : BeginsEachOnce code
    begins_each_once = record {
      at_the_start = λ f xs n. each_once _ (λ m. bounded_start (slice_get code.functions f.0) f xs m n (known f.0));
      after_an_answer = λ f w x n progress is other. each_once _ (λ m.
          let now : Frame = record f { answers = f.answers ++ x ∷ [] } in
          omega (arith, after_answer code m n now (answer_used code f w x is), once_first f.left (once_in_progress f progress) m));
    }

has_once : (fs : List Function) → ((m : ℕ) → times m (all_items fs) ≤ 1) → (f : ℕ) (o : Option Function) → slice_get fs f ≡ o → HasOnce o
has_once fs few f None at = tt
has_once fs few f (Some fn) at = λ m. omega (arith, few m, function_counted fs f fn m at)

pub well_formed_once : (p : Typed) → IsWellFormed p → (plan : Plan) → BeginsEachOnce (code_of p plan)
well_formed_once p good plan =
    begins_each_once (code_of p plan)
    (λ f. has_once p.functions (λ m. numbered_once 0 m (all_items p.functions) (λ k i at. omega (arith, good.items k i at))) f (slice_get p.functions f) refl)
