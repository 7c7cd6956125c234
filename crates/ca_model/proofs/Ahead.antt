-- The items that a frame evaluates by silent steps, counted by what is left of it.
use Rattle.std.proofs.Common.{◌≡◌, ◌≤◌, ℕ, zero, suc, ◌+◌, Bool, true, false, List, [], ◌∷◌, ◌++◌, map, Option, Some, None, refl, sym, ap, ◌∙◌, subst, arith}
use Rattle.ca_model.specs.declared.values.Value.{Value}
use Rattle.ca_model.specs.declared.tree.Item.{Item}
use Rattle.ca_model.specs.declared.tree.Stmt.{Stmt, out-Stmt, map-Stmt}
use Rattle.ca_model.specs.declared.tree.Stmt.TheOpen.{Stmt-F}
use Rattle.ca_model.specs.Asks.{Got, Is, Wants, No_result}
use Rattle.ca_model.specs.Items.{Done}
use Rattle.ca_model.specs.Sites.{if_any, items_step, items_in, items_in_all}
use Rattle.ca_model.specs.Frames.{Code, Left, Enter, Begin, After, Run, Loop, Next, Leave, Frame, past_leave, past_next, past_stmt, past, first_run, past_first, begun, gives_way}
use Rattle.ca_model.specs.Begun.{opening_item, evaluated, first_evaluated, evaluated_by}
use Rattle.ca_model.proofs.Equations.{items_out}
use Rattle.ca_model.proofs.ItemCounts.{has_number, times, times_join, joined_all}
use Rattle.ca_model.proofs.Silent.{none_over, UsesAll}

-- how often silent steps may begin an item in what is left: a loop that they come to wants its turn first
abbrev pub ahead_in : ℕ → Left → ℕ
ahead_in m (Begin i) = has_number m i
ahead_in m (Run s) = times m (items_in s)
ahead_in m _ = 0

abbrev pub ahead : ℕ → List Left → ℕ
ahead m [] = 0
ahead m (x ∷ ls) = ahead_in m x + ahead m ls

-- and where the first thing may be a loop whose turn has come
abbrev pub now_in : ℕ → Left → ℕ
now_in m (Begin i) = has_number m i
now_in m (Run s) = times m (items_in s)
now_in m (Loop c body step) = has_number m c + times m (items_in body) + times m (if_any step)
now_in m _ = 0

abbrev pub ahead_now : ℕ → List Left → ℕ
ahead_now m [] = 0
ahead_now m (x ∷ ls) = now_in m x + ahead m ls

pub ahead_on : (m : ℕ) (ls ms : List Left) → ahead m (ls ++ ms) ≡ ahead m ls + ahead m ms
ahead_on m [] ms = omega arith
ahead_on m (x ∷ ls) ms = omega (arith, ahead_on m ls ms)

pub ahead_runs : (m : ℕ) (ss : List Stmt) → ahead m (map Run ss) ≡ times m (items_in_all ss)
ahead_runs m [] = refl
ahead_runs m (s ∷ ss) = omega (arith, ahead_runs m ss, times_join m (items_in s) (items_in_all ss))

pub ahead_leave : (m : ℕ) (ls : List Left) → ahead m (past_leave ls) ≤ ahead m ls
ahead_leave m [] = omega arith
ahead_leave m (Leave ∷ ls) = omega arith
ahead_leave m (Next ∷ ls) = omega (arith, ahead_leave m ls)
ahead_leave m (Enter f ∷ ls) = omega (arith, ahead_leave m ls)
ahead_leave m (After i ∷ ls) = omega (arith, ahead_leave m ls)
ahead_leave m (Begin i ∷ ls) = omega (arith, ahead_leave m ls)
ahead_leave m (Run s ∷ ls) = omega (arith, ahead_leave m ls)
ahead_leave m (Loop c a step ∷ ls) = omega (arith, ahead_leave m ls)

pub ahead_next : (m : ℕ) (ls : List Left) → ahead m (past_next ls) ≤ ahead m ls
ahead_next m [] = omega arith
ahead_next m (Next ∷ ls) = omega arith
ahead_next m (Leave ∷ ls) = omega (arith, ahead_next m ls)
ahead_next m (Enter f ∷ ls) = omega (arith, ahead_next m ls)
ahead_next m (After i ∷ ls) = omega (arith, ahead_next m ls)
ahead_next m (Begin i ∷ ls) = omega (arith, ahead_next m ls)
ahead_next m (Run s ∷ ls) = omega (arith, ahead_next m ls)
ahead_next m (Loop c a step ∷ ls) = omega (arith, ahead_next m ls)

-- one level of a statement
abbrev pub level : Stmt-F Stmt → List Item
level x = items_step (map-Stmt Stmt (List Item) items_in x)

pub level_of : (m : ℕ) (s : Stmt) → times m (items_in s) ≡ times m (level (out-Stmt s))
level_of m s = ap (times m) (items_out s (out-Stmt s) refl)

stmt_begins : (m : ℕ) (x : Stmt-F Stmt) (b : Bool) (ls : List Left) → times m (opening_item x) + ahead m (past_stmt x b ls) ≤ times m (level x) + ahead m ls
stmt_begins m (Stmt-F.Item i) b ls = omega arith
stmt_begins m (Stmt-F.Block ss) b ls = omega (arith, ahead_on m (map Run ss) ls, ahead_runs m ss, ap (times m) (joined_all ss))
stmt_begins m (Stmt-F.If c a None) true ls = omega (arith, times_join m (items_in a) [])
stmt_begins m (Stmt-F.If c a None) false ls = omega arith
stmt_begins m (Stmt-F.If c a (Some s)) true ls = omega (arith, times_join m (items_in a) (items_in s))
stmt_begins m (Stmt-F.If c a (Some s)) false ls = omega (arith, times_join m (items_in a) (items_in s))
stmt_begins m (Stmt-F.While c a) b ls = omega arith
stmt_begins m (Stmt-F.Do a c) b ls = omega (arith, times_join m (items_in a) (c ∷ []))
stmt_begins m (Stmt-F.For None c step a) b ls = omega arith
stmt_begins m (Stmt-F.For (Some i) c step a) b ls = omega arith
stmt_begins m Stmt-F.Break b ls = omega (arith, ahead_leave m ls)
stmt_begins m Stmt-F.Continue b ls = omega (arith, ahead_next m ls)

loop_begins : (m : ℕ) (c : Item) (a : Stmt) (step : Option Item) (xs : List Value) → times m (evaluated (Loop c a step) xs) ≤ has_number m c
loop_begins m c a step [] = omega arith
loop_begins m c a step (x ∷ xs) = omega arith

turn_begins : (m : ℕ) (c : Item) (a : Stmt) (step : Option Item) (b : Bool) (ls : List Left)
    → has_number m c + ahead m (past (Loop c a step) b ls) ≤ now_in m (Loop c a step) + ahead m ls
turn_begins m c a None true ls = omega arith
turn_begins m c a (Some i) true ls = omega arith
turn_begins m c a step false ls = omega arith

-- what is evaluated at what stands first, with what is ahead after it
left_begins : (m : ℕ) (x : Left) (xs : List Value) (b : Bool) (ls : List Left) → times m (evaluated x xs) + ahead m (past x b ls) ≤ now_in m x + ahead m ls
left_begins m (Enter f) xs b ls = omega arith
left_begins m (After i) xs b ls = omega arith
left_begins m (Begin i) xs b ls = omega arith
left_begins m (Run s) xs b ls = omega (arith, level_of m s, stmt_begins m (out-Stmt s) b ls)
left_begins m (Loop c a step) xs b ls = omega (arith, loop_begins m c a step xs, turn_begins m c a step b ls)
left_begins m Next xs b ls = omega arith
left_begins m Leave xs b ls = omega arith

pub first_begins : (m : ℕ) (ls : List Left) (xs : List Value) (b : Bool) → times m (first_evaluated ls xs) + ahead m (past_first ls b) ≤ ahead_now m ls
first_begins m [] xs b = omega arith
first_begins m (x ∷ ls) xs b = left_begins m x xs b ls

-- without an answer no loop's turn has come
quiet_first : (m : ℕ) (ls : List Left) → times m (first_evaluated ls []) ≤ ahead m ls
quiet_first m [] = omega arith
quiet_first m (Loop c a step ∷ ls) = omega arith
quiet_first m (Enter f ∷ ls) = omega arith
quiet_first m (After i ∷ ls) = omega arith
quiet_first m (Begin i ∷ ls) = omega arith
quiet_first m (Run s ∷ ls) = omega (arith, left_begins m (Run s) [] true ls)
quiet_first m (Next ∷ ls) = omega arith
quiet_first m (Leave ∷ ls) = omega arith

module _ (code : Code) where
  quiet_begins : (m : ℕ) (ls : List Left) (l : List Value) (d : Done) (rest : List Value) → first_run code ls l [] ≡ Is d rest → times m (first_evaluated ls []) + ahead m (past_first ls d.truth) ≤ ahead m ls
  quiet_begins m [] l d rest is = cc
  quiet_begins m (Loop c a step ∷ ls) l d rest is = cc
  quiet_begins m (Enter f ∷ ls) l d rest is = left_begins m (Enter f) [] d.truth ls
  quiet_begins m (After i ∷ ls) l d rest is = left_begins m (After i) [] d.truth ls
  quiet_begins m (Begin i ∷ ls) l d rest is = left_begins m (Begin i) [] d.truth ls
  quiet_begins m (Run s ∷ ls) l d rest is = left_begins m (Run s) [] d.truth ls
  quiet_begins m (Next ∷ ls) l d rest is = left_begins m Next [] d.truth ls
  quiet_begins m (Leave ∷ ls) l d rest is = left_begins m Leave [] d.truth ls

  abbrev rest_by : ℕ → Frame → Got Done → List Item
  rest_by n f g = elim g [ Is d rest ↦ evaluated_by code n (gives_way f d rest) | Wants w ↦ [] | No_result ↦ [] ]

  abbrev Uses : Frame → ℕ → ℕ → Type 0
  Uses f m bound = (d : Done) (rest : List Value) → begun code f ≡ Is d rest → (rest ≡ []) × (times m (first_evaluated f.left f.answers) + ahead m (past_first f.left d.truth) ≤ bound)

  -- one step, where what follows it is bounded
  one_more : (m n bound : ℕ) (f : Frame) (g : Got Done) → begun code f ≡ g → times m (first_evaluated f.left f.answers) ≤ bound → Uses f m bound
      → ((h : Frame) → h.answers ≡ [] → times m (evaluated_by code n h) ≤ ahead m h.left)
      → times m (first_evaluated f.left f.answers ++ rest_by n f g) ≤ bound
  one_more m n bound f (Is d rest) is first uses more =
      let here = uses d rest is in
      omega (arith, times_join m (first_evaluated f.left f.answers) (evaluated_by code n (gives_way f d rest)), more (gives_way f d rest) here.0, here.1)
  one_more m n bound f (Wants w) is first uses more = omega (arith, times_join m (first_evaluated f.left f.answers) [], first)
  one_more m n bound f No_result is first uses more = omega (arith, times_join m (first_evaluated f.left f.answers) [], first)

  quiet_at : (m : ℕ) (f : Frame) → f.answers ≡ [] → times m (first_evaluated f.left f.answers) ≤ ahead m f.left
  quiet_at m f empty = subst (λ xs. times m (first_evaluated f.left xs) ≤ ahead m f.left) (sym empty) (quiet_first m f.left)

  quiet_uses : (m : ℕ) (f : Frame) → f.answers ≡ [] → Uses f m (ahead m f.left)
  quiet_uses m f empty d rest is =
      let at : first_run code f.left f.locals [] ≡ Is d rest = ap (first_run code f.left f.locals) (sym empty) ∙ is in (
        none_over code f.left f.locals d rest at,
        subst (λ xs. times m (first_evaluated f.left xs) + ahead m (past_first f.left d.truth) ≤ ahead m f.left) (sym empty) (quiet_begins m f.left f.locals d rest at),
      )

  -- a frame with no answers evaluates what is ahead
  pub quiet : (m n : ℕ) (f : Frame) → f.answers ≡ [] → times m (evaluated_by code n f) ≤ ahead m f.left
  quiet m zero f empty = quiet_at m f empty
  quiet m (suc n) f empty = one_more m n (ahead m f.left) f (begun code f) refl (quiet_at m f empty) (quiet_uses m f empty) (quiet m n)

  -- and after an answer, what may be ahead now
  pub after_answer : (m n : ℕ) (f : Frame) → UsesAll code f → times m (evaluated_by code n f) ≤ ahead_now m f.left
  after_answer m zero f uses = omega (arith, first_begins m f.left f.answers true)
  after_answer m (suc n) f uses =
      one_more m n (ahead_now m f.left) f (begun code f) refl (omega (arith, first_begins m f.left f.answers true)) (λ d rest is. (uses d rest is, first_begins m f.left f.answers d.truth)) (quiet m n)
