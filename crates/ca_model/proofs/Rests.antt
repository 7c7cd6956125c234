-- What may be left of a body where acts stand where they may: silent steps keep it, and it ends with the closing brace.
use Rattle.std.proofs.Common.{◌≡◌, Bool, true, false, List, [], ◌∷◌, ◌++◌, map, Option, Some, None, refl, sym, ap, ◌∙◌, subst, inl, inr}
use Rattle.std.specs.Prelude.{◌⊎◌}
use Rattle.std.proofs.lemmas.Bool.{and_parts}
use Rattle.ca_model.specs.declared.tree.Act.TheVariants as act
use Rattle.ca_model.specs.declared.tree.Item.{Item}
use Rattle.ca_model.specs.declared.tree.Stmt.{Stmt, out-Stmt, fold_out-Stmt, map-Stmt}
use Rattle.ca_model.specs.declared.tree.Stmt.TheOpen.{Stmt-F}
use Rattle.ca_model.specs.Frames.{Left, Enter, Begin, After, Run, Loop, Next, Leave, past_leave, past_next, past_stmt, past, past_first, begins}
use Rattle.ca_model.specs.Codes.{Typed}
use Rattle.ca_model.specs.WellFormed.{is_condition, is_in_head, all_placed, placed_step, is_placed}

abbrev pub has_next : List Left → Bool
has_next [] = false
has_next (Next ∷ ls) = true
has_next (x ∷ ls) = has_next ls

abbrev pub has_leave : List Left → Bool
has_leave [] = false
has_leave (Leave ∷ ls) = true
has_leave (x ∷ ls) = has_leave ls

-- where `continue` and `break` have a place to go on
abbrev pub IsInLoop : List Left → Type 0
IsInLoop ls = (has_next ls ≡ true) × (has_leave ls ≡ true)

module _ (p : Typed) where
  abbrev pub IsRest : List Left → Type 0
  IsRest [] = ⊥
  IsRest (Enter f ∷ ls) = IsRest ls
  IsRest (After i ∷ ls) = IsRest ls
  IsRest (Begin i ∷ ls) = ((i.act ≡ act.Close) × (ls ≡ [])) ⊎ ((is_in_head p (Some i) ≡ true) × IsRest ls)
  IsRest (Run s ∷ ls) = ((b : Bool) × (is_placed p s b ≡ true) × (b ≡ true → IsInLoop ls)) × IsRest ls
  IsRest (Loop c body step ∷ ls) = ((is_condition c.act ≡ true) × (is_placed p body true ≡ true) × (is_in_head p step ≡ true) × (has_leave ls ≡ true)) × IsRest ls
  IsRest (Next ∷ ls) = IsRest ls
  IsRest (Leave ∷ ls) = IsRest ls

  -- a closing brace isn't done, for it returns
  abbrev pub IsClosing : List Left → Type 0
  IsClosing (Begin i ∷ ls) = i.act ≡ act.Close
  IsClosing _ = ⊥

  behind_first : (i : Item) (ls : List Left) → (ls ≡ [] → ⊥) → IsRest (Begin i ∷ ls) → IsRest ls
  behind_first i ls some (inl c) = absurd (some c.1)
  behind_first i ls some (inr r) = r.1

  no_leave : (ls : List Left) → has_leave ls ≡ true → ls ≡ [] → ⊥
  no_leave ls h e = let there : has_leave [] ≡ true = subst (λ l. has_leave l ≡ true) e h in cc

  no_next : (ls : List Left) → has_next ls ≡ true → ls ≡ [] → ⊥
  no_next ls h e = let there : has_next [] ≡ true = subst (λ l. has_next l ≡ true) e h in cc

  after_leave : (ls : List Left) → has_leave ls ≡ true → IsRest ls → IsRest (past_leave ls)
  after_leave [] h r = cc
  after_leave (Leave ∷ ls) h r = r
  after_leave (Next ∷ ls) h r = after_leave ls h r
  after_leave (Enter f ∷ ls) h r = after_leave ls h r
  after_leave (After i ∷ ls) h r = after_leave ls h r
  after_leave (Begin i ∷ ls) h r = after_leave ls h (behind_first i ls (no_leave ls h) r)
  after_leave (Run s ∷ ls) h r = after_leave ls h r.1
  after_leave (Loop c body step ∷ ls) h r = after_leave ls h r.1

  after_next : (ls : List Left) → has_next ls ≡ true → IsRest ls → IsRest (past_next ls)
  after_next [] h r = cc
  after_next (Next ∷ ls) h r = r
  after_next (Leave ∷ ls) h r = after_next ls h r
  after_next (Enter f ∷ ls) h r = after_next ls h r
  after_next (After i ∷ ls) h r = after_next ls h r
  after_next (Begin i ∷ ls) h r = after_next ls h (behind_first i ls (no_next ls h) r)
  after_next (Run s ∷ ls) h r = after_next ls h r.1
  after_next (Loop c body step ∷ ls) h r = after_next ls h r.1

  in_loop_too : (ss : List Stmt) (ls : List Left) → IsInLoop ls → IsInLoop (map Run ss ++ ls)
  in_loop_too [] ls h = h
  in_loop_too (s ∷ ss) ls h = in_loop_too ss ls h

  -- statements that stand where they may
  pub rest_of_all : (ss : List Stmt) (b : Bool) (ls : List Left) → all_placed (map (is_placed p) ss) b ≡ true → (b ≡ true → IsInLoop ls) → IsRest ls → IsRest (map Run ss ++ ls)
  rest_of_all [] b ls placed loop r = r
  rest_of_all (s ∷ ss) b ls placed loop r =
      let parts = and_parts (is_placed p s b) (all_placed (map (is_placed p) ss) b) placed in
      ((b, parts.0, (λ e. in_loop_too ss ls (loop e))), rest_of_all ss b ls parts.1 loop r)

  rest_of_begins : (i : Option Item) (ls : List Left) → is_in_head p i ≡ true → IsRest ls → IsRest (begins i ++ ls)
  rest_of_begins None ls h r = r
  rest_of_begins (Some i) ls h r = inr (h, r)

  leave_behind : (i : Option Item) (ls : List Left) → has_leave ls ≡ true → has_leave (begins i ++ ls) ≡ true
  leave_behind None ls h = h
  leave_behind (Some i) ls h = h

  abbrev pub layer_placed : Stmt-F Stmt → Bool → Bool
  layer_placed x = placed_step p (map-Stmt Stmt (Bool → Bool) (is_placed p) x)

  stmt_rest : (x : Stmt-F Stmt) (b c : Bool) (ls : List Left) → layer_placed x b ≡ true → (b ≡ true → IsInLoop ls) → IsRest ls → IsRest (past_stmt x c ls)
  stmt_rest (Stmt-F.Item i) b c ls placed loop r = r
  stmt_rest (Stmt-F.Block ss) b c ls placed loop r = rest_of_all ss b ls placed loop r
  stmt_rest (Stmt-F.If k one other) b true ls placed loop r = ((b, (and_parts _ _ (and_parts _ _ placed).1).0, loop), r)
  stmt_rest (Stmt-F.If k one None) b false ls placed loop r = r
  stmt_rest (Stmt-F.If k one (Some s)) b false ls placed loop r = ((b, (and_parts _ _ (and_parts _ _ placed).1).1, loop), r)
  stmt_rest (Stmt-F.While k body) b c ls placed loop r = (((and_parts _ _ placed).0, (and_parts _ _ placed).1, refl, refl), r)
  stmt_rest (Stmt-F.Do body k) b c ls placed loop r =
      ((true, (and_parts _ _ placed).1, (λ e. (refl, refl))), (((and_parts _ _ placed).0, (and_parts _ _ placed).1, refl, refl), r))
  stmt_rest (Stmt-F.For first k step body) b c ls placed loop r =
      let start = and_parts (is_in_head p first) _ placed in
      let test = and_parts (is_condition k.act) _ start.1 in
      let turn = and_parts (is_in_head p step) _ test.1 in
      rest_of_begins first _ start.0 ((test.0, turn.1, turn.0, refl), r)
  stmt_rest Stmt-F.Break b c ls placed loop r = after_leave ls (loop placed).1 r
  stmt_rest Stmt-F.Continue b c ls placed loop r = after_next ls (loop placed).0 r

  pub placed_out : (s : Stmt) (b : Bool) → is_placed p s b ≡ true → layer_placed (out-Stmt s) b ≡ true
  placed_out s b h = sym (ap (λ f. f b) (fold_out-Stmt (Bool → Bool) (placed_step p) s)) ∙ h

  loop_rest : (c : Item) (body : Stmt) (step : Option Item) (b : Bool) (ls : List Left) → IsRest (Loop c body step ∷ ls) → IsRest (past (Loop c body step) b ls)
  loop_rest c body step true ls r =
      ((true, r.0.1, (λ e. (refl, leave_behind step (Loop c body step ∷ ls) r.0.3))), rest_of_begins step (Loop c body step ∷ ls) r.0.2 r)
  loop_rest c body step false ls r = r.1

  -- what is done gives way to what may be left, if it isn't the closing brace
  pub rest_on : (ls : List Left) (b : Bool) → IsRest ls → (IsClosing ls → ⊥) → IsRest (past_first ls b)
  rest_on [] b r more = r
  rest_on (Enter f ∷ ls) b r more = r
  rest_on (After i ∷ ls) b r more = r
  rest_on (Begin i ∷ ls) b (inl c) more = absurd (more c.0)
  rest_on (Begin i ∷ ls) b (inr r) more = r.1
  rest_on (Run s ∷ ls) b r more = stmt_rest (out-Stmt s) r.0.0 b ls (placed_out s r.0.0 r.0.1) r.0.2 r.1
  rest_on (Loop c body step ∷ ls) b r more = loop_rest c body step b ls r
  rest_on (Next ∷ ls) b r more = r
  rest_on (Leave ∷ ls) b r more = r
