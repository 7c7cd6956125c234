-- What ends a function is done by the answer to its return alone.
use Rattle.std.proofs.Common.{◌≡◌, ℕ, List, [], ◌∷◌, ◌++◌, refl, subst, arith}
use Rattle.ca_tree.specs.declared.numbers.ItemId.{ItemId}
use Rattle.ca_model.specs.declared.values.Value.{Value}
use Rattle.ca_model.specs.declared.tree.Act.{Act}
use Rattle.ca_model.specs.declared.tree.Act.TheVariants as act
use Rattle.ca_model.specs.declared.tree.Stmt.{Stmt, out-Stmt}
use Rattle.ca_model.specs.declared.tree.Stmt.TheOpen.{Stmt-F}
use Rattle.ca_model.specs.Arith.{null}
use Rattle.ca_model.specs.Asks.{Want, Returns, Got, Is, Wants, No_result, then, ◌>>◌, ask}
use Rattle.ca_model.specs.Items.{Done, done, value_or_null, act_run}
use Rattle.ca_model.specs.Frames.{Code, Left, Begin, Run, stmt_run, first_run}
use Rattle.ca_model.specs.Laws.{Fewer, Extended, NoneOver, OnWants}
use Rattle.ca_model.specs.Begun.{IsReturn}
use Rattle.ca_model.proofs.Silent.{null_in_order}

-- acts that end a function
abbrev pub Ends : Act → Type 0
Ends (act.Return e) = Unit {0}
Ends act.Close = Unit {0}
Ends _ = ⊥

abbrev pub StmtEnds : Stmt-F Stmt → Type 0
StmtEnds (Stmt-F.Item i) = Ends i.act
StmtEnds _ = ⊥

-- such an item stands first
abbrev pub EndsNow : List Left → Type 0
EndsNow (Begin i ∷ ls) = Ends i.act
EndsNow (Run s ∷ ls) = StmtEnds (out-Stmt s)
EndsNow _ = ⊥

-- a `return` and a closing brace want to return once they have their value, and are done by an answer to that alone
wants_return : (l : List Value) (y : Value) (xs : List Value) (d : Done) (rest : List Value) → xs ≡ [] → then (ask (Returns y) xs) (λ z. done l) ≡ Is d rest → ⊥
wants_return l y [] d rest empty is = cc
wants_return l y (x ∷ xs) d rest empty is = cc

not_at_once : (g : Got Value) (l : List Value) (d : Done) (rest : List Value) → NoneOver g → then g (λ y. ask (Returns y) >> done l) ≡ Is d rest → ⊥
not_at_once (Is y xs) l d rest empty is = wants_return l y xs d rest empty is
not_at_once (Wants w) l d rest empty is = cc
not_at_once No_result l d rest empty is = cc

none_from_fewer : (g : Got Value) (x : Value) → Fewer g (x ∷ []) → NoneOver g
none_from_fewer (Is y []) x few = refl
none_from_fewer (Is y (z ∷ zs)) x few = absurd (let no : ⊥ = omega (arith, few) in no)
none_from_fewer (Wants w) x few = tt
none_from_fewer No_result x few = tt

return_wanted : (l : List Value) (y : Value) (xs : List Value) (w : Want) → then (ask (Returns y) xs) (λ z. done l) ≡ Wants w → IsReturn w
return_wanted l y [] w is = subst (OnWants IsReturn) is tt
return_wanted l y (x ∷ xs) w is = cc

not_by_answer : (g h : Got Value) (l : List Value) (x : Value) (w : Want) (d : Done) (rest : List Value) → Extended g (x ∷ []) h
    → then g (λ y. ask (Returns y) >> done l) ≡ Wants w → (IsReturn w → ⊥) → then h (λ y. ask (Returns y) >> done l) ≡ Is d rest → ⊥
not_by_answer (Is y xs) h l x w d rest more is other at = other (return_wanted l y xs w is)
not_by_answer (Wants v) h l x w d rest more is other at = not_at_once h l d rest (none_from_fewer h x more) at
not_by_answer No_result h l x w d rest more is other at = cc

act_not_at_once : (a : Act) (i : ItemId) (l : List Value) (s : ℕ) (d : Done) (rest : List Value) → Ends a → act_run a i l s [] ≡ Is d rest → ⊥
act_not_at_once (act.Return e) i l s d rest ends is = not_at_once (value_or_null e l s []) l d rest (null_in_order e l s).none is
act_not_at_once act.Close i l s d rest ends is = cc
act_not_at_once _ i l s d rest ends is = absurd ends

act_not_by_answer : (a : Act) (i : ItemId) (l : List Value) (s : ℕ) (xs : List Value) (x : Value) (w : Want) (d : Done) (rest : List Value) → Ends a
    → act_run a i l s xs ≡ Wants w → (IsReturn w → ⊥) → act_run a i l s (xs ++ x ∷ []) ≡ Is d rest → ⊥
act_not_by_answer (act.Return e) i l s xs x w d rest ends is other at = not_by_answer (value_or_null e l s xs) (value_or_null e l s (xs ++ x ∷ [])) l x w d rest ((null_in_order e l s).more xs (x ∷ [])) is other at
act_not_by_answer act.Close i l s xs x w d rest ends is other at = other (return_wanted l null xs w is)
act_not_by_answer _ i l s xs x w d rest ends is other at = absurd ends

module _ (code : Code) where
  stmt_not_at_once : (x : Stmt-F Stmt) (l : List Value) (d : Done) (rest : List Value) → StmtEnds x → stmt_run code x l [] ≡ Is d rest → ⊥
  stmt_not_at_once (Stmt-F.Item i) l d rest ends is = act_not_at_once i.act i.id l (code.first_site i.id) d rest ends is
  stmt_not_at_once _ l d rest ends is = absurd ends

  stmt_not_by_answer : (y : Stmt-F Stmt) (l xs : List Value) (x : Value) (w : Want) (d : Done) (rest : List Value) → StmtEnds y
      → stmt_run code y l xs ≡ Wants w → (IsReturn w → ⊥) → stmt_run code y l (xs ++ x ∷ []) ≡ Is d rest → ⊥
  stmt_not_by_answer (Stmt-F.Item i) l xs x w d rest ends is other at = act_not_by_answer i.act i.id l (code.first_site i.id) xs x w d rest ends is other at
  stmt_not_by_answer _ l xs x w d rest ends is other at = absurd ends

  -- what ends a function is not done without an answer
  pub not_at_once_done : (ls : List Left) (l : List Value) (d : Done) (rest : List Value) → first_run code ls l [] ≡ Is d rest → EndsNow ls → ⊥
  not_at_once_done (Begin i ∷ ls) l d rest is ends = act_not_at_once i.act i.id l (code.first_site i.id) d rest ends is
  not_at_once_done (Run s ∷ ls) l d rest is ends = stmt_not_at_once (out-Stmt s) l d rest ends is
  not_at_once_done _ l d rest is ends = absurd ends

  -- nor by an answer to anything but its return
  pub not_by_answer_done : (ls : List Left) (l xs : List Value) (x : Value) (w : Want) (d : Done) (rest : List Value)
      → first_run code ls l xs ≡ Wants w → (IsReturn w → ⊥) → first_run code ls l (xs ++ x ∷ []) ≡ Is d rest → EndsNow ls → ⊥
  not_by_answer_done (Begin i ∷ ls) l xs x w d rest is other at ends = act_not_by_answer i.act i.id l (code.first_site i.id) xs x w d rest ends is other at
  not_by_answer_done (Run s ∷ ls) l xs x w d rest is other at ends = stmt_not_by_answer (out-Stmt s) l xs x w d rest ends is other at
  not_by_answer_done _ l xs x w d rest is other at ends = absurd ends
