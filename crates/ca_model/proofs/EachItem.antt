-- What holds of each item of statements, by their parts.
use Rattle.std.proofs.Common.{◌≡◌, List, [], ◌∷◌, ◌++◌, Option, Some, None, refl, sym, ap, ◌∙◌, subst, append_assoc, append-nil}
use Rattle.std.specs.Prelude.{All, IfSome}
use Rattle.std.proofs.lemmas.List.Elements.{All-nil, All-cons, All-append}
use Rattle.ca_model.specs.declared.tree.Item.{Item}
use Rattle.ca_model.specs.declared.tree.Stmt.{Stmt}
use Rattle.ca_model.specs.declared.tree.Stmt.TheVariants as s
use Rattle.ca_model.specs.Sites.{if_any, items_in, items_in_all}
use Rattle.ca_model.specs.typing.Statements.{single}
use Rattle.ca_model.proofs.Equations.{items_out, items_item, items_while, items_block}
use Rattle.ca_model.proofs.ItemCounts.{joined_all}

module _ (G : Item → Type 0) where
  -- it holds of each item of statements
  abbrev pub EachOf : List Stmt → Type 0
  EachOf xs = All G (items_in_all xs)

  abbrev Of : Stmt → Type 0
  Of x = All G (items_in x)

  pub each_of_none : EachOf []
  each_of_none = All-nil G

  pub each_of_first : (x : Stmt) (xs : List Stmt) → All G (items_in x) → EachOf xs → EachOf (x ∷ xs)
  each_of_first x xs h more = All-append G (items_in x) (items_in_all xs) h more

  one : (x : Stmt) (is : List Item) → items_in x ≡ is → All G is → EachOf (x ∷ [])
  one x is same h = each_of_first x [] (subst (All G) (sym same) h) each_of_none

  items_both : (xs ys : List Stmt) → items_in_all (xs ++ ys) ≡ items_in_all xs ++ items_in_all ys
  items_both [] ys = refl
  items_both (x ∷ xs) ys = ap (λ is. items_in x ++ is) (items_both xs ys) ∙ sym (append_assoc (items_in x) (items_in_all xs) (items_in_all ys))

  pub each_of_both : (xs ys : List Stmt) → EachOf xs → EachOf ys → EachOf (xs ++ ys)
  each_of_both xs ys h more = subst (All G) (sym (items_both xs ys)) (All-append G (items_in_all xs) (items_in_all ys) h more)

  in_block : (xs : List Stmt) → items_in (s.Block xs) ≡ items_in_all xs
  in_block xs = items_block xs ∙ joined_all xs

  of_block : (xs : List Stmt) → EachOf xs → Of (s.Block xs)
  of_block xs h = subst (All G) (sym (in_block xs)) h

  in_single : (xs : List Stmt) → items_in (single xs) ≡ items_in_all xs
  in_single [] = in_block []
  in_single (x ∷ []) = sym (append-nil (items_in x))
  in_single (x ∷ y ∷ xs) = in_block (x ∷ y ∷ xs)

  of_single : (xs : List Stmt) → EachOf xs → Of (single xs)
  of_single xs h = subst (All G) (sym (in_single xs)) h

  if_each : (i : Option Item) → IfSome i G → All G (if_any i)
  if_each None h = All-nil G
  if_each (Some i) h = All-cons G i [] h (All-nil G)

  -- ---- each statement by itself

  pub each_of_item : (i : Item) → G i → EachOf (s.Item i ∷ [])
  each_of_item i h = one (s.Item i) (i ∷ []) (items_item i) (All-cons G i [] h (All-nil G))

  pub each_of_block : (xs : List Stmt) → EachOf xs → EachOf (s.Block xs ∷ [])
  each_of_block xs h = one (s.Block xs) (items_in_all xs) (in_block xs) h

  pub each_of_break : EachOf (s.Break ∷ [])
  each_of_break = one s.Break [] (items_out s.Break _ s.outs-Break) (All-nil G)

  pub each_of_continue : EachOf (s.Continue ∷ [])
  each_of_continue = one s.Continue [] (items_out s.Continue _ s.outs-Continue) (All-nil G)

  pub each_of_if : (c : Item) (xs : List Stmt) → G c → EachOf xs → EachOf (s.If c (single xs) None ∷ [])
  each_of_if c xs h more =
      one (s.If c (single xs) None) (c ∷ (items_in (single xs) ++ [])) (items_out (s.If c (single xs) None) _ (s.outs-If c (single xs) None))
      (All-cons G c (items_in (single xs) ++ []) h (All-append G (items_in (single xs)) [] (of_single xs more) (All-nil G)))

  pub each_of_else : (c : Item) (xs ys : List Stmt) → G c → EachOf xs → EachOf ys → EachOf (s.If c (single xs) (Some (single ys)) ∷ [])
  each_of_else c xs ys h more others =
      one (s.If c (single xs) (Some (single ys))) (c ∷ (items_in (single xs) ++ items_in (single ys))) (items_out (s.If c (single xs) (Some (single ys))) _ (s.outs-If c (single xs) (Some (single ys))))
      (All-cons G c (items_in (single xs) ++ items_in (single ys)) h (All-append G (items_in (single xs)) (items_in (single ys)) (of_single xs more) (of_single ys others)))

  pub each_of_while : (c : Item) (xs : List Stmt) → G c → EachOf xs → EachOf (s.While c (single xs) ∷ [])
  each_of_while c xs h more = one (s.While c (single xs)) (c ∷ items_in (single xs)) (items_while c (single xs)) (All-cons G c (items_in (single xs)) h (of_single xs more))

  pub each_of_do : (xs : List Stmt) (c : Item) → EachOf xs → G c → EachOf (s.Do (single xs) c ∷ [])
  each_of_do xs c more h =
      one (s.Do (single xs) c) (items_in (single xs) ++ c ∷ []) (items_out (s.Do (single xs) c) _ (s.outs-Do (single xs) c))
      (All-append G (items_in (single xs)) (c ∷ []) (of_single xs more) (All-cons G c [] h (All-nil G)))

  pub each_of_for : (first : Option Item) (c : Item) (step : Option Item) (xs : List Stmt) → IfSome first G → G c → IfSome step G → EachOf xs → EachOf (s.For first c step (single xs) ∷ [])
  each_of_for first c step xs h i j more =
      one (s.For first c step (single xs)) (if_any first ++ (c ∷ (if_any step ++ items_in (single xs)))) (items_out (s.For first c step (single xs)) _ (s.outs-For first c step (single xs)))
      (All-append G (if_any first) (c ∷ (if_any step ++ items_in (single xs))) (if_each first h)
      (All-cons G c (if_any step ++ items_in (single xs)) i (All-append G (if_any step) (items_in (single xs)) (if_each step j) (of_single xs more))))
