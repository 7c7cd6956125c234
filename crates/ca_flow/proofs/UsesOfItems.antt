-- The uses in statements and functions, by their parts.
use Rattle.std.proofs.Common.{◌≡◌, ℕ, suc, ◌+◌, ◌<◌, List, [], ◌∷◌, ◌++◌, map, length, Some, drop, get_or, Option, refl, sym, ap, ◌∙◌, add-one}
use Rattle.std.proofs.Math.Seq.{drop-cons}
use Rattle.ca_tree.specs.declared.numbers.FunId.{FunId}
use Rattle.ca_model.specs.declared.tree.Item.{Item}
use Rattle.ca_model.specs.declared.tree.Function.{Function}
use Rattle.ca_model.specs.declared.tree.Stmt.{Stmt}
use Rattle.ca_model.specs.declared.tree.Stmt.TheVariants as s
use Rattle.ca_model.specs.Sites.{if_any, joined, items_in, items_in_all, items_of}
use Rattle.ca_model.proofs.Equations.{items_out, items_block}
use Rattle.ca_flow.specs.Tables.{Uses, with_item, with_items}

joined_items : (xs : List Stmt) → joined (map items_in xs) ≡ items_in_all xs
joined_items [] = refl
joined_items (x ∷ xs) = ap (λ is. items_in x ++ is) (joined_items xs)

pub from_next : {A : Type 0} (xs : List A) (i : ℕ) (x : A) → i < length xs → x ≡ get_or xs i x → drop i xs ≡ x ∷ drop (i + 1) xs
from_next xs i x lt is = drop-cons xs i x lt ∙ ap (λ y. y ∷ drop (suc i) xs) (sym is) ∙ ap (λ (k : ℕ). x ∷ drop k xs) (sym (add-one i))

module _ (f : FunId) where
  pub with_append : (u : Uses) (is js : List Item) → with_items f u (is ++ js) ≡ with_items f (with_items f u is) js
  with_append u [] js = refl
  with_append u (i ∷ is) js = with_append (with_item f u i) is js

  pub with_block : (x : Stmt) (xs : List Stmt) (u v : Uses) → x ≡ s.Block xs → v ≡ with_items f u (items_in_all xs) → v ≡ with_items f u (items_in x)
  with_block x xs u v is h = h ∙ ap (with_items f u) (sym (ap items_in is ∙ items_block xs ∙ joined_items xs))

  pub with_else : (x : Stmt) (c : Item) (a b : Stmt) (u k v : Uses) → x ≡ s.If c a (Some b) → k ≡ with_items f (with_item f u c) (items_in a) → v ≡ with_items f k (items_in b) → v ≡ with_items f u (items_in x)
  with_else x c a b u k v is first second =
      second ∙ ap (λ k. with_items f k (items_in b)) first ∙ sym (with_append (with_item f u c) (items_in a) (items_in b)) ∙ ap (with_items f u) (sym (ap items_in is ∙ items_out (s.If c a (Some b)) _ (s.outs-If c a (Some b))))

  pub with_do : (x a : Stmt) (c : Item) (u k v : Uses) → x ≡ s.Do a c → k ≡ with_items f u (items_in a) → v ≡ with_item f k c → v ≡ with_items f u (items_in x)
  with_do x a c u k v is first second =
      second ∙ ap (λ k. with_item f k c) first ∙ sym (with_append u (items_in a) (c ∷ [])) ∙ ap (with_items f u) (sym (ap items_in is ∙ items_out (s.Do a c) _ (s.outs-Do a c)))

  pub with_for : (x a : Stmt) (first step : Option Item) (c : Item) (u j k l v : Uses) → x ≡ s.For first c step a → j ≡ with_items f u (if_any first) → k ≡ with_item f j c → l ≡ with_items f k (if_any step) → v ≡ with_items f l (items_in a)
      → v ≡ with_items f u (items_in x)
  with_for x a first step c u j k l v is begun tested stepped done =
      done ∙ ap (λ l. with_items f l (items_in a)) (stepped ∙ ap (λ k. with_items f k (if_any step)) (tested ∙ ap (λ j. with_item f j c) begun))
      ∙ sym (with_append (with_item f (with_items f u (if_any first)) c) (if_any step) (items_in a)) ∙ sym (with_append u (if_any first) (c ∷ (if_any step ++ items_in a)))
      ∙ ap (with_items f u) (sym (ap items_in is ∙ items_out (s.For first c step a) _ (s.outs-For first c step a)))

  pub next_statement : (xs : List Stmt) (k m : Uses) (i : ℕ) (x : Stmt) (whole : Uses) → i < length xs → x ≡ get_or xs i x → with_items f k (items_in_all (drop i xs)) ≡ whole → m ≡ with_items f k (items_in x)
      → with_items f m (items_in_all (drop (i + 1) xs)) ≡ whole
  next_statement xs k m i x whole lt is before here =
      ap (λ m. with_items f m (items_in_all (drop (i + 1) xs))) here ∙ sym (with_append k (items_in x) (items_in_all (drop (i + 1) xs))) ∙ ap (λ ys. with_items f k (items_in_all ys)) (sym (from_next xs i x lt is)) ∙ before

pub with_function : (f : Function) (u k v : Uses) → k ≡ with_items f.id u (items_in_all f.body) → v ≡ with_item f.id k f.close → v ≡ with_items f.id u (items_of f)
with_function f u k v first second = second ∙ ap (λ k. with_item f.id k f.close) first ∙ sym (with_append f.id u (items_in_all f.body) (f.close ∷ []))
