-- What is left of a plan's lists behind statements and functions, by their parts.
use Rattle.std.proofs.Common.{◌≡◌, ℕ, suc, ◌+◌, ◌<◌, List, [], ◌∷◌, ◌++◌, map, length, Some, drop, get_or, refl, sym, ap, ◌∙◌, add-one}
use Rattle.std.proofs.Math.Seq.{drop-cons}
use Rattle.ca_model.specs.declared.tree.Item.{Item}
use Rattle.ca_model.specs.declared.tree.Function.{Function}
use Rattle.ca_model.specs.declared.tree.Stmt.{Stmt}
use Rattle.ca_model.specs.declared.tree.Stmt.TheVariants as s
use Rattle.ca_model.specs.Sites.{joined, items_in, items_in_all, items_of}
use Rattle.ca_model.specs.Fitting.{Left, behind_item, begin_function, behind_items, behind_functions}
use Rattle.ca_model.proofs.Equations.{items_out, items_block}

pub behind_append : (l : Left) (is js : List Item) → behind_items l (is ++ js) ≡ behind_items (behind_items l is) js
behind_append l [] js = refl
behind_append l (i ∷ is) js = behind_append (behind_item l i) is js

joined_items : (xs : List Stmt) → joined (map items_in xs) ≡ items_in_all xs
joined_items [] = refl
joined_items (x ∷ xs) = ap (λ is. items_in x ++ is) (joined_items xs)

-- ---- statements

pub behind_block : (x : Stmt) (xs : List Stmt) (l m : Left) → x ≡ s.Block xs → m ≡ behind_items l (items_in_all xs) → m ≡ behind_items l (items_in x)
behind_block x xs l m is h = h ∙ ap (behind_items l) (sym (ap items_in is ∙ items_block xs ∙ joined_items xs))

pub behind_else : (x : Stmt) (c : Item) (a b : Stmt) (l k m : Left) → x ≡ s.If c a (Some b) → k ≡ behind_items (behind_item l c) (items_in a) → m ≡ behind_items k (items_in b) → m ≡ behind_items l (items_in x)
behind_else x c a b l k m is first second =
    second ∙ ap (λ k. behind_items k (items_in b)) first ∙ sym (behind_append (behind_item l c) (items_in a) (items_in b)) ∙ ap (behind_items l) (sym (ap items_in is ∙ items_out (s.If c a (Some b)) _ (s.outs-If c a (Some b))))

pub behind_do : (x a : Stmt) (c : Item) (l k m : Left) → x ≡ s.Do a c → k ≡ behind_items l (items_in a) → m ≡ behind_item k c → m ≡ behind_items l (items_in x)
behind_do x a c l k m is first second =
    second ∙ ap (λ k. behind_item k c) first ∙ sym (behind_append l (items_in a) (c ∷ [])) ∙ ap (behind_items l) (sym (ap items_in is ∙ items_out (s.Do a c) _ (s.outs-Do a c)))

-- ---- loops

from_next : {A : Type 0} (xs : List A) (i : ℕ) (x : A) → i < length xs → x ≡ get_or xs i x → drop i xs ≡ x ∷ drop (i + 1) xs
from_next xs i x lt is = drop-cons xs i x lt ∙ ap (λ y. y ∷ drop (suc i) xs) (sym is) ∙ ap (λ (k : ℕ). x ∷ drop k xs) (sym (add-one i))

pub next_statement : (xs : List Stmt) (k m : Left) (i : ℕ) (x : Stmt) (whole : Left) → i < length xs → x ≡ get_or xs i x → behind_items k (items_in_all (drop i xs)) ≡ whole → m ≡ behind_items k (items_in x)
    → behind_items m (items_in_all (drop (i + 1) xs)) ≡ whole
next_statement xs k m i x whole lt is before here =
    ap (λ m. behind_items m (items_in_all (drop (i + 1) xs))) here ∙ sym (behind_append k (items_in x) (items_in_all (drop (i + 1) xs))) ∙ ap (λ ys. behind_items k (items_in_all ys)) (sym (from_next xs i x lt is)) ∙ before

pub next_function : (fs : List Function) (k m : Left) (i : ℕ) (f : Function) (whole : Left) → i < length fs → f ≡ get_or fs i f → behind_functions k (drop i fs) ≡ whole → m ≡ behind_items (begin_function k f.id) (items_of f)
    → behind_functions m (drop (i + 1) fs) ≡ whole
next_function fs k m i f whole lt is before here = ap (λ m. behind_functions m (drop (i + 1) fs)) here ∙ ap (behind_functions k) (sym (from_next fs i f lt is)) ∙ before

pub behind_function : (f : Function) (l k m : Left) → k ≡ behind_items l (items_in_all f.body) → m ≡ behind_item k f.close → m ≡ behind_items l (items_of f)
behind_function f l k m first second = second ∙ ap (λ k. behind_item k f.close) first ∙ sym (behind_append l (items_in_all f.body) (f.close ∷ []))
