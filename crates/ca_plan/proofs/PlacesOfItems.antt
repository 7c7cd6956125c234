-- The places of the items of statements, by their parts.
use Rattle.std.proofs.Common.{◌≡◌, ℕ, suc, ◌+◌, ◌<◌, ◌≤◌, List, [], ◌∷◌, ◌++◌, map, length, Option, Some, None, drop, get_or, refl, sym, ap, ◌∙◌, append_assoc, append-nil, add-one}
use Rattle.std.specs.Prelude.{slice_get}
use Rattle.std.proofs.Math.Seq.{drop-cons}
use Rattle.std.proofs.lemmas.List.{map-append, drop_all}
use Rattle.std.proofs.lemmas.Option.{slice_get_within, get_or_from_slice_get}
use Rattle.ca_tree.specs.declared.text.Pos.{Pos}
use Rattle.ca_model.specs.declared.tree.Item.{Item}
use Rattle.ca_model.specs.declared.tree.Function.{Function}
use Rattle.ca_model.specs.declared.tree.Stmt.{Stmt}
use Rattle.ca_model.specs.declared.tree.Stmt.TheVariants as s
use Rattle.ca_model.specs.Sites.{if_any, joined, items_in, items_in_all, items_of, all_items}
use Rattle.ca_model.proofs.Equations.{items_out, items_block}

abbrev places : List Item → List Pos
places = map (λ (i : Item). i.pos)

joined_items : (xs : List Stmt) → joined (map items_in xs) ≡ items_in_all xs
joined_items [] = refl
joined_items (x ∷ xs) = ap (λ is. items_in x ++ is) (joined_items xs)

-- places behind others
then_places : (l k m : List Pos) (is js : List Item) → k ≡ l ++ places is → m ≡ k ++ places js → m ≡ l ++ places (is ++ js)
then_places l k m is js one two =
    two ∙ (ap (λ ps. ps ++ places js) one ∙ (append_assoc l (places is) (places js) ∙ ap (λ ps. l ++ ps) (sym (map-append (λ (i : Item). i.pos) is js))))

pub placed_block : (x : Stmt) (xs : List Stmt) (l m : List Pos) → x ≡ s.Block xs → m ≡ l ++ places (items_in_all xs) → m ≡ l ++ places (items_in x)
placed_block x xs l m is h = h ∙ ap (λ ys. l ++ places ys) (sym (ap items_in is ∙ items_block xs ∙ joined_items xs))

pub placed_else : (x : Stmt) (c : Item) (a b : Stmt) (l k j m : List Pos) → x ≡ s.If c a (Some b) → k ≡ l ++ c.pos ∷ [] → j ≡ k ++ places (items_in a) → m ≡ j ++ places (items_in b) → m ≡ l ++ places (items_in x)
placed_else x c a b l k j m is one two three =
    then_places l j m (c ∷ items_in a) (items_in b) (then_places l k j (c ∷ []) (items_in a) one two) three ∙ ap (λ ys. l ++ places ys) (sym (ap items_in is ∙ items_out (s.If c a (Some b)) _ (s.outs-If c a (Some b))))

pub placed_do : (x a : Stmt) (c : Item) (l k m : List Pos) → x ≡ s.Do a c → k ≡ l ++ places (items_in a) → m ≡ k ++ c.pos ∷ [] → m ≡ l ++ places (items_in x)
placed_do x a c l k m is one two =
    then_places l k m (items_in a) (c ∷ []) one two ∙ ap (λ ys. l ++ places ys) (sym (ap items_in is ∙ items_out (s.Do a c) _ (s.outs-Do a c)))

pub placed_if : (x : Stmt) (c : Item) (a : Stmt) (l k m : List Pos) → x ≡ s.If c a None → k ≡ l ++ c.pos ∷ [] → m ≡ k ++ places (items_in a) → m ≡ l ++ places (items_in x)
placed_if x c a l k m is one two =
    then_places l k m (c ∷ []) (items_in a) one two ∙ (ap (λ ys. l ++ places (c ∷ ys)) (sym (append-nil (items_in a))) ∙ ap (λ ys. l ++ places ys) (sym (ap items_in is ∙ items_out (s.If c a None) _ (s.outs-If c a None))))

pub placed_while : (x : Stmt) (c : Item) (a : Stmt) (l k m : List Pos) → x ≡ s.While c a → k ≡ l ++ c.pos ∷ [] → m ≡ k ++ places (items_in a) → m ≡ l ++ places (items_in x)
placed_while x c a l k m is one two = then_places l k m (c ∷ []) (items_in a) one two ∙ ap (λ ys. l ++ places ys) (sym (ap items_in is ∙ items_out (s.While c a) _ (s.outs-While c a)))

pub placed_for : (x : Stmt) (first : Option Item) (c : Item) (step : Option Item) (a : Stmt) (l h k j m : List Pos) → x ≡ s.For first c step a → h ≡ l ++ places (if_any first) → k ≡ h ++ c.pos ∷ [] → j ≡ k ++ places (if_any step)
    → m ≡ j ++ places (items_in a) → m ≡ l ++ places (items_in x)
placed_for x first c step a l h k j m is one two three four =
    then_places l h m (if_any first) (c ∷ (if_any step ++ items_in a)) one (then_places h k m (c ∷ []) (if_any step ++ items_in a) two (then_places k j m (if_any step) (items_in a) three four))
    ∙ ap (λ ys. l ++ places ys) (sym (ap items_in is ∙ items_out (s.For first c step a) _ (s.outs-For first c step a)))

from_next : {A : Type 0} (xs : List A) (i : ℕ) (x : A) → i < length xs → x ≡ get_or xs i x → drop i xs ≡ x ∷ drop (i + 1) xs
from_next xs i x lt is = drop-cons xs i x lt ∙ ap (λ y. y ∷ drop (suc i) xs) (sym is) ∙ ap (λ (k : ℕ). x ∷ drop k xs) (sym (add-one i))

pub next_placed : (xs : List Stmt) (k m : List Pos) (i : ℕ) (x : Stmt) (whole : List Pos) → i < length xs → x ≡ get_or xs i x → k ++ places (items_in_all (drop i xs)) ≡ whole → m ≡ k ++ places (items_in x) → m ++ places (items_in_all (drop (i + 1) xs)) ≡ whole
next_placed xs k m i x whole lt is before here =
    then_places k m (m ++ places (items_in_all (drop (i + 1) xs))) (items_in x) (items_in_all (drop (i + 1) xs)) here refl ∙ (ap (λ ys. k ++ places (items_in_all ys)) (sym (from_next xs i x lt is)) ∙ before)

pub placed_function : (f : Function) (l k m : List Pos) → k ≡ l ++ places (items_in_all f.body) → m ≡ k ++ f.close.pos ∷ [] → m ≡ l ++ places (items_of f)
placed_function f l k m one two = then_places l k m (items_in_all f.body) (f.close ∷ []) one two

pub next_function : (fs : List Function) (k m : List Pos) (i n : ℕ) (f : Function) (whole : List Pos) → n ≡ i + 1 → slice_get fs i ≡ Some f → k ++ places (all_items (drop i fs)) ≡ whole → m ≡ k ++ places (items_of f) → m ++ places (all_items (drop n fs)) ≡ whole
next_function fs k m i n f whole next at before here =
    ap (λ j. m ++ places (all_items (drop j fs))) next ∙ (then_places k m (m ++ places (all_items (drop (i + 1) fs))) (items_of f) (all_items (drop (i + 1) fs)) here refl
    ∙ (ap (λ ys. k ++ places (all_items ys)) (sym (from_next fs i f (slice_get_within fs i f at) (sym (get_or_from_slice_get fs i f f at)))) ∙ before))

pub none_left : (fs : List Function) (k : List Pos) (n : ℕ) (whole : List Pos) → length fs ≤ n → k ++ places (all_items (drop n fs)) ≡ whole → k ≡ whole
none_left fs k n whole le is = sym (append-nil k) ∙ (ap (λ gs. k ++ places (all_items gs)) (sym (drop_all n fs le)) ∙ is)
