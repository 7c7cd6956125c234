-- What is counted behind statements and functions, by their parts.
use Rattle.std.proofs.Common.{◌≡◌, ℕ, suc, ◌+◌, ◌<◌, List, [], ◌∷◌, ◌++◌, map, length, Some, drop, get_or, refl, sym, ap, ◌∙◌, add-one, append_assoc, append-nil}
use Rattle.ca_model.specs.declared.tree.Item.{Item}
use Rattle.ca_model.specs.declared.tree.Function.{Function}
use Rattle.ca_model.specs.declared.tree.Stmt.{Stmt}
use Rattle.ca_model.specs.declared.tree.Stmt.TheVariants as s
use Rattle.ca_model.specs.Sites.{joined, act_sites, items_in, items_in_all, items_of, all_items}
use Rattle.ca_model.proofs.Equations.{items_out, items_block}
use Rattle.std.specs.Prelude.{slice_get, ◌≤◌}
use Rattle.std.proofs.lemmas.Option.{slice_get_within, get_or_from_slice_get}
use Rattle.std.proofs.Math.Seq.{drop-cons}
use Rattle.std.proofs.lemmas.List.{drop_all}
use Rattle.ca_tables.specs.Counted.{Counted, count_item, count_items, count_functions, behind_each}

pub count_append : (l : Counted) (is js : List Item) → count_items l (is ++ js) ≡ count_items (count_items l is) js
count_append l [] js = refl
count_append l (i ∷ is) js = count_append (count_item l i) is js

pub joined_items : (xs : List Stmt) → joined (map items_in xs) ≡ items_in_all xs
joined_items [] = refl
joined_items (x ∷ xs) = ap (λ is. items_in x ++ is) (joined_items xs)

-- ---- statements

pub counted_block : (x : Stmt) (xs : List Stmt) (l m : Counted) → x ≡ s.Block xs → m ≡ count_items l (items_in_all xs) → m ≡ count_items l (items_in x)
counted_block x xs l m is h = h ∙ ap (count_items l) (sym (ap items_in is ∙ items_block xs ∙ joined_items xs))

pub counted_else : (x : Stmt) (c : Item) (a b : Stmt) (l k m : Counted) → x ≡ s.If c a (Some b) → k ≡ count_items (count_item l c) (items_in a) → m ≡ count_items k (items_in b) → m ≡ count_items l (items_in x)
counted_else x c a b l k m is first second =
    second ∙ ap (λ k. count_items k (items_in b)) first ∙ sym (count_append (count_item l c) (items_in a) (items_in b)) ∙ ap (count_items l) (sym (ap items_in is ∙ items_out (s.If c a (Some b)) _ (s.outs-If c a (Some b))))

pub counted_do : (x a : Stmt) (c : Item) (l k m : Counted) → x ≡ s.Do a c → k ≡ count_items l (items_in a) → m ≡ count_item k c → m ≡ count_items l (items_in x)
counted_do x a c l k m is first second =
    second ∙ ap (λ k. count_item k c) first ∙ sym (count_append l (items_in a) (c ∷ [])) ∙ ap (count_items l) (sym (ap items_in is ∙ items_out (s.Do a c) _ (s.outs-Do a c)))

-- ---- loops

pub from_next : {A : Type 0} (xs : List A) (i : ℕ) (x : A) → i < length xs → x ≡ get_or xs i x → drop i xs ≡ x ∷ drop (i + 1) xs
from_next xs i x lt is = drop-cons xs i x lt ∙ ap (λ y. y ∷ drop (suc i) xs) (sym is) ∙ ap (λ (k : ℕ). x ∷ drop k xs) (sym (add-one i))

pub next_statement : (xs : List Stmt) (k m : Counted) (i : ℕ) (x : Stmt) (whole : Counted) → i < length xs → x ≡ get_or xs i x → count_items k (items_in_all (drop i xs)) ≡ whole → m ≡ count_items k (items_in x)
    → count_items m (items_in_all (drop (i + 1) xs)) ≡ whole
next_statement xs k m i x whole lt is before here =
    ap (λ m. count_items m (items_in_all (drop (i + 1) xs))) here ∙ sym (count_append k (items_in x) (items_in_all (drop (i + 1) xs))) ∙ ap (λ ys. count_items k (items_in_all ys)) (sym (from_next xs i x lt is)) ∙ before

pub counted_function : (f : Function) (l k m : Counted) → k ≡ count_items l (items_in_all f.body) → m ≡ count_item k f.close → m ≡ count_items l (items_of f)
counted_function f l k m first second = second ∙ ap (λ k. count_item k f.close) first ∙ sym (count_append l (items_in_all f.body) (f.close ∷ []))

-- ---- the whole

counted_all : (l : Counted) (fs : List Function) → count_functions l fs ≡ count_items l (all_items fs)
counted_all l [] = refl
counted_all l (f ∷ fs) = counted_all (count_items l (items_of f)) fs ∙ sym (count_append l (items_of f) (all_items fs))

each_behind : (l : Counted) (is : List Item) → (count_items l is).behind ≡ l.behind ++ behind_each l.next is
each_behind l [] = sym (append-nil l.behind)
each_behind l (i ∷ is) = each_behind (count_item l i) is ∙ append_assoc l.behind ((l.next + act_sites i.act) ∷ []) (behind_each (l.next + act_sites i.act) is)

pub numbers_are : (m : Counted) (fs : List Function) → m ≡ count_functions (record { behind = 1 ∷ []; next = 1 }) fs → m.behind ≡ 1 ∷ behind_each 1 (all_items fs)
numbers_are m fs is = ap (λ m. m.behind) (is ∙ counted_all (record { behind = 1 ∷ []; next = 1 }) fs) ∙ each_behind (record { behind = 1 ∷ []; next = 1 }) (all_items fs)

pub next_function : (fs : List Function) (k m : Counted) (i n : ℕ) (f : Function) (whole : Counted) → n ≡ i + 1 → slice_get fs i ≡ Some f → count_functions k (drop i fs) ≡ whole → m ≡ count_items k (items_of f) → count_functions m (drop n fs) ≡ whole
next_function fs k m i n f whole next at before here =
    let within : i < length fs = slice_get_within fs i f at in
    ap (λ m. count_functions m (drop n fs)) here ∙ ap (λ j. count_functions (count_items k (items_of f)) (drop j fs)) next ∙ ap (count_functions k) (sym (from_next fs i f within (sym (get_or_from_slice_get fs i f f at)))) ∙ before

pub none_left : (fs : List Function) (k : Counted) (n : ℕ) (whole : Counted) → length fs ≤ n → count_functions k (drop n fs) ≡ whole → k ≡ whole
none_left fs k n whole le is = ap (count_functions k) (sym (drop_all n fs le)) ∙ is
