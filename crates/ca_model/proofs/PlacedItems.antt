-- Statements whose items are numbered one after another and stand where they may, in a loop or not.
use Rattle.std.proofs.Common.{◌≡◌, ℕ, suc, Bool, true, false, not, ◌&&◌, List, [], ◌∷◌, ◌++◌, map, Option, Some, None, refl, sym, ap, ◌∙◌, subst, append_assoc, append-nil}
use Rattle.std.specs.Prelude.{Contains}
use Rattle.std.proofs.lemmas.List.{map-append}
use Rattle.std.proofs.lemmas.Bool.{and_from, and_parts}
use Rattle.std.proofs.lemmas.List.Elements.{Contains-append_left, Contains-append_right}
use Rattle.ca_model.specs.declared.tree.Item.{Item}
use Rattle.ca_model.specs.declared.tree.Stmt.{Stmt}
use Rattle.ca_model.specs.declared.tree.Stmt.TheVariants as s
use Rattle.ca_model.specs.Codes.{Typed}
use Rattle.ca_model.specs.Sites.{if_any, joined, items_in, items_in_all}
use Rattle.ca_model.specs.Destroying.{is_last}
use Rattle.ca_model.specs.WellFormed.{is_simple, is_condition, knows, is_in_head, all_placed, is_placed}
use Rattle.ca_model.specs.typing.Statements.{single}
use Rattle.ca_model.proofs.Equations.{items_out, items_block}
use Rattle.ca_model.proofs.StraightLines.{placed_out}
use Rattle.ca_model.proofs.Members.{at_head, at_tail}
use Rattle.ca_model.proofs.NumberedLists.{Ascends, no_more, one_more, just_one, and_more}

abbrev pub item_number : Item → ℕ
item_number i = i.id.0

-- the items behind n others, up to the one numbered m
abbrev pub Numbered : ℕ → List Item → ℕ → Type 0
Numbered n is m = Ascends item_number (suc n) is (suc m)

-- what each item names is there
abbrev pub KnowsEach : Typed → List Item → Type 0
KnowsEach p is = (i : Item) → Contains is i → knows p i.act ≡ true

pub knows_left : (p : Typed) (is js : List Item) → KnowsEach p (is ++ js) → KnowsEach p is
knows_left p is js each i c = each i (Contains-append_left is js i c)

knows_right : (p : Typed) (is js : List Item) → KnowsEach p (is ++ js) → KnowsEach p js
knows_right p is js each i c = each i (Contains-append_right is js i c)

knows_first : (p : Typed) (i : Item) (is : List Item) → KnowsEach p (i ∷ is) → knows p i.act ≡ true
knows_first p i is each = each i (at_head i is)

knows_rest : (p : Typed) (i : Item) (is : List Item) → KnowsEach p (i ∷ is) → KnowsEach p is
knows_rest p i is each j c = each j (at_tail i is j c)

-- a statement, and statements in order
pub record Stands (b : Bool) (n : ℕ) (x : Stmt) (m : ℕ) : Type 0 where
  pub items : Numbered n (items_in x) m
  pub placed : (p : Typed) → KnowsEach p (items_in x) → is_placed p x b ≡ true

pub record AllStand (b : Bool) (n : ℕ) (xs : List Stmt) (m : ℕ) : Type 0 where
  pub items : Numbered n (items_in_all xs) m
  pub placed : (p : Typed) → KnowsEach p (items_in_all xs) → all_placed (map (is_placed p) xs) b ≡ true

-- ---- lists

items_append : (xs ys : List Stmt) → items_in_all (xs ++ ys) ≡ items_in_all xs ++ items_in_all ys
items_append [] ys = refl
items_append (x ∷ xs) ys = ap (λ is. items_in x ++ is) (items_append xs ys) ∙ sym (append_assoc (items_in x) (items_in_all xs) (items_in_all ys))

placed_append : (fs gs : List (Bool → Bool)) (b : Bool) → all_placed fs b ≡ true → all_placed gs b ≡ true → all_placed (fs ++ gs) b ≡ true
placed_append [] gs b h more = more
placed_append (f ∷ fs) gs b h more = let parts = and_parts (f b) (all_placed fs b) h in and_from (f b) _ parts.0 (placed_append fs gs b parts.1 more)

pub none_stands : {b : Bool} {n : ℕ} → AllStand b n [] n
none_stands = record { items = no_more; placed = λ p each. refl }

pub then_stand : {b : Bool} {n k m : ℕ} {xs ys : List Stmt} → AllStand b n xs k → AllStand b k ys m → AllStand b n (xs ++ ys) m
then_stand {b = b} {n = n} {m = m} {xs = xs} {ys = ys} h more = record {
  items = subst (λ is. Numbered n is m) (sym (items_append xs ys)) (and_more h.items more.items);
  placed = λ p each.
      let both : KnowsEach p (items_in_all xs ++ items_in_all ys) = subst (KnowsEach p) (items_append xs ys) each in
      ap (λ fs. all_placed fs b) (map-append (is_placed p) xs ys)
      ∙ placed_append (map (is_placed p) xs) (map (is_placed p) ys) b (h.placed p (knows_left p (items_in_all xs) (items_in_all ys) both)) (more.placed p (knows_right p (items_in_all xs) (items_in_all ys) both));
}

pub alone_stands : {b : Bool} {n m : ℕ} {x : Stmt} → Stands b n x m → AllStand b n (x ∷ []) m
alone_stands {b = b} {n = n} {m = m} {x = x} h = record {
  items = subst (λ is. Numbered n is m) (sym (append-nil (items_in x))) h.items;
  placed = λ p each. and_from (is_placed p x b) true (h.placed p (subst (KnowsEach p) (append-nil (items_in x)) each)) refl;
}

-- ---- layers

module _ {b : Bool} {n m : ℕ} {x : Stmt} (is : List Item) (f : Typed → Bool) (items_are : items_in x ≡ is) (placed_as : (p : Typed) → is_placed p x b ≡ f p) where
  stands_by : Numbered n is m → ((p : Typed) → KnowsEach p is → f p ≡ true) → Stands b n x m
  stands_by items placed = record {
    items = subst (λ js. Numbered n js m) (sym items_are) items;
    placed = λ p each. placed_as p ∙ placed p (subst (KnowsEach p) items_are each);
  }

joined_is : (xs : List Stmt) → joined (map items_in xs) ≡ items_in_all xs
joined_is [] = refl
joined_is (x ∷ xs) = ap (λ is. items_in x ++ is) (joined_is xs)

pub block_stands : {b : Bool} {n m : ℕ} {xs : List Stmt} → AllStand b n xs m → Stands b n (s.Block xs) m
block_stands {b = b} {xs = xs} h = stands_by (items_in_all xs) (λ p. all_placed (map (is_placed p) xs) b) (items_block xs ∙ joined_is xs) (λ p. ap (λ (f : Bool → Bool). f b) (placed_out p (s.Block xs) _ (s.outs-Block xs))) h.items h.placed

-- what stands in braces, or by itself
pub single_stands : {b : Bool} {n m : ℕ} (xs : List Stmt) → AllStand b n xs m → Stands b n (single xs) m
single_stands [] h = block_stands h
single_stands {b = b} {n = n} {m = m} (x ∷ []) h = record {
  items = subst (λ is. Numbered n is m) (append-nil (items_in x)) h.items;
  placed = λ p each. (and_parts (is_placed p x b) true (h.placed p (subst (KnowsEach p) (sym (append-nil (items_in x))) each))).0;
}
single_stands (x ∷ y ∷ xs) h = block_stands h

pub item_stands : {b : Bool} {n : ℕ} (i : Item) → i.id.0 ≡ suc n → is_simple i.act ≡ true → Stands b n (s.Item i) (suc n)
item_stands {b = b} i number simple =
    stands_by (i ∷ []) (λ p. is_simple i.act && knows p i.act) (items_out (s.Item i) _ (s.outs-Item i)) (λ p. ap (λ (f : Bool → Bool). f b) (placed_out p (s.Item i) _ (s.outs-Item i))) (just_one i number)
    (λ p each. and_from (is_simple i.act) (knows p i.act) simple (knows_first p i [] each))

pub break_stands : {n : ℕ} → Stands true n s.Break n
break_stands = stands_by [] (λ p. true) (items_out s.Break _ s.outs-Break) (λ p. ap (λ (f : Bool → Bool). f true) (placed_out p s.Break _ s.outs-Break)) no_more (λ p each. refl)

pub continue_stands : {n : ℕ} → Stands true n s.Continue n
continue_stands = stands_by [] (λ p. true) (items_out s.Continue _ s.outs-Continue) (λ p. ap (λ (f : Bool → Bool). f true) (placed_out p s.Continue _ s.outs-Continue)) no_more (λ p each. refl)

pub if_stands : {b : Bool} {n m : ℕ} {x : Stmt} (c : Item) → c.id.0 ≡ suc n → is_condition c.act ≡ true → Stands b (suc n) x m → Stands b n (s.If c x None) m
if_stands {b = b} {n = n} {m = m} {x = x} c number condition h =
    stands_by (c ∷ (items_in x ++ [])) (λ p. is_condition c.act && (is_placed p x b && true)) (items_out (s.If c x None) _ (s.outs-If c x None))
    (λ p. ap (λ (f : Bool → Bool). f b) (placed_out p (s.If c x None) _ (s.outs-If c x None))) (one_more number (subst (λ is. Numbered (suc n) is m) (sym (append-nil (items_in x))) h.items))
    (λ p each. and_from (is_condition c.act) _ condition (and_from (is_placed p x b) true (h.placed p (knows_left p (items_in x) [] (knows_rest p c (items_in x ++ []) each))) refl))

pub else_stands : {b : Bool} {n k m : ℕ} {x y : Stmt} (c : Item) → c.id.0 ≡ suc n → is_condition c.act ≡ true → Stands b (suc n) x k → Stands b k y m → Stands b n (s.If c x (Some y)) m
else_stands {b = b} {x = x} {y = y} c number condition h more =
    stands_by (c ∷ (items_in x ++ items_in y)) (λ p. is_condition c.act && (is_placed p x b && is_placed p y b)) (items_out (s.If c x (Some y)) _ (s.outs-If c x (Some y)))
    (λ p. ap (λ (f : Bool → Bool). f b) (placed_out p (s.If c x (Some y)) _ (s.outs-If c x (Some y)))) (one_more number (and_more h.items more.items))
    (λ p each.
    let rest : KnowsEach p (items_in x ++ items_in y) = knows_rest p c (items_in x ++ items_in y) each in
    and_from (is_condition c.act) _ condition (and_from (is_placed p x b) _ (h.placed p (knows_left p (items_in x) (items_in y) rest)) (more.placed p (knows_right p (items_in x) (items_in y) rest))))

pub while_stands : {b : Bool} {n m : ℕ} {x : Stmt} (c : Item) → c.id.0 ≡ suc n → is_condition c.act ≡ true → Stands true (suc n) x m → Stands b n (s.While c x) m
while_stands {b = b} {x = x} c number condition h =
    stands_by (c ∷ items_in x) (λ p. is_condition c.act && is_placed p x true) (items_out (s.While c x) _ (s.outs-While c x)) (λ p. ap (λ (f : Bool → Bool). f b) (placed_out p (s.While c x) _ (s.outs-While c x)))
    (one_more number h.items) (λ p each. and_from (is_condition c.act) _ condition (h.placed p (knows_rest p c (items_in x) each)))

pub do_stands : {b : Bool} {n m : ℕ} {x : Stmt} (c : Item) → c.id.0 ≡ suc m → is_condition c.act ≡ true → Stands true n x m → Stands b n (s.Do x c) (suc m)
do_stands {b = b} {x = x} c number condition h =
    stands_by (items_in x ++ (c ∷ [])) (λ p. is_condition c.act && is_placed p x true) (items_out (s.Do x c) _ (s.outs-Do x c)) (λ p. ap (λ (f : Bool → Bool). f b) (placed_out p (s.Do x c) _ (s.outs-Do x c)))
    (and_more h.items (just_one c number)) (λ p each. and_from (is_condition c.act) _ condition (h.placed p (knows_left p (items_in x) (c ∷ []) each)))

-- the initialiser or the step of a `for`
pub record StandsInHead (n : ℕ) (x : Option Item) (m : ℕ) : Type 0 where
  pub items : Numbered n (if_any x) m
  pub placed : (p : Typed) → KnowsEach p (if_any x) → is_in_head p x ≡ true

pub none_in_head : {n : ℕ} → StandsInHead n None n
none_in_head = record { items = no_more; placed = λ p each. refl }

pub some_in_head : {n : ℕ} (i : Item) → i.id.0 ≡ suc n → is_simple i.act ≡ true → is_last i.act ≡ false → StandsInHead n (Some i) (suc n)
some_in_head i number simple last = record {
  items = just_one i number;
  placed = λ p each. and_from (is_simple i.act) _ simple (and_from (not (is_last i.act)) _ (ap not last) (knows_first p i [] each));
}

pub for_stands : {b : Bool} {n k j m : ℕ} {f g : Option Item} {x : Stmt} (c : Item) → StandsInHead n f k → c.id.0 ≡ suc k → is_condition c.act ≡ true → StandsInHead (suc k) g j → Stands true j x m
    → Stands b n (s.For f c g x) m
for_stands {b = b} {f = f} {g = g} {x = x} c first number condition step h =
    stands_by (if_any f ++ (c ∷ (if_any g ++ items_in x))) (λ p. is_in_head p f && (is_condition c.act && (is_in_head p g && is_placed p x true))) (items_out (s.For f c g x) _ (s.outs-For f c g x))
    (λ p. ap (λ (f : Bool → Bool). f b) (placed_out p (s.For f c g x) _ (s.outs-For f c g x))) (and_more first.items (one_more number (and_more step.items h.items)))
    (λ p each.
    let behind : KnowsEach p (if_any g ++ items_in x) = knows_rest p c (if_any g ++ items_in x) (knows_right p (if_any f) (c ∷ (if_any g ++ items_in x)) each) in
    and_from (is_in_head p f) _ (first.placed p (knows_left p (if_any f) (c ∷ (if_any g ++ items_in x)) each))
    (and_from (is_condition c.act) _ condition (and_from (is_in_head p g) _ (step.placed p (knows_left p (if_any g) (items_in x) behind)) (h.placed p (knows_right p (if_any g) (items_in x) behind)))))
