-- Each thing at its first place alone.
use Rattle.std.proofs.Common.{◌≡◌, ◌≤◌, ℕ, zero, suc, Bool, true, false, List, [], ◌∷◌, ◌++◌, take, reverse, refl, sym, ap, ◌∙◌, append_assoc, arith}
use Rattle.std.specs.Prelude.{filter, not, ◌||◌, if◌then◌else◌}
use Rattle.std.proofs.lemmas.Bool.{eqb-true}
use Rattle.std.proofs.lemmas.List.{append-nil}
use Rattle.ca_model.specs.declared.values.Given.{Given}
use Rattle.ca_model.specs.declared.values.Given.TheVariants as given
use Rattle.ca_model.specs.Hardened.{same_given, once, latest_first}
use Rattle.ca_thread.specs.Gives.{has, collected}

-- things that are one
are_one : (a b : Given) → same_given a b ≡ true → a ≡ b
are_one (given.Mutex m) (given.Mutex n) e = ap (λ (k : ℕ). let x : Given = given.Mutex (record { 0 = k }) in x) (eqb-true m.0 n.0 e)
are_one (given.Block m) (given.Block n) e = ap (λ (k : ℕ). let x : Given = given.Block k in x) (eqb-true m n e)
are_one (given.Mutex m) (given.Block n) e = absurd (cc)
are_one (given.Block m) (given.Mutex n) e = absurd (cc)

abbrev Kept : List Given → List Given → List Given
Kept acc = filter (λ h. not (has acc h))

-- what a filter keeps, by whether the first passes
has_both : (acc : List Given) (g h : Given) → has (acc ++ g ∷ []) h ≡ (has acc h || same_given g h)
has_both [] g h = at (same_given g h)
  where
    at : (b : Bool) → (b || false) ≡ (false || b)
    at true = refl
    at false = refl
has_both (a ∷ acc) g h = ap (λ b. same_given a h || b) (has_both acc g h) ∙ at (same_given a h) (has acc h) (same_given g h)
  where
    at : (a b c : Bool) → (a || (b || c)) ≡ ((a || b) || c)
    at true b c = refl
    at false b c = refl

-- a thing that is met, where the things of a list were met before
both_ways : (a b : Bool) → (a || b) ≡ (b || a)
both_ways true true = refl
both_ways true false = refl
both_ways false true = refl
both_ways false false = refl

pub met_new : (list : List Given) (one g : Given) (b c : Bool) → b ≡ (same_given one g || c) → c ≡ has list g → b ≡ has (list ++ one ∷ []) g
met_new list one g b c is known = is ∙ (both_ways (same_given one g) c ∙ (ap (λ d. d || same_given one g) known ∙ sym (has_both list one g)))

abbrev Others : Given → List Given → List Given
Others g = filter (λ h. not (same_given g h))

known_one : (s : Bool) (acc : List Given) (g x : Given) (xs : List Given) → same_given g x ≡ s → has acc g ≡ true → Kept acc (Others g xs) ≡ Kept acc xs
    → Kept acc (if not s then x ∷ Others g xs else Others g xs) ≡ (if not (has acc x) then x ∷ Kept acc xs else Kept acc xs)
known_one true acc g x xs e known more =
    let there : has acc x ≡ true = ap (has acc) (sym (are_one g x e)) ∙ known in more ∙ sym (ap (λ b. if not b then x ∷ Kept acc xs else Kept acc xs) there)
known_one false acc g x xs e known more = ap (λ l. if not (has acc x) then x ∷ l else l) more

without_known : (acc : List Given) (g : Given) (xs : List Given) → has acc g ≡ true → Kept acc (Others g xs) ≡ Kept acc xs
without_known acc g [] known = refl
without_known acc g (x ∷ xs) known = known_one (same_given g x) acc g x xs refl known (without_known acc g xs known)

new_one : (s b : Bool) (acc : List Given) (g x : Given) (xs : List Given) → has acc x ≡ b → Kept (acc ++ g ∷ []) xs ≡ Kept acc (Others g xs)
    → (if not (b || s) then x ∷ Kept (acc ++ g ∷ []) xs else Kept (acc ++ g ∷ []) xs) ≡ Kept acc (if not s then x ∷ Others g xs else Others g xs)
new_one true true acc g x xs e more = more
new_one true false acc g x xs e more = more
new_one false true acc g x xs e more = more ∙ sym (ap (λ c. if not c then x ∷ Kept acc (Others g xs) else Kept acc (Others g xs)) e)
new_one false false acc g x xs e more = ap (λ l. x ∷ l) more ∙ sym (ap (λ c. if not c then x ∷ Kept acc (Others g xs) else Kept acc (Others g xs)) e)

with_one_more : (acc : List Given) (g : Given) (xs : List Given) → Kept (acc ++ g ∷ []) xs ≡ Kept acc (Others g xs)
with_one_more acc g [] = refl
with_one_more acc g (x ∷ xs) =
    ap (λ b. if not b then x ∷ Kept (acc ++ g ∷ []) xs else Kept (acc ++ g ∷ []) xs) (has_both acc g x)
    ∙ new_one (same_given g x) (has acc x) acc g x xs refl (with_one_more acc g xs)

step : (b : Bool) (acc : List Given) (g : Given) (gs : List Given) → has acc g ≡ b → ((acc : List Given) → collected acc gs ≡ acc ++ Kept acc (once gs))
    → collected (if b then acc else acc ++ g ∷ []) gs ≡ acc ++ (if not b then g ∷ Kept acc (Others g (once gs)) else Kept acc (Others g (once gs)))
step true acc g gs e more = more acc ∙ ap (λ l. acc ++ l) (sym (without_known acc g (once gs) e))
step false acc g gs e more = more (acc ++ g ∷ []) ∙ (ap (λ l. (acc ++ g ∷ []) ++ l) (with_one_more acc g (once gs)) ∙ append_assoc acc (g ∷ []) (Kept acc (Others g (once gs))))

collected_is : (gs acc : List Given) → collected acc gs ≡ acc ++ Kept acc (once gs)
collected_is [] acc = sym (append-nil acc)
collected_is (g ∷ gs) acc = step (has acc g) acc g gs refl (collected_is gs)

none_had : (xs : List Given) → Kept [] xs ≡ xs
none_had [] = refl
none_had (x ∷ xs) = ap (λ l. x ∷ l) (none_had xs)

pub latest_is : (taken list : List Given) (left : ℕ) → left ≤ 0 → collected list (reverse (take left taken)) ≡ collected [] (reverse taken) → list ≡ latest_first taken
latest_is taken list zero le same = same ∙ (collected_is (reverse taken) [] ∙ none_had (once (reverse taken)))
latest_is taken list (suc n) le same = absurd (omega (arith, le))
