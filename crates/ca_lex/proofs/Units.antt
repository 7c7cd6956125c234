-- The characters of a string: a text begins with one string at most.
use Rattle.std.proofs.Common.{◌≡◌, ◌≤◌, ◌-◌, ◌+◌, ℕ, List, [], ◌∷◌, ◌++◌, true, Option, Some, None, refl, sym, ap, subst, ◌∙◌, arith, length, append_assoc}
use Rattle.std.proofs.lemmas.List.{append-nil}
use Rattle.std.specs.List.{list_all}
use Rattle.std.proofs.lemmas.Bool.{and_parts}
use Rattle.std.proofs.lemmas.Bool.Decides.{nat_tests}
use Rattle.std.proofs.lemmas.List.Folds.{list_all-append}
use Rattle.std.proofs.lemmas.Grind.{flat_map-append}
use Rattle.ca_tree.specs.Tokens.{Unit_of_string, Itself, Escape, unit_bytes, is_unit, escaped, unit_value, spelled, and_value, values}
use Rattle.ca_lex.specs.declared.strings.Quoted.TheVariants as quoted
use Rattle.ca_lex.specs.Strings.{AreUnits, ClosesAt, NoClose, UnitsGive}
use Rattle.ca_lex.proofs.Cuts.{cut_len, cut_take, cut_drop}

pub no_feed : (b : ℕ) → is_unit (Itself b) ≡ true → b ≡ 10 → ⊥
no_feed b is same = let h = subst (λ (x : ℕ). is_unit (Itself x) ≡ true) same is in absurd cc

pub no_quote : (b : ℕ) → is_unit (Itself b) ≡ true → b ≡ 34 → ⊥
no_quote b is same = let h = subst (λ (x : ℕ). is_unit (Itself x) ≡ true) same is in absurd cc

pub no_escape : (b : ℕ) → is_unit (Itself b) ≡ true → b ≡ 92 → ⊥
no_escape b is same = let h = subst (λ (x : ℕ). is_unit (Itself x) ≡ true) same is in absurd cc

pub no_feed_behind : (b : ℕ) → is_unit (Escape b) ≡ true → b ≡ 10 → ⊥
no_feed_behind b is same = let h = subst (λ (x : ℕ). is_unit (Escape x) ≡ true) same is in absurd cc

-- units behind others
abbrev pub Rest : List ℕ → List ℕ → Type 0
Rest text end = (ws : List Unit_of_string) × (text ≡ spelled ws ++ end) × (list_all is_unit ws ≡ true)

-- some units at the head of a text are the first ones of all that stand before a `"`
pub goes_through : (us vs : List Unit_of_string) (rest end : List ℕ) → list_all is_unit us ≡ true → list_all is_unit vs ≡ true → spelled us ++ rest ≡ spelled vs ++ 34 ∷ end → Rest rest (34 ∷ end)
goes_through [] vs rest end a b e = (vs, e, b)
goes_through (Itself x ∷ us) [] rest end a b e = let t = and_parts (is_unit (Itself x)) (list_all is_unit us) a in let same : x ≡ 34 = cc in absurd (no_quote x t.0 same)
goes_through (Escape x ∷ us) [] rest end a b e = let same : ◌≡◌ {A = ℕ} 92 34 = cc in absurd (omega (arith, same))
goes_through (Itself x ∷ us) (Itself y ∷ vs) rest end a b e =
    let s = and_parts (is_unit (Itself x)) (list_all is_unit us) a in
    let t = and_parts (is_unit (Itself y)) (list_all is_unit vs) b in
    goes_through us vs rest end s.1 t.1 cc
goes_through (Itself x ∷ us) (Escape y ∷ vs) rest end a b e = let t = and_parts (is_unit (Itself x)) (list_all is_unit us) a in let same : x ≡ 92 = cc in absurd (no_escape x t.0 same)
goes_through (Escape x ∷ us) (Itself y ∷ vs) rest end a b e = let t = and_parts (is_unit (Itself y)) (list_all is_unit vs) b in let same : y ≡ 92 = cc in absurd (no_escape y t.0 same)
goes_through (Escape x ∷ us) (Escape y ∷ vs) rest end a b e =
    let s = and_parts (is_unit (Escape x)) (list_all is_unit us) a in
    let t = and_parts (is_unit (Escape y)) (list_all is_unit vs) b in
    goes_through us vs rest end s.1 t.1 cc

-- units so far, and the rest
abbrev pub Passed : List ℕ → List ℕ → Type 0
Passed text rest = (us : List Unit_of_string) × (text ≡ spelled us ++ rest) × (list_all is_unit us ≡ true)

pub spelled_more : (us : List Unit_of_string) (u : Unit_of_string) (rest : List ℕ) → spelled us ++ (unit_bytes u ++ rest) ≡ spelled (us ++ u ∷ []) ++ rest
spelled_more us u rest =
    let e : spelled (us ++ u ∷ []) ≡ spelled us ++ unit_bytes u = flat_map-append unit_bytes us (u ∷ []) ∙ ap (λ (t : List ℕ). spelled us ++ t) (append-nil (unit_bytes u)) in
    sym (ap (λ (t : List ℕ). t ++ rest) e ∙ append_assoc (spelled us) (unit_bytes u) rest)

pub all_more : (us : List Unit_of_string) (u : Unit_of_string) → list_all is_unit us ≡ true → is_unit u ≡ true → list_all is_unit (us ++ u ∷ []) ≡ true
all_more us u a b = list_all-append is_unit us (u ∷ []) ∙ rw (a, b) refl

pub passed_more : (text rest more : List ℕ) (u : Unit_of_string) → Passed text rest → rest ≡ unit_bytes u ++ more → is_unit u ≡ true → Passed text more
passed_more text rest more u p e is =
    (p.0 ++ u ∷ [], p.1 ∙ (ap (λ (t : List ℕ). spelled p.0 ++ t) e ∙ spelled_more p.0 u more), all_more p.0 u p.2 is)

is_itself : (b : ℕ) → (b ≡ 10 → ⊥) → (b ≡ 34 → ⊥) → (b ≡ 92 → ⊥) → is_unit (Itself b) ≡ true
is_itself b feed quote slash = grind (arith, nat_tests)

pub passed_itself : (text rest more : List ℕ) (b : ℕ) → Passed text rest → rest ≡ b ∷ more → (b ≡ 10 → ⊥) → (b ≡ 34 → ⊥) → (b ≡ 92 → ⊥) → Passed text more
passed_itself text rest more b p e feed quote slash = passed_more text rest more (Itself b) p e (is_itself b feed quote slash)

is_escape : (b : ℕ) → (b ≡ 10 → ⊥) → is_unit (Escape b) ≡ true
is_escape b feed = grind (arith, nat_tests)

pub passed_escape : (text rest more behind : List ℕ) (a b : ℕ) → Passed text rest → rest ≡ a ∷ more → a ≡ 92 → more ≡ b ∷ behind → (b ≡ 10 → ⊥) → Passed text behind
passed_escape text rest more behind a b p e slash f feed = passed_more text rest behind (Escape b) p (cc) (is_escape b feed)

pub close_found : (text rest more : List ℕ) (b : ℕ) → Passed text rest → rest ≡ b ∷ more → b ≡ 34 → (length rest ≤ length text) × ClosesAt text (length text - length rest)
close_found text rest more b p e is =
    let len = cut_len text (spelled p.0) rest p.1 in
    let some : length rest ≡ length more + 1 = ap length e ∙ omega arith in
    let size : length text - length rest ≡ length (spelled p.0) = omega (arith, len) in
    let behind : rest ≡ 34 ∷ more = cc in
    (omega (arith, len), (p.0, more, (cut_take text (spelled p.0) rest (length text - length rest) p.1 size, p.2), cut_drop text (spelled p.0) rest (length text - length rest) p.1 size ∙ behind, omega (arith, len, some)))

pub none_behind : (text rest : List ℕ) → Passed text rest → NoClose rest → NoClose text
none_behind text rest p none us end e all = let left = goes_through p.0 us rest end p.2 all (sym p.1 ∙ e) in none left.0 end left.1 left.2

pub none_at_end : (rest : List ℕ) → length rest ≡ 0 → NoClose rest
none_at_end [] empty [] end e all = absurd cc
none_at_end [] empty (Itself b ∷ us) end e all = absurd cc
none_at_end [] empty (Escape b ∷ us) end e all = absurd cc
none_at_end (b ∷ bs) empty us end e all = absurd (omega (arith, empty))

pub none_at_feed : (rest more : List ℕ) (b : ℕ) → rest ≡ b ∷ more → b ≡ 10 → NoClose rest
none_at_feed rest more b f is [] end e all = let same : ◌≡◌ {A = ℕ} 10 34 = cc in absurd (omega (arith, same))
none_at_feed rest more b f is (Itself x ∷ us) end e all = let t = and_parts (is_unit (Itself x)) (list_all is_unit us) all in let same : x ≡ 10 = cc in absurd (no_feed x t.0 same)
none_at_feed rest more b f is (Escape x ∷ us) end e all = let same : ◌≡◌ {A = ℕ} 10 92 = cc in absurd (omega (arith, same))

pub none_behind_escape : (rest more : List ℕ) (b : ℕ) → rest ≡ b ∷ more → b ≡ 92 → ((c : ℕ) (behind : List ℕ) → more ≡ c ∷ behind → is_unit (Escape c) ≡ true → ⊥) → NoClose rest
none_behind_escape rest more b f is none [] end e all = let same : ◌≡◌ {A = ℕ} 92 34 = cc in absurd (omega (arith, same))
none_behind_escape rest more b f is none (Itself x ∷ us) end e all = let t = and_parts (is_unit (Itself x)) (list_all is_unit us) all in let same : x ≡ 92 = cc in absurd (no_escape x t.0 same)
none_behind_escape rest more b f is none (Escape x ∷ us) end e all = let t = and_parts (is_unit (Escape x)) (list_all is_unit us) all in none x (spelled us ++ 34 ∷ end) (cc) t.0

pub none_escape_end : (rest more : List ℕ) (b : ℕ) → rest ≡ b ∷ more → b ≡ 92 → length more ≡ 0 → NoClose rest
none_escape_end rest more b f is empty = none_behind_escape rest more b f is (λ c behind e unit. let some : length more ≡ length behind + 1 = ap length e ∙ omega arith in omega (arith, some, empty))

pub none_escape_feed : (rest more behind : List ℕ) (b c : ℕ) → rest ≡ b ∷ more → b ≡ 92 → more ≡ c ∷ behind → c ≡ 10 → NoClose rest
none_escape_feed rest more behind b c f is g feed = none_behind_escape rest more b f is (λ d other e unit. let same : d ≡ 10 = cc in no_feed_behind d unit same)

-- a text of units, what the first ones stand for, and the rest of it
pub record Taken (units rest bytes : List ℕ) : Type 0 where
  pub good : List Unit_of_string
  pub left : List Unit_of_string
  pub cut : units ≡ spelled good ++ rest
  pub rest_is : rest ≡ spelled left
  pub good_all : list_all is_unit good ≡ true
  pub left_all : list_all is_unit left ≡ true
  pub stand : values good ≡ Some bytes

pub taken_none : (units : List ℕ) → ((us : List Unit_of_string) × AreUnits units us) → Taken units units []
taken_none units are = record { good = []; left = are.0; cut = refl; rest_is = are.1.0; good_all = refl; left_all = are.1.1; stand = refl }

first_itself : (b : ℕ) (more : List ℕ) (left : List Unit_of_string) → b ∷ more ≡ spelled left → (b ≡ 92 → ⊥) → (ws : List Unit_of_string) × (left ≡ Itself b ∷ ws) × (more ≡ spelled ws)
first_itself b more [] e other = absurd cc
first_itself b more (Itself x ∷ ws) e other = let same : x ≡ b = cc in (ws, ap (λ (y : ℕ). Itself y ∷ ws) same, cc)
first_itself b more (Escape x ∷ ws) e other = let same : b ≡ 92 = cc in absurd (other same)

first_escape : (more : List ℕ) (left : List Unit_of_string) → 92 ∷ more ≡ spelled left → list_all is_unit left ≡ true → (c : ℕ) × (ws : List Unit_of_string) × (left ≡ Escape c ∷ ws) × (more ≡ c ∷ spelled ws)
first_escape more [] e all = absurd cc
first_escape more (Itself x ∷ ws) e all = let t = and_parts (is_unit (Itself x)) (list_all is_unit ws) all in let same : x ≡ 92 = cc in absurd (no_escape x t.0 same)
first_escape more (Escape x ∷ ws) e all = (x, ws, refl, cc)

and_some : (o : Option ℕ) (r : Option (List ℕ)) (t : List ℕ) → and_value o r ≡ Some t → (x : ℕ) × (xs : List ℕ) × (o ≡ Some x) × (r ≡ Some xs) × (t ≡ x ∷ xs)
and_some None r t h = absurd cc
and_some (Some x) None t h = absurd cc
and_some (Some x) (Some xs) t h = (x, xs, refl, refl, cc)

values_more : (good : List Unit_of_string) (u : Unit_of_string) (t : List ℕ) (x : ℕ) → values good ≡ Some t → unit_value u ≡ Some x → values (good ++ u ∷ []) ≡ Some (t ++ x ∷ [])
values_more [] u t x h e = let none : [] ≡ t = cc in rw e (ap (λ (s : List ℕ). Some (s ++ x ∷ [])) none)
values_more (v ∷ vs) u t x h e =
    let f = and_some (unit_value v) (values vs) t h in
    let ih = values_more vs u f.1 x f.3 e in
    rw (f.2, ih) (ap (λ (s : List ℕ). Some (s ++ x ∷ [])) (sym f.4))

-- one more unit
taken_more : (units rest more bytes new : List ℕ) (u : Unit_of_string) (ws : List Unit_of_string) (x : ℕ) (t : Taken units rest bytes) → rest ≡ unit_bytes u ++ more → t.left ≡ u ∷ ws → more ≡ spelled ws → unit_value u ≡ Some x → new ≡ bytes ++ x ∷ []
    → Taken units more new
taken_more units rest more bytes new u ws x t e first left value grown =
    let all = and_parts (is_unit u) (list_all is_unit ws) (ap (λ (us : List Unit_of_string). list_all is_unit us) (sym first) ∙ t.left_all) in
    record {
      good = t.good ++ u ∷ [];
      left = ws;
      cut = t.cut ∙ (ap (λ (s : List ℕ). spelled t.good ++ s) e ∙ spelled_more t.good u more);
      rest_is = left;
      good_all = all_more t.good u t.good_all all.0;
      left_all = all.1;
      stand = values_more t.good u bytes x t.stand value ∙ ap (λ (s : List ℕ). Some s) (sym grown);
    }

pub taken_itself : (units rest more bytes new : List ℕ) (b : ℕ) → Taken units rest bytes → rest ≡ b ∷ more → (b ≡ 92 → ⊥) → new ≡ bytes ++ b ∷ [] → Taken units more new
taken_itself units rest more bytes new b t e other grown =
    let first = first_itself b more t.left (sym e ∙ t.rest_is) other in
    taken_more units rest more bytes new (Itself b) first.0 b t e first.1 first.2 refl grown

pub taken_escape : (units rest more behind bytes new : List ℕ) (b c x : ℕ) → Taken units rest bytes → rest ≡ b ∷ more → b ≡ 92 → more ≡ c ∷ behind → Some x ≡ escaped c → new ≡ bytes ++ x ∷ [] → Taken units behind new
taken_escape units rest more behind bytes new b c x t e slash f value grown =
    let whole : rest ≡ 92 ∷ more = e ∙ ap (λ (y : ℕ). y ∷ more) slash in
    let first = first_escape more t.left (sym whole ∙ t.rest_is) t.left_all in
    let same : first.0 ≡ c = let g = first.3 in cc in
    let left : behind ≡ spelled first.1 = let g = first.3 in cc in
    taken_more units rest behind bytes new (Escape c) first.1 x t (whole ∙ ap (λ (s : List ℕ). 92 ∷ s) f) (first.2 ∙ ap (λ (y : ℕ). Escape y ∷ first.1) same) left (sym value) grown

pub bad_found : (units rest more behind bytes : List ℕ) (b c : ℕ) → Taken units rest bytes → rest ≡ b ∷ more → b ≡ 92 → more ≡ c ∷ behind → None ≡ escaped c → UnitsGive units (quoted.Bad ((length units - length rest) + 1))
bad_found units rest more behind bytes b c t e slash f none =
    let whole : rest ≡ 92 ∷ more = e ∙ ap (λ (y : ℕ). y ∷ more) slash in
    let first = first_escape more t.left (sym whole ∙ t.rest_is) t.left_all in
    let same : first.0 ≡ c = let g = first.3 in cc in
    let left : t.left ≡ Escape c ∷ first.1 = first.2 ∙ ap (λ (y : ℕ). Escape y ∷ first.1) same in
    let spelling : units ≡ spelled (t.good ++ t.left) = t.cut ∙ (ap (λ (s : List ℕ). spelled t.good ++ s) t.rest_is ∙ sym (flat_map-append unit_bytes t.good t.left)) in
    let all : list_all is_unit (t.good ++ t.left) ≡ true = list_all-append is_unit t.good t.left ∙ rw (t.good_all, t.left_all) refl in (
      t.good ++ t.left,
      t.good,
      (spelling, all),
      (c, first.1, bytes, ap (λ (us : List Unit_of_string). t.good ++ us) left, t.stand, sym none),
      omega (arith, cut_len units (spelled t.good) rest t.cut),
    )

pub never_alone : (units rest more bytes : List ℕ) (b : ℕ) → Taken units rest bytes → rest ≡ b ∷ more → b ≡ 92 → length more ≡ 0 → ⊥
never_alone units rest more bytes b t e slash empty =
    let whole : rest ≡ 92 ∷ more = e ∙ ap (λ (y : ℕ). y ∷ more) slash in
    let first = first_escape more t.left (sym whole ∙ t.rest_is) t.left_all in
    let some : length more ≡ length (spelled first.1) + 1 = ap length first.3 ∙ omega arith in
    omega (arith, some, empty)
