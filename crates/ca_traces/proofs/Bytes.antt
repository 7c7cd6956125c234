-- Bytes as digits to the base 16.
use Rattle.std.proofs.Common.{◌≡◌, ◌<◌, ◌≤◌, ◌-◌, ◌==◌, ℕ, List, [], ◌∷◌, ◌++◌, length, take, drop, get_or, Bool, false, All, refl, sym, ap, ◌∙◌, arith, codes, append_assoc}
use Rattle.std.proofs.lemmas.List.{take_all}
use Rattle.std.proofs.lemmas.Bool.Decides.{nat_tests}
use Rattle.std.proofs.lemmas.List.Elements.{All-push, All-tail, All-head}
use Rattle.ca_model.specs.declared.values.EventAct.{EventAct}
use Rattle.ca_model.specs.declared.values.EventAct.TheVariants as act
use Rattle.ca_model.specs.Traces.{hex_digits, hex_text, act_text}
use Rattle.std.proofs.lemmas.Bool.{false≢true}
use Rattle.ca_traces.specs.Writable.{ActFits}
use Rattle.ca_traces.proofs.Cutting.{begins}

-- these are bytes
abbrev pub AreBytes : List ℕ → Type 0
AreBytes bs = All (λ b. b < 256) bs

-- What is read so far, and the digits that are left. Bytes that the whole spells have some that the rest spells.
pub record Paired (digits bytes rest : List ℕ) : Type 0 where
  pub spelled : hex_digits bytes ++ rest ≡ digits
  pub small : AreBytes bytes
  pub left : (ts : List ℕ) → AreBytes ts → hex_digits ts ≡ digits → (us : List ℕ) × (AreBytes us × (hex_digits us ≡ rest))

digits_append : (xs ys : List ℕ) → hex_digits (xs ++ ys) ≡ hex_digits xs ++ hex_digits ys
digits_append [] ys = refl
digits_append (x ∷ xs) ys = let e = digits_append xs ys in cc

some_left : (h l : ℕ) (more us : List ℕ) → AreBytes us → hex_digits us ≡ h ∷ l ∷ more → (u : ℕ) × (vs : List ℕ) × ((u < 256) × (hex_digits (u ∷ []) ≡ h ∷ l ∷ [])) × (AreBytes vs × (hex_digits vs ≡ more))
some_left h l more [] fit e = absurd cc
some_left h l more (u ∷ us) fit e = (u, us, (All-head (λ b. b < 256) u us fit, cc), (All-tail (λ b. b < 256) u us fit, cc))

pub paired_more : (digits bytes longer rest more : List ℕ) (h l b : ℕ) → Paired digits bytes rest → rest ≡ h ∷ l ∷ more → (b < 256) × (hex_digits (b ∷ []) ≡ h ∷ l ∷ []) → longer ≡ bytes ++ b ∷ [] → Paired digits longer more
paired_more digits bytes longer rest more h l b so is byte e = rw e (record {
  spelled = ap (λ t. t ++ more) (digits_append bytes (b ∷ []) ∙ ap (λ t. hex_digits bytes ++ t) byte.1) ∙ (append_assoc (hex_digits bytes) (h ∷ l ∷ []) more ∙ (ap (λ t. hex_digits bytes ++ t) (sym is) ∙ so.spelled));
  small = All-push (λ b. b < 256) bytes b so.small byte.0;
  left = λ ts fit whole.
      let t = so.left ts fit whole in
      let u = some_left h l more t.0 t.1.0 (t.1.1 ∙ is) in
      (u.1, u.3);
})

pub no_byte : (digits bytes rest more : List ℕ) (h l : ℕ) → Paired digits bytes rest → rest ≡ h ∷ l ∷ more → ((b : ℕ) → (b < 256) × (hex_digits (b ∷ []) ≡ h ∷ l ∷ []) → ⊥) → (ts : List ℕ) → AreBytes ts × (hex_digits ts ≡ digits) → ⊥
no_byte digits bytes rest more h l so is none ts whole =
    let t = so.left ts whole.0 whole.1 in
    let u = some_left h l more t.0 t.1.0 (t.1.1 ∙ is) in
    none u.0 u.2

odd : (us rest : List ℕ) → hex_digits us ≡ rest → 0 < length rest → length rest < 2 → ⊥
odd [] rest e some few = let n = ap length e in absurd (omega arith)
odd (u ∷ us) rest e some few = let n = ap length e in absurd (omega arith)

pub one_left : (digits bytes rest : List ℕ) → Paired digits bytes rest → 0 < length rest → length rest < 2 → (ts : List ℕ) → AreBytes ts × (hex_digits ts ≡ digits) → ⊥
one_left digits bytes rest so some few ts whole =
    let t = so.left ts whole.0 whole.1 in
    odd t.0 rest t.1.1 some few

-- the first two digits of a rest, as the code has them
two_first : (rest : List ℕ) → 2 ≤ length rest → rest ≡ get_or rest 0 0 ∷ get_or rest 1 0 ∷ take (length rest - 2) (drop 2 rest)
two_first [] h = absurd (omega arith)
two_first (a ∷ []) h = absurd (omega arith)
two_first (a ∷ b ∷ more) h = ap (λ t. a ∷ b ∷ t) (sym (take_all (length (a ∷ b ∷ more) - 2) more (omega arith)))

pub next_pair : (digits bytes longer rest : List ℕ) (b : ℕ) → Paired digits bytes rest → 2 ≤ length rest → (b < 256) × (hex_digits (b ∷ []) ≡ get_or rest 0 0 ∷ get_or rest 1 0 ∷ []) → longer ≡ bytes ++ b ∷ [] → Paired digits longer (take (length rest - 2) (drop 2 rest))
next_pair digits bytes longer rest b so two byte e = paired_more digits bytes longer rest (take (length rest - 2) (drop 2 rest)) (get_or rest 0 0) (get_or rest 1 0) b so (two_first rest two) byte e

pub no_pair : (digits bytes rest : List ℕ) → Paired digits bytes rest → 2 ≤ length rest → ((b : ℕ) → (b < 256) × (hex_digits (b ∷ []) ≡ get_or rest 0 0 ∷ get_or rest 1 0 ∷ []) → ⊥) → (ts : List ℕ) → AreBytes ts × (hex_digits ts ≡ digits) → ⊥
no_pair digits bytes rest so two none ts whole = no_byte digits bytes rest (take (length rest - 2) (drop 2 rest)) (get_or rest 0 0) (get_or rest 1 0) so (two_first rest two) none ts whole

pub not_empty : (n : ℕ) (r : Bool) → r ≡ (n == 0) → r ≡ false → 0 < n
not_empty n r e f = grind (arith, nat_tests)

-- the word of an output
pub record AnOutput (word : List ℕ) : Type 0 where
  pub text : List ℕ
  pub small : AreBytes text
  pub spelled : hex_text text ≡ word

pub output_parts : (a : EventAct) (word : List ℕ) → ActFits a → act_text a ≡ codes "print " ++ word → AnOutput word
output_parts (act.Print text) word fits e = record { text = text; small = fits; spelled = cc }
output_parts _ word fits e = absurd (false≢true (ap (begins (codes "print ")) e))

by_digits : (text word : List ℕ) → hex_text text ≡ word → (codes "-" ≡ word → ⊥) → hex_digits text ≡ word
by_digits [] word e other = absurd (other e)
by_digits (b ∷ bs) word e other = e

pub no_output : (a : EventAct) (word : List ℕ) → (codes "-" ≡ word → ⊥) → ((ts : List ℕ) → AreBytes ts × (hex_digits ts ≡ word) → ⊥) → ActFits a × (act_text a ≡ codes "print " ++ word) → ⊥
no_output a word other none is =
    let o = output_parts a word is.0 is.1 in
    none o.text (o.small, by_digits o.text word o.spelled other)
