-- What comes first in a text: its end, a skipped front, a token or a fault, one of these and in one way.
use Rattle.std.proofs.Common.{arith, ◌≡◌, ◌<◌, ◌^◌, ℕ, Bool, true, false, List, [], ◌∷◌, ◌++◌, Option, Some, None, refl, sym, ap, subst, ◌∙◌, inl, inr, append_assoc}
use Rattle.std.specs.Prelude.{◌≢◌}
use Rattle.std.proofs.lemmas.Bool.{both_ways}
use Rattle.ca_tree.specs.declared.text.Pos.{Pos}
use Rattle.ca_tree.specs.declared.token.Mark.TheVariants as mark
use Rattle.ca_tree.specs.declared.token.Word.{Word}
use Rattle.ca_tree.specs.declared.token.LexKind.{LexKind}
use Rattle.ca_tree.specs.declared.token.LexKind.TheVariants as kind
use Rattle.ca_tree.specs.declared.token.LexFault.{LexFault}
use Rattle.ca_tree.specs.Places.{after}
use Rattle.ca_tree.specs.Tokens.{is_blank, Unit_of_string, Escape, escaped, unit_value, spelled, values, and_value, Form, A_name, A_number, A_string, A_mark, IsForm, IsLongest}
use Rattle.ca_tree.specs.Lexed.{after_close, BeginsBlock, IsComment, IsSkipped, is_apart, IsWord, IsToken, IsClosed, IsFirstBad, IsWrong, open_comment, open_string, bad_escape, number_form, number_too_large, bad_char}
use Rattle.ca_lex.proofs.OneForm.{first, Of_name, Of_number, Of_string, Of_mark, beginning, beginning_of, no_empty_form, form_begins, one_units, one_longest}
use Rattle.ca_lex.proofs.OneSkip.{comment_first, include_first, blank_first}

-- first bytes

some_form : (f : Form) (u rest : List ℕ) → IsForm f u → [] ≡ u ++ rest → ⊥
some_form f [] rest is e = no_empty_form f is
some_form f (c ∷ cs) rest is e = absurd cc

-- a form tells the first byte of its text
form_first : (f : Form) (u rest text more : List ℕ) (b : ℕ) → IsForm f u → text ≡ u ++ rest → text ≡ b ∷ more → (beginning b ≡ beginning_of f) × (is_blank b ≡ false)
form_first f [] rest text more b is e h = absurd (no_empty_form f is)
form_first f (c ∷ cs) rest text more b is e h =
    let same : c ≡ b = ap first (sym e ∙ h) in
    let k = form_begins f c cs is in
    (ap beginning (sym same) ∙ k.0, ap is_blank (sym same) ∙ k.1)

-- no number at a byte that begins another form
no_number : (n : ℕ) (u rest text more : List ℕ) (b : ℕ) → IsLongest text (A_number n) u rest → text ≡ b ∷ more → (beginning b ≡ Of_number → ⊥) → ⊥
no_number n u rest text more b is e other = other (form_first (A_number n) u rest text more b is.form is.joined e).0

-- strings

-- a string token is closed, and each of its escapes is one
quoted : (f : Form) (u rest text more : List ℕ) → IsForm f u → text ≡ u ++ rest → text ≡ 34 ∷ more → (us : List Unit_of_string) × IsClosed text us × ((t : List ℕ) × (values us ≡ Some t))
quoted (A_string t) u rest text more is e h =
    let whole : text ≡ 34 ∷ (spelled is.0 ++ 34 ∷ rest) = e ∙ (ap (λ (s : List ℕ). s ++ rest) is.1.0 ∙ ap (λ (s : List ℕ). 34 ∷ s) (append_assoc (spelled is.0) (34 ∷ []) rest)) in
    (is.0, (rest, whole, is.1.1), (t, is.2))
quoted (A_name t) u rest text more is e h = let k : Of_string ≡ Of_name = (form_first (A_name t) u rest text more 34 is e h).0 in absurd cc
quoted (A_number n) u rest text more is e h = let k : Of_string ≡ Of_number = (form_first (A_number n) u rest text more 34 is e h).0 in absurd cc
quoted (A_mark m) u rest text more is e h = let k : Of_string ≡ Of_mark = (form_first (A_mark m) u rest text more 34 is e h).0 in absurd cc

one_closed : (text : List ℕ) (us vs : List Unit_of_string) → IsClosed text us → IsClosed text vs → us ≡ vs
one_closed text us vs a b =
    let both : 34 ∷ (spelled us ++ 34 ∷ a.0) ≡ 34 ∷ (spelled vs ++ 34 ∷ b.0) = sym a.1 ∙ b.1 in
    one_units us vs a.0 b.0 a.2 b.2 cc

with_value : (v : Option ℕ) (o : Option (List ℕ)) (t : List ℕ) → and_value v o ≡ Some t → (b : ℕ) × (bs : List ℕ) × (v ≡ Some b) × (o ≡ Some bs)
with_value (Some b) (Some bs) t h = (b, bs, refl, refl)
with_value (Some b) None t h = absurd cc
with_value None o t h = absurd cc

no_bad_escape : (good more : List Unit_of_string) (b : ℕ) (t : List ℕ) → escaped b ≡ None → values (good ++ Escape b ∷ more) ≡ Some t → ⊥
no_bad_escape [] more b t bad h = let k = with_value (escaped b) (values more) t h in absurd (let e : Some k.0 ≡ None = sym k.2 ∙ bad in cc)
no_bad_escape (u ∷ good) more b t bad h = let k = with_value (unit_value u) (values (good ++ Escape b ∷ more)) t h in no_bad_escape good more b k.1 bad k.3

-- the units before the first escape that is none
one_bad : (good other more rest : List Unit_of_string) (b c : ℕ) (s t : List ℕ) → values good ≡ Some s → values other ≡ Some t → escaped b ≡ None → escaped c ≡ None → good ++ Escape b ∷ more ≡ other ++ Escape c ∷ rest → good ≡ other
one_bad [] [] more rest b c s t vs vt bad bad' e = refl
one_bad [] (v ∷ other) more rest b c s t vs vt bad bad' e =
    let k = with_value (unit_value v) (values other) t vt in
    let same : Escape b ≡ v = cc in
    let none : unit_value v ≡ None = ap unit_value (sym same) ∙ bad in
    absurd (let no_value : Some k.0 ≡ None = sym k.2 ∙ none in cc)
one_bad (u ∷ good) [] more rest b c s t vs vt bad bad' e =
    let k = with_value (unit_value u) (values good) s vs in
    let same : Escape c ≡ u = cc in
    let none : unit_value u ≡ None = ap unit_value (sym same) ∙ bad' in
    absurd (let no_value : Some k.0 ≡ None = sym k.2 ∙ none in cc)
one_bad (u ∷ good) (v ∷ other) more rest b c s t vs vt bad bad' e =
    let same : u ≡ v = cc in
    let behind : good ++ Escape b ∷ more ≡ other ++ Escape c ∷ rest = cc in
    let k = with_value (unit_value u) (values good) s vs in
    let l = with_value (unit_value v) (values other) t vt in
    let ih : good ≡ other = one_bad good other more rest b c k.1 l.1 k.3 l.3 bad bad' behind in
    cc

pub no_first_bad : (us good : List Unit_of_string) (t : List ℕ) → IsFirstBad us good → values us ≡ Some t → ⊥
no_first_bad us good t bad h = no_bad_escape good bad.1 bad.0 t bad.5 (ap values (sym bad.3) ∙ h)

-- a token

one_word : (f : Form) (rest : List ℕ) (v w : Word) → IsWord f rest v → IsWord f rest w → v ≡ w
one_word (A_name t) rest v w a b = a ∙ sym b
one_word (A_number n) rest v w a b = a.2 ∙ sym b.2
one_word (A_string t) rest v w a b = a ∙ sym b
one_word (A_mark m) rest v w a b = a ∙ sym b

pub one_token : (fresh : Bool) (text : List ℕ) (v w : Word) (u r rest more : List ℕ) → IsToken fresh text v u rest → IsToken fresh text w r more → (v ≡ w) × (u ≡ r) × (rest ≡ more)
one_token fresh text v w u r rest more a b =
    let one = one_longest text a.form b.form u r rest more a.longest b.longest in
    let word : IsWord b.form more v = subst (λ (f : Form). IsWord f more v) one.0 (subst (λ (t : List ℕ). IsWord a.form t v) one.2 a.word) in
    (one_word b.form more v w word b.word, one.1, one.2)

pub no_empty_token : (fresh : Bool) (w : Word) (u rest : List ℕ) → IsToken fresh [] w u rest → ⊥
no_empty_token fresh w u rest a = some_form a.form u rest a.longest.form a.longest.joined

pub no_empty_skip : (fresh : Bool) (u rest : List ℕ) → IsSkipped fresh [] u rest → ⊥
no_empty_skip fresh u rest (e, inl (b, is, blank)) = absurd (let k : [] ≡ b ∷ rest = blank_first [] u rest b e is in cc)
no_empty_skip fresh u rest (e, inr (inl a)) = absurd (let k = comment_first [] rest a in let l : [] ≡ 47 ∷ k.0 = k.1 in cc)
no_empty_skip fresh u rest (e, inr (inr a)) = absurd (let k = include_first [] u rest e a.1 in let l : [] ≡ 35 ∷ k.0 = k.1 in cc)

-- no token where something is skipped
pub no_token : (fresh : Bool) (text : List ℕ) (w : Word) (u rest v more : List ℕ) → IsSkipped fresh text u rest → IsToken fresh text w v more → ⊥
no_token fresh text w u rest v more (e, inl (b, is, blank)) t = both_ways (is_blank b) (form_first t.form v more text rest b t.longest.form t.longest.joined (blank_first text u rest b e is)).1 blank
no_token fresh text w u rest v more (e, inr (inl (m, inl a))) t = t.no_comment (m, inl a.0)
no_token fresh text w u rest v more (e, inr (inl (m, inr a))) t = t.no_comment (m, inr a.0)
no_token fresh text w u rest v more (e, inr (inr a)) t = t.not_dropped (a.0, (u, rest, e, a.1))

-- faults

abbrev pub fault : Pos → LexKind → LexFault
fault p k = record { pos = p; kind = k }

abbrev Formless : List ℕ → Type 0
Formless text = (f : Form) (u rest : List ℕ) → text ≡ u ++ rest → IsForm f u → ⊥

no_slash : (text more : List ℕ) → text ≡ 47 ∷ more → Formless text → ⊥
no_slash text more e none = none (A_mark mark.Slash) (47 ∷ []) more e refl

no_hash : (text more : List ℕ) → text ≡ 35 ∷ more → Formless text → ⊥
no_hash text more e none = none (A_mark mark.Hash) (35 ∷ []) more e refl

no_form_no_number : (text u rest : List ℕ) (n : ℕ) → Formless text → IsLongest text (A_number n) u rest → ⊥
no_form_no_number text u rest n none l = none (A_number n) u rest l.joined l.form

slash_or_string : (text bs cs : List ℕ) → text ≡ 47 ∷ bs → text ≡ 34 ∷ cs → ⊥
slash_or_string text bs cs e f = let same : ◌≡◌ {A = ℕ} 47 34 = ap first (sym e ∙ f) in omega arith

hash_or_string : (text bs cs : List ℕ) → text ≡ 35 ∷ bs → text ≡ 34 ∷ cs → ⊥
hash_or_string text bs cs e f = let same : ◌≡◌ {A = ℕ} 35 34 = ap first (sym e ∙ f) in omega arith

slash_or_hash : (text bs cs : List ℕ) → text ≡ 47 ∷ bs → text ≡ 35 ∷ cs → ⊥
slash_or_hash text bs cs e f = let same : ◌≡◌ {A = ℕ} 47 35 = ap first (sym e ∙ f) in omega arith

number_at_slash : (n : ℕ) (u rest text more : List ℕ) → IsLongest text (A_number n) u rest → text ≡ 47 ∷ more → ⊥
number_at_slash n u rest text more l e = no_number n u rest text more 47 l e (λ (k : Of_mark ≡ Of_number). absurd cc)

number_at_hash : (n : ℕ) (u rest text more : List ℕ) → IsLongest text (A_number n) u rest → text ≡ 35 ∷ more → ⊥
number_at_hash n u rest text more l e = no_number n u rest text more 35 l e (λ (k : Of_mark ≡ Of_number). absurd cc)

number_at_string : (n : ℕ) (u rest text more : List ℕ) → IsLongest text (A_number n) u rest → text ≡ 34 ∷ more → ⊥
number_at_string n u rest text more l e = no_number n u rest text more 34 l e (λ (k : Of_string ≡ Of_number). absurd cc)

-- one number is not both apart and not, below the bound and above
apart_or_not : (text : List ℕ) (m n : ℕ) (u v rest more : List ℕ) → IsLongest text (A_number m) u rest → IsLongest text (A_number n) v more → is_apart rest ≡ true → is_apart more ≡ false → ⊥
apart_or_not text m n u v rest more a b is not_so = let one = one_longest text (A_number m) (A_number n) u v rest more a b in both_ways (is_apart more) not_so (ap is_apart (sym one.2) ∙ is)

comment_alone : (p : Pos) (text more : List ℕ) (g : LexFault) → BeginsBlock text more → IsWrong p text g → g ≡ fault p kind.OpenComment
comment_alone p text more g b (open_comment m c n) = refl
comment_alone p text more g b (open_string m e n) = absurd (slash_or_string text _ _ b e)
comment_alone p text more g b (bad_escape us good c x) = absurd (slash_or_string text _ _ b c.1)
comment_alone p text more g b (number_form n u rest l x) = absurd (number_at_slash n u rest text _ l b)
comment_alone p text more g b (number_too_large n u rest l x y) = absurd (number_at_slash n u rest text _ l b)
comment_alone p text more g b (bad_char c m e x y none) = absurd (no_slash text _ b none)

string_alone : (p : Pos) (text more : List ℕ) (g : LexFault) → text ≡ 34 ∷ more → ((us : List Unit_of_string) → IsClosed text us → ⊥) → IsWrong p text g → g ≡ fault p kind.OpenString
string_alone p text more g b open' (open_comment m c n) = absurd (slash_or_string text _ _ c b)
string_alone p text more g b open' (open_string m e n) = refl
string_alone p text more g b open' (bad_escape us good c x) = absurd (open' us c)
string_alone p text more g b open' (number_form n u rest l x) = absurd (number_at_string n u rest text _ l b)
string_alone p text more g b open' (number_too_large n u rest l x y) = absurd (number_at_string n u rest text _ l b)
string_alone p text more g b open' (bad_char c m e x y none) = absurd (y (ap first (sym e ∙ b)))

escape_alone : (p : Pos) (text : List ℕ) (us good : List Unit_of_string) (g : LexFault) → IsClosed text us → IsFirstBad us good → IsWrong p text g → g ≡ fault (after p (34 ∷ spelled good)) kind.BadChar
escape_alone p text us good g b bad (open_comment m c n) = absurd (slash_or_string text _ _ c b.1)
escape_alone p text us good g b bad (open_string m e n) = absurd (n us b)
escape_alone p text us good g b bad (bad_escape vs other c x) =
    let same = one_closed text us vs b c in
    let fronts : good ≡ other = one_bad good other bad.1 x.1 bad.0 x.0 bad.2 x.2 bad.4 x.4 bad.5 x.5 (sym bad.3 ∙ (same ∙ x.3)) in
    ap (λ (k : List Unit_of_string). fault (after p (34 ∷ spelled k)) kind.BadChar) (sym fronts)
escape_alone p text us good g b bad (number_form n u rest l x) = absurd (number_at_string n u rest text _ l b.1)
escape_alone p text us good g b bad (number_too_large n u rest l x y) = absurd (number_at_string n u rest text _ l b.1)
escape_alone p text us good g b bad (bad_char c m e x y none) = absurd (y (ap first (sym e ∙ b.1)))

form_alone : (p : Pos) (text : List ℕ) (n : ℕ) (u rest : List ℕ) (g : LexFault) → IsLongest text (A_number n) u rest → is_apart rest ≡ false → IsWrong p text g → g ≡ fault p kind.NumberForm
form_alone p text n u rest g l close (open_comment m c x) = absurd (number_at_slash n u rest text _ l c)
form_alone p text n u rest g l close (open_string m e x) = absurd (number_at_string n u rest text _ l e)
form_alone p text n u rest g l close (bad_escape us good c x) = absurd (number_at_string n u rest text _ l c.1)
form_alone p text n u rest g l close (number_form m v more k x) = refl
form_alone p text n u rest g l close (number_too_large m v more k x y) = absurd (apart_or_not text m n v u more rest k l x close)
form_alone p text n u rest g l close (bad_char c m e x y none) = absurd (no_form_no_number text u rest n none l)

large_alone : (p : Pos) (text : List ℕ) (n : ℕ) (u rest : List ℕ) (g : LexFault) → IsLongest text (A_number n) u rest → is_apart rest ≡ true → IsWrong p text g → g ≡ fault p kind.NumberTooLarge
large_alone p text n u rest g l far (open_comment m c x) = absurd (number_at_slash n u rest text _ l c)
large_alone p text n u rest g l far (open_string m e x) = absurd (number_at_string n u rest text _ l e)
large_alone p text n u rest g l far (bad_escape us good c x) = absurd (number_at_string n u rest text _ l c.1)
large_alone p text n u rest g l far (number_form m v more k x) = absurd (apart_or_not text n m u v rest more l k far x)
large_alone p text n u rest g l far (number_too_large m v more k x y) = refl
large_alone p text n u rest g l far (bad_char c m e x y none) = absurd (no_form_no_number text u rest n none l)

char_alone : (p : Pos) (text more : List ℕ) (b : ℕ) (g : LexFault) → text ≡ b ∷ more → b ≢ 34 → Formless text → IsWrong p text g → g ≡ fault p kind.BadChar
char_alone p text more b g h other free (open_comment m c x) = absurd (no_slash text _ c free)
char_alone p text more b g h other free (open_string m e x) = absurd (other (ap first (sym h ∙ e)))
char_alone p text more b g h other free (bad_escape us good c x) = absurd (other (ap first (sym h ∙ c.1)))
char_alone p text more b g h other free (number_form n u rest l x) = absurd (no_form_no_number text u rest n free l)
char_alone p text more b g h other free (number_too_large n u rest l x y) = absurd (no_form_no_number text u rest n free l)
char_alone p text more b g h other free (bad_char c m e x y none) = refl

-- one thing is wrong at a place
pub one_wrong : (p : Pos) (text : List ℕ) (f g : LexFault) → IsWrong p text f → IsWrong p text g → f ≡ g
one_wrong p text f g (open_comment m c n) b = sym (comment_alone p text m g c b)
one_wrong p text f g (open_string m e n) b = sym (string_alone p text m g e n b)
one_wrong p text f g (bad_escape us good c x) b = sym (escape_alone p text us good g c x b)
one_wrong p text f g (number_form n u rest l x) b = sym (form_alone p text n u rest g l x b)
one_wrong p text f g (number_too_large n u rest l x y) b = sym (large_alone p text n u rest g l x b)
one_wrong p text f g (bad_char c m e x y none) b = sym (char_alone p text m c g e y none b)

pub no_empty_wrong : (p : Pos) (f : LexFault) → IsWrong p [] f → ⊥
no_empty_wrong p f (open_comment m c n) = absurd cc
no_empty_wrong p f (open_string m e n) = absurd cc
no_empty_wrong p f (bad_escape us good c x) = absurd (let e = c.1 in cc)
no_empty_wrong p f (number_form n u rest l x) = some_form (A_number n) u rest l.form l.joined
no_empty_wrong p f (number_too_large n u rest l x y) = some_form (A_number n) u rest l.form l.joined
no_empty_wrong p f (bad_char c m e x y none) = absurd cc

-- nothing is wrong where a token is
pub token_is_right : (fresh : Bool) (p : Pos) (text : List ℕ) (w : Word) (u rest : List ℕ) (f : LexFault) → IsToken fresh text w u rest → IsWrong p text f → ⊥
token_is_right fresh p text w u rest f t (open_comment m c n) = t.no_comment (m, inl c)
token_is_right fresh p text w u rest f t (open_string m e n) = let q = quoted t.form u rest text m t.longest.form t.longest.joined e in n q.0 q.1
token_is_right fresh p text w u rest f t (bad_escape us good c x) =
    let q = quoted t.form u rest text _ t.longest.form t.longest.joined c.1 in
    let same = one_closed text q.0 us q.1 c in
    no_first_bad us good q.2.0 x (ap values (sym same) ∙ q.2.1)
token_is_right fresh p text w u rest f t (number_form n v more l x) =
    let one = one_longest text t.form (A_number n) u v rest more t.longest l in
    let word : IsWord (A_number n) more w = subst (λ (g : Form). IsWord g more w) one.0 (subst (λ (r : List ℕ). IsWord t.form r w) one.2 t.word) in
    both_ways (is_apart more) x word.0
token_is_right fresh p text w u rest f t (number_too_large n v more l x y) =
    let one = one_longest text t.form (A_number n) u v rest more t.longest l in
    let word : IsWord (A_number n) more w = subst (λ (g : Form). IsWord g more w) one.0 (subst (λ (r : List ℕ). IsWord t.form r w) one.2 t.word) in
    let small : n < 2 ^ 31 = word.1 in
    omega arith
token_is_right fresh p text w u rest f t (bad_char c m e x y none) = none t.form u rest t.longest.joined t.longest.form

-- nothing is wrong where something is skipped

blank_is_right : (p : Pos) (text bs : List ℕ) (b : ℕ) (f : LexFault) → is_blank b ≡ true → text ≡ b ∷ bs → IsWrong p text f → ⊥
blank_is_right p text bs b f blank h (open_comment m c n) = both_ways (is_blank b) (ap is_blank (ap first (sym h ∙ c))) blank
blank_is_right p text bs b f blank h (open_string m e n) = both_ways (is_blank b) (ap is_blank (ap first (sym h ∙ e))) blank
blank_is_right p text bs b f blank h (bad_escape us good c x) = both_ways (is_blank b) (ap is_blank (ap first (sym h ∙ c.1))) blank
blank_is_right p text bs b f blank h (number_form n u rest l x) = both_ways (is_blank b) (form_first (A_number n) u rest text bs b l.form l.joined h).1 blank
blank_is_right p text bs b f blank h (number_too_large n u rest l x y) = both_ways (is_blank b) (form_first (A_number n) u rest text bs b l.form l.joined h).1 blank
blank_is_right p text bs b f blank h (bad_char c m e x y none) = both_ways (is_blank b) (ap is_blank (ap first (sym h ∙ e)) ∙ x) blank

open_or_not : (text m rest : List ℕ) → BeginsBlock text m → after_close m ≡ None → IsComment text rest → ⊥
open_or_not text m rest b none (k, inl (c, e)) = let same : m ≡ k = cc in let closed : Some rest ≡ None = sym e ∙ (ap after_close (sym same) ∙ none) in absurd cc
open_or_not text m rest b none (k, inr (c, e)) = let twice : 47 ∷ 42 ∷ m ≡ 47 ∷ 47 ∷ k = sym b ∙ c in let second : ◌≡◌ {A = ℕ} 42 47 = cc in omega arith

comment_is_right : (p : Pos) (text rest bs : List ℕ) (f : LexFault) → IsComment text rest → text ≡ 47 ∷ bs → IsWrong p text f → ⊥
comment_is_right p text rest bs f a h (open_comment m c n) = open_or_not text m rest c n a
comment_is_right p text rest bs f a h (open_string m e n) = slash_or_string text _ _ h e
comment_is_right p text rest bs f a h (bad_escape us good c x) = slash_or_string text _ _ h c.1
comment_is_right p text rest bs f a h (number_form n u more l x) = number_at_slash n u more text _ l h
comment_is_right p text rest bs f a h (number_too_large n u more l x y) = number_at_slash n u more text _ l h
comment_is_right p text rest bs f a h (bad_char c m e x y none) = no_slash text _ h none

hash_is_right : (p : Pos) (text bs : List ℕ) (f : LexFault) → text ≡ 35 ∷ bs → IsWrong p text f → ⊥
hash_is_right p text bs f h (open_comment m c n) = slash_or_hash text _ _ c h
hash_is_right p text bs f h (open_string m e n) = hash_or_string text _ _ h e
hash_is_right p text bs f h (bad_escape us good c x) = hash_or_string text _ _ h c.1
hash_is_right p text bs f h (number_form n u more l x) = number_at_hash n u more text _ l h
hash_is_right p text bs f h (number_too_large n u more l x y) = number_at_hash n u more text _ l h
hash_is_right p text bs f h (bad_char c m e x y none) = no_hash text _ h none

pub skip_is_right : (fresh : Bool) (p : Pos) (text u rest : List ℕ) (f : LexFault) → IsSkipped fresh text u rest → IsWrong p text f → ⊥
skip_is_right fresh p text u rest f (e, inl (b, is, blank)) w = blank_is_right p text rest b f blank (blank_first text u rest b e is) w
skip_is_right fresh p text u rest f (e, inr (inl a)) w = let k = comment_first text rest a in comment_is_right p text rest k.0 f a k.1 w
skip_is_right fresh p text u rest f (e, inr (inr a)) w = let k = include_first text u rest e a.1 in hash_is_right p text k.0 f k.1 w
