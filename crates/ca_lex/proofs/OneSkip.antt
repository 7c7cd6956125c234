-- What is skipped at the front of a text is one front.
use Rattle.std.proofs.Common.{arith, ◌≡◌, ℕ, zero, suc, Bool, true, false, not, ◌&&◌, ◌==◌, List, [], ◌∷◌, ◌++◌, refl, sym, ap, ◌∙◌, inl, inr, append_assoc}
use Rattle.std.specs.Prelude.{Contains, codes}
use Rattle.std.specs.List.{list_all}
use Rattle.std.proofs.lemmas.Bool.{and_parts}
use Rattle.std.proofs.lemmas.List.{append_cancel_left, append_cancel_right}
use Rattle.ca_tree.specs.Tokens.{is_blank}
use Rattle.ca_lex.proofs.OneForm.{first, some_is_one}
use Rattle.ca_tree.specs.Lexed.{after_close, from_line_feed, IsComment, are_line_blanks, headers, IsInclude, IsSkipped}

-- two fronts of elements that pass a test, each up to the first that doesn't
pub one_span : (p : ℕ → Bool) (a b : List ℕ) (x y : ℕ) (r s : List ℕ) → list_all p a ≡ true → list_all p b ≡ true → p x ≡ false → p y ≡ false → a ++ x ∷ r ≡ b ++ y ∷ s → (a ≡ b) × (x ∷ r ≡ y ∷ s)
one_span p [] [] x y r s all both out away e = (refl, e)
one_span p [] (c ∷ b) x y r s all both out away e =
    let same : x ≡ c = ap first e in
    let passes = (and_parts (p c) (list_all p b) both).0 in
    absurd cc
one_span p (c ∷ a) [] x y r s all both out away e =
    let same : c ≡ y = ap first e in
    let passes = (and_parts (p c) (list_all p a) all).0 in
    absurd cc
one_span p (c ∷ a) (d ∷ b) x y r s all both out away e =
    let same : c ≡ d = ap first e in
    let more : a ++ x ∷ r ≡ b ++ y ∷ s = cc in
    let rest = one_span p a b x y r s (and_parts (p c) (list_all p a) all).1 (and_parts (p d) (list_all p b) both).1 out away more in
    let fronts : a ≡ b = rest.0 in
    (cc, rest.1)

-- headers

-- bytes without a `>`
abbrev is_no_end : ℕ → Bool
is_no_end b = not (b == 62)

-- a header is a `<`, bytes without a `>`, and a `>`
abbrev IsHeader : List ℕ → Type 0
IsHeader h = (name : List ℕ) × (h ≡ 60 ∷ (name ++ 62 ∷ [])) × (list_all is_no_end name ≡ true)

header_form : (h : List ℕ) → Contains headers h → IsHeader h
header_form h (zero, lt, is) = (codes "pthread.h", sym is, refl)
header_form h (suc zero, lt, is) = (codes "stdio.h", sym is, refl)
header_form h (suc (suc zero), lt, is) = (codes "stdlib.h", sym is, refl)
header_form h (suc (suc (suc zero)), lt, is) = (codes "assert.h", sym is, refl)
header_form h (suc (suc (suc (suc k))), lt, is) = absurd (omega (arith, lt))

header_text : (h rest : List ℕ) (is : IsHeader h) → h ++ rest ≡ 60 ∷ (is.0 ++ 62 ∷ rest)
header_text h rest is = ap (λ (t : List ℕ). t ++ rest) is.1 ∙ ap (λ (t : List ℕ). 60 ∷ t) (append_assoc is.0 (62 ∷ []) rest)

one_header : (h k rest more : List ℕ) → IsHeader h → IsHeader k → h ++ rest ≡ k ++ more → (h ≡ k) × (rest ≡ more)
one_header h k rest more a b e =
    let whole : 60 ∷ (a.0 ++ 62 ∷ rest) ≡ 60 ∷ (b.0 ++ 62 ∷ more) = sym (header_text h rest a) ∙ (e ∙ header_text k more b) in
    let inner : a.0 ++ 62 ∷ rest ≡ b.0 ++ 62 ∷ more = cc in
    let names = one_span is_no_end a.0 b.0 62 62 rest more a.2 b.2 refl refl inner in
    let same : h ≡ k = a.1 ∙ (ap (λ (t : List ℕ). 60 ∷ (t ++ 62 ∷ [])) names.0 ∙ sym b.1) in
    let tails : 62 ∷ rest ≡ 62 ∷ more = names.1 in
    (same, cc)

-- dropped lines

abbrev is_line_blank : ℕ → Bool
is_line_blank b = is_blank b && not (b == 10)

include_text : (u rest : List ℕ) (i : IsInclude u rest) → u ++ rest ≡ 35 ∷ (i.before ++ (codes "include" ++ (i.between ++ (i.header ++ rest))))
include_text u rest i =
    ap (λ (t : List ℕ). t ++ rest) i.line
    ∙ ap (λ (t : List ℕ). 35 ∷ t) (append_assoc i.before (codes "include" ++ (i.between ++ i.header)) rest ∙ ap (λ (t : List ℕ). i.before ++ (codes "include" ++ t)) (append_assoc i.between i.header rest))

pub one_include : (u v rest more : List ℕ) → IsInclude u rest → IsInclude v more → u ++ rest ≡ v ++ more → (u ≡ v) × (rest ≡ more)
one_include u v rest more i j e =
    let h = header_form i.header i.known in
    let k = header_form j.header j.known in
    let iblanks = and_parts (are_line_blanks i.before) (are_line_blanks i.between) i.blanks in
    let jblanks = and_parts (are_line_blanks j.before) (are_line_blanks j.between) j.blanks in
    let whole : 35 ∷ (i.before ++ (codes "include" ++ (i.between ++ (i.header ++ rest)))) ≡ 35 ∷ (j.before ++ (codes "include" ++ (j.between ++ (j.header ++ more)))) = sym (include_text u rest i) ∙ (e ∙ include_text v more j) in
    let inner : i.before ++ (codes "include" ++ (i.between ++ (i.header ++ rest))) ≡ j.before ++ (codes "include" ++ (j.between ++ (j.header ++ more))) = cc in
    let befores = one_span is_line_blank i.before j.before 105 105 (codes "nclude" ++ (i.between ++ (i.header ++ rest))) (codes "nclude" ++ (j.between ++ (j.header ++ more))) iblanks.0 jblanks.0 refl refl inner in
    let words : codes "include" ++ (i.between ++ (i.header ++ rest)) ≡ codes "include" ++ (j.between ++ (j.header ++ more)) = befores.1 in
    let behind : i.between ++ (i.header ++ rest) ≡ j.between ++ (j.header ++ more) = append_cancel_left (codes "include") _ _ words in
    let spread : i.between ++ 60 ∷ (h.0 ++ 62 ∷ rest) ≡ j.between ++ 60 ∷ (k.0 ++ 62 ∷ more) = ap (λ (t : List ℕ). i.between ++ t) (sym (header_text i.header rest h)) ∙ (behind ∙ ap (λ (t : List ℕ). j.between ++ t) (header_text j.header more k)) in
    let betweens = one_span is_line_blank i.between j.between 60 60 (h.0 ++ 62 ∷ rest) (k.0 ++ 62 ∷ more) iblanks.1 jblanks.1 refl refl spread in
    let ends : i.header ++ rest ≡ j.header ++ more = header_text i.header rest h ∙ (betweens.1 ∙ sym (header_text j.header more k)) in
    let heads = one_header i.header j.header rest more h k ends in
    let before : i.before ≡ j.before = befores.0 in
    let between : i.between ≡ j.between = betweens.0 in
    let header : i.header ≡ j.header = heads.0 in
    let line : 35 ∷ (i.before ++ (codes "include" ++ (i.between ++ i.header))) ≡ 35 ∷ (j.before ++ (codes "include" ++ (j.between ++ j.header))) = cc in
    (i.line ∙ (line ∙ sym j.line), heads.1)

-- comments

pub one_comment : (text rest more : List ℕ) → IsComment text rest → IsComment text more → rest ≡ more
one_comment text rest more (m, inl (a, e)) (n, inl (b, f)) = let same : m ≡ n = cc in some_is_one rest more (sym e ∙ (ap after_close same ∙ f))
one_comment text rest more (m, inr (a, e)) (n, inr (b, f)) = let same : m ≡ n = cc in sym e ∙ (ap from_line_feed same ∙ f)
one_comment text rest more (m, inl (a, e)) (n, inr (b, f)) = let twice : 47 ∷ 42 ∷ m ≡ 47 ∷ 47 ∷ n = sym a ∙ b in let second : ◌≡◌ {A = ℕ} 42 47 = cc in absurd (omega arith)
one_comment text rest more (m, inr (a, e)) (n, inl (b, f)) = let twice : 47 ∷ 47 ∷ m ≡ 47 ∷ 42 ∷ n = sym a ∙ b in let second : ◌≡◌ {A = ℕ} 47 42 = cc in absurd (omega arith)

-- what a skipped front begins with: a blank, a `/` or a `#`

pub comment_first : (text rest : List ℕ) → IsComment text rest → (bs : List ℕ) × (text ≡ 47 ∷ bs)
comment_first text rest (m, inl (a, e)) = (42 ∷ m, a)
comment_first text rest (m, inr (a, e)) = (47 ∷ m, a)

pub include_first : (text u rest : List ℕ) → text ≡ u ++ rest → IsInclude u rest → (bs : List ℕ) × (text ≡ 35 ∷ bs)
include_first text u rest e i = (_, e ∙ include_text u rest i)

pub blank_first : (text u rest : List ℕ) (b : ℕ) → text ≡ u ++ rest → u ≡ b ∷ [] → text ≡ b ∷ rest
blank_first text u rest b e is = e ∙ ap (λ (t : List ℕ). t ++ rest) is

clash : (text bs cs : List ℕ) (b c : ℕ) → is_blank b ≡ true → is_blank c ≡ false → text ≡ b ∷ bs → text ≡ c ∷ cs → ⊥
clash text bs cs b c blank other e f = let same : b ≡ c = cc in absurd cc

apart : (text bs cs : List ℕ) → text ≡ 47 ∷ bs → text ≡ 35 ∷ cs → ⊥
apart text bs cs e f = let same : ◌≡◌ {A = ℕ} 47 35 = ap first (sym e ∙ f) in omega arith

-- a text has one skipped front
pub one_skip : (fresh : Bool) (text u v rest more : List ℕ) → IsSkipped fresh text u rest → IsSkipped fresh text v more → (u ≡ v) × (rest ≡ more)
one_skip fresh text u v rest more (e, inl (b, is, blank)) (f, inl (c, is', blank')) =
    let both : b ∷ rest ≡ c ∷ more = sym (blank_first text u rest b e is) ∙ blank_first text v more c f is' in
    let same : b ≡ c = cc in
    (is ∙ (ap (λ (x : ℕ). x ∷ []) same ∙ sym is'), cc)
one_skip fresh text u v rest more (e, inr (inl a)) (f, inr (inl b)) =
    let rests = one_comment text rest more a b in
    (append_cancel_right u v more (ap (λ (t : List ℕ). u ++ t) (sym rests) ∙ (sym e ∙ f)), rests)
one_skip fresh text u v rest more (e, inr (inr a)) (f, inr (inr b)) = one_include u v rest more a.1 b.1 (sym e ∙ f)
one_skip fresh text u v rest more (e, inl (b, is, blank)) (f, inr (inl a)) = let k = comment_first text more a in absurd (clash text rest k.0 b 47 blank refl (blank_first text u rest b e is) k.1)
one_skip fresh text u v rest more (e, inl (b, is, blank)) (f, inr (inr a)) = let k = include_first text v more f a.1 in absurd (clash text rest k.0 b 35 blank refl (blank_first text u rest b e is) k.1)
one_skip fresh text u v rest more (e, inr (inl a)) (f, inl (b, is, blank)) = let k = comment_first text rest a in absurd (clash text more k.0 b 47 blank refl (blank_first text v more b f is) k.1)
one_skip fresh text u v rest more (e, inr (inr a)) (f, inl (b, is, blank)) = let k = include_first text u rest e a.1 in absurd (clash text more k.0 b 35 blank refl (blank_first text v more b f is) k.1)
one_skip fresh text u v rest more (e, inr (inl a)) (f, inr (inr b)) = let k = comment_first text rest a in let l = include_first text v more f b.1 in absurd (apart text k.0 l.0 k.1 l.1)
one_skip fresh text u v rest more (e, inr (inr a)) (f, inr (inl b)) = let k = include_first text u rest e a.1 in let l = comment_first text more b in absurd (apart text l.0 k.0 l.1 k.1)
