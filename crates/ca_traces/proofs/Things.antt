-- What a retry gives back, as words.
use Rattle.std.proofs.Common.{◌≡◌, ◌<◌, ◌^◌, ℕ, List, [], ◌∷◌, ◌++◌, true, All, refl, sym, ap, ◌∙◌, arith, codes, append_assoc, inl}
use Rattle.std.specs.Fmt.{decimal}
use Rattle.std.proofs.lemmas.List.{append-nil}
use Rattle.std.proofs.lemmas.List.Elements.{All-push, All-tail, All-head}
use Rattle.std.proofs.lemmas.Bool.{false≢true}
use Rattle.ca_model.specs.declared.values.Given.{Given}
use Rattle.ca_model.specs.declared.values.Given.TheVariants as given
use Rattle.ca_model.specs.declared.values.EventAct.{EventAct}
use Rattle.ca_model.specs.declared.values.EventAct.TheVariants as act
use Rattle.ca_model.specs.Traces.{given_text, gives_text, act_text}
use Rattle.ca_traces.specs.Finding.{lacks, IsCut}
use Rattle.ca_traces.specs.Writable.{GivenFits, ActFits}
use Rattle.ca_traces.proofs.Cutting.{begins, one_cut, has_it, lacks_more, lacks_append, lacks_decimal}
use Rattle.ca_traces.proofs.Numerals.{wide}

-- one thing

pub block_parts : (b : ℕ) (word place digits offset : List ℕ) → b < 2 ^ 32 → given_text (given.Block b) ≡ word → word ≡ 64 ∷ place → IsCut 46 place digits offset → (decimal b ≡ digits) × (codes "0" ≡ offset)
block_parts b word place digits offset small e is cut =
    let here : decimal b ++ 46 ∷ codes "0" ≡ digits ++ 46 ∷ offset = cc (cut.1) in
    one_cut 46 (decimal b) digits (codes "0") offset (lacks_decimal 46 b (inl (omega arith)) (wide b small)) cut.0 here

pub no_block : (g : Given) (word place digits offset : List ℕ) → ((n : ℕ) → (n < 2 ^ 32) × (109 ∷ decimal n ≡ word) → ⊥) → word ≡ 64 ∷ place → IsCut 46 place digits offset → ((n : ℕ) → (n < 2 ^ 32) × (decimal n ≡ digits) → ⊥) → GivenFits g × (given_text g ≡ word) → ⊥
no_block (given.Mutex m) word place digits offset mutex is cut none whole = mutex m.0 whole
no_block (given.Block b) word place digits offset mutex is cut none whole =
    none b (whole.0, (block_parts b word place digits offset whole.0 whole.1 is cut).0)

pub no_start : (g : Given) (word place digits offset : List ℕ) → ((n : ℕ) → (n < 2 ^ 32) × (109 ∷ decimal n ≡ word) → ⊥) → word ≡ 64 ∷ place → IsCut 46 place digits offset → (codes "0" ≡ offset → ⊥) → GivenFits g × (given_text g ≡ word) → ⊥
no_start (given.Mutex m) word place digits offset mutex is cut other whole = mutex m.0 whole
no_start (given.Block b) word place digits offset mutex is cut other whole =
    other (block_parts b word place digits offset whole.0 whole.1 is cut).1

pub lacks_given : (c : ℕ) (g : Given) → c < 45 → GivenFits g → lacks c (given_text g) ≡ true
lacks_given c (given.Mutex m) low fits = lacks_more c 109 (decimal m.0) (λ same. absurd (omega arith)) (lacks_decimal c m.0 (inl (omega arith)) (wide m.0 fits))
lacks_given c (given.Block b) low fits =
    let block : lacks c (decimal b) ≡ true = lacks_decimal c b (inl (omega arith)) (wide b fits) in
    let offset : lacks c (46 ∷ 48 ∷ []) ≡ true = lacks_more c 46 (48 ∷ []) (λ same. absurd (omega arith)) (lacks_more c 48 [] (λ same. absurd (omega arith)) refl) in
    lacks_more c 64 (decimal b ++ 46 ∷ 48 ∷ []) (λ same. absurd (omega arith)) (lacks_append c (decimal b) (46 ∷ 48 ∷ []) block offset)

-- what stands before the things, and behind the first space

pub front_cut : (w word more : List ℕ) (gs : List Given) → lacks 32 w ≡ true → lacks 32 word ≡ true → w ++ gives_text gs ≡ word ++ 32 ∷ more → (w ≡ word) × (gives_text gs ≡ 32 ∷ more)
front_cut w word more [] own free e =
    let whole : w ≡ word ++ 32 ∷ more = sym (append-nil w) ∙ e in
    absurd (has_it 32 word more (rw whole at own))
front_cut w word more (g ∷ gs) own free e =
    let t = one_cut 32 w word (given_text g ++ gives_text gs) more own free e in
    (t.0, ap (λ t. 32 ∷ t) t.1)

pub front_whole : (w words : List ℕ) (gs : List Given) → lacks 32 words ≡ true → w ++ gives_text gs ≡ words → (w ≡ words) × (gs ≡ [])
front_whole w words [] free e = (sym (append-nil w) ∙ e, refl)
front_whole w words (g ∷ gs) free e =
    let h : lacks 32 (w ++ 32 ∷ (given_text g ++ gives_text gs)) ≡ true = rw e free in
    absurd (has_it 32 w (given_text g ++ gives_text gs) h)

-- What is read so far, and the words that are left. Things that the whole spells have some that the rest spells.
pub record Listing (words : List ℕ) (gs : List Given) (rest : List ℕ) : Type 0 where
  pub spelled : gives_text gs ++ 32 ∷ rest ≡ 32 ∷ words
  pub fit : All GivenFits gs
  pub left : (ts : List Given) → All GivenFits ts → gives_text ts ≡ 32 ∷ words → (us : List Given) × (All GivenFits us × (gives_text us ≡ 32 ∷ rest))

gives_append : (xs ys : List Given) → gives_text (xs ++ ys) ≡ gives_text xs ++ gives_text ys
gives_append [] ys = refl
gives_append (x ∷ xs) ys = ap (λ t. 32 ∷ t) (ap (λ t. given_text x ++ t) (gives_append xs ys) ∙ sym (append_assoc (given_text x) (gives_text xs) (gives_text ys)))

gives_one : (g : Given) → gives_text (g ∷ []) ≡ 32 ∷ given_text g
gives_one g = ap (λ t. 32 ∷ t) (append-nil (given_text g))

spelled_more : (gs : List Given) (g : Given) (rest : List ℕ) → gives_text (gs ++ g ∷ []) ++ rest ≡ gives_text gs ++ 32 ∷ (given_text g ++ rest)
spelled_more gs g rest = ap (λ t. t ++ rest) (gives_append gs (g ∷ []) ∙ ap (λ t. gives_text gs ++ t) (gives_one g)) ∙ append_assoc (gives_text gs) (32 ∷ given_text g) rest

-- a first thing that is cut off
some_left : (word more : List ℕ) (us : List Given) → lacks 32 word ≡ true → All GivenFits us → gives_text us ≡ 32 ∷ (word ++ 32 ∷ more) → (u : Given) × (vs : List Given) × (GivenFits u × (given_text u ≡ word)) × (All GivenFits vs × (gives_text vs ≡ 32 ∷ more))
some_left word more [] free fit e = absurd cc
some_left word more (u ∷ us) free fit e =
    let own : GivenFits u = All-head GivenFits u us fit in
    let t = front_cut (given_text u) word more us (lacks_given 32 u (omega arith) own) free cc in
    (u, us, (own, t.0), (All-tail GivenFits u us fit, t.1))

pub listing_more : (words : List ℕ) (gs longer : List Given) (rest word more : List ℕ) (g : Given) → Listing words gs rest → IsCut 32 rest word more → GivenFits g × (given_text g ≡ word) → longer ≡ gs ++ g ∷ [] → Listing words longer more
listing_more words gs longer rest word more g so cut thing e = rw e (record {
  spelled = spelled_more gs g (32 ∷ more) ∙ (ap (λ t. gives_text gs ++ 32 ∷ t) (ap (λ t. t ++ 32 ∷ more) thing.1 ∙ sym cut.1) ∙ so.spelled);
  fit = All-push GivenFits gs g so.fit thing.0;
  left = λ ts fit whole.
      let t = so.left ts fit whole in
      let u = some_left word more t.0 cut.0 t.1.0 (t.1.1 ∙ ap (λ t. 32 ∷ t) cut.1) in
      (u.1, u.3);
})

pub no_thing : (words : List ℕ) (gs : List Given) (rest word more : List ℕ) → Listing words gs rest → IsCut 32 rest word more → ((g : Given) → GivenFits g × (given_text g ≡ word) → ⊥) → (ts : List Given) → All GivenFits ts × (gives_text ts ≡ 32 ∷ words) → ⊥
no_thing words gs rest word more so cut none ts whole =
    let t = so.left ts whole.0 whole.1 in
    let u = some_left word more t.0 cut.0 t.1.0 (t.1.1 ∙ ap (λ t. 32 ∷ t) cut.1) in
    none u.0 u.2

last_left : (rest : List ℕ) (us : List Given) → lacks 32 rest ≡ true → All GivenFits us → gives_text us ≡ 32 ∷ rest → (u : Given) × (GivenFits u × (given_text u ≡ rest))
last_left rest [] free fit e = absurd cc
last_left rest (u ∷ us) free fit e = (u, (All-head GivenFits u us fit, (front_whole (given_text u) rest us free cc).0))

pub no_last : (words : List ℕ) (gs : List Given) (rest : List ℕ) → Listing words gs rest → lacks 32 rest ≡ true → ((g : Given) → GivenFits g × (given_text g ≡ rest) → ⊥) → (ts : List Given) → All GivenFits ts × (gives_text ts ≡ 32 ∷ words) → ⊥
no_last words gs rest so free none ts whole =
    let t = so.left ts whole.0 whole.1 in
    let u = last_left rest t.0 free t.1.0 t.1.1 in
    none u.0 u.1

pub listing_all : (words : List ℕ) (gs longer : List Given) (rest : List ℕ) (g : Given) → Listing words gs rest → GivenFits g × (given_text g ≡ rest) → longer ≡ gs ++ g ∷ [] → All GivenFits longer × (gives_text longer ≡ 32 ∷ words)
listing_all words gs longer rest g so thing e = rw e (
  All-push GivenFits gs g so.fit thing.0,
  sym (append-nil (gives_text (gs ++ g ∷ []))) ∙ (spelled_more gs g [] ∙ (ap (λ t. gives_text gs ++ 32 ∷ t) (append-nil (given_text g) ∙ thing.1) ∙ so.spelled)),
)

-- a retry

pub record ARetry (words : List ℕ) : Type 0 where
  pub site : ℕ
  pub gives : List Given
  pub small : site < 2 ^ 32
  pub fit : All GivenFits gives
  pub spelled : 115 ∷ (decimal site ++ gives_text gives) ≡ words

retry_parts : (a : EventAct) (words : List ℕ) → ActFits a → act_text a ≡ codes "retry " ++ words → ARetry words
retry_parts (act.Retry site gives) words fits e = record { site = site.0; gives = gives; small = fits.0; fit = fits.1; spelled = cc }
retry_parts _ words fits e = absurd (false≢true (ap (begins (codes "retry ")) e))

pub lacks_site : (n : ℕ) → n < 2 ^ 32 → lacks 32 (115 ∷ decimal n) ≡ true
lacks_site n small = lacks_decimal 32 n (inl (omega arith)) (wide n small)

pub retry_alone : (a : EventAct) (words : List ℕ) → lacks 32 words ≡ true → ((n : ℕ) → (n < 2 ^ 32) × (115 ∷ decimal n ≡ words) → ⊥) → ActFits a × (act_text a ≡ codes "retry " ++ words) → ⊥
retry_alone a words free none is =
    let r = retry_parts a words is.0 is.1 in
    none r.site (r.small, (front_whole (115 ∷ decimal r.site) words r.gives free r.spelled).0)

pub no_site : (a : EventAct) (words word things : List ℕ) → IsCut 32 words word things → ((n : ℕ) → (n < 2 ^ 32) × (115 ∷ decimal n ≡ word) → ⊥) → ActFits a × (act_text a ≡ codes "retry " ++ words) → ⊥
no_site a words word things cut none is =
    let r = retry_parts a words is.0 is.1 in
    none r.site (r.small, (front_cut (115 ∷ decimal r.site) word things r.gives (lacks_site r.site r.small) cut.0 (r.spelled ∙ cut.1)).0)

pub no_things : (a : EventAct) (words word things : List ℕ) → IsCut 32 words word things → ((gs : List Given) → All GivenFits gs × (gives_text gs ≡ 32 ∷ things) → ⊥) → ActFits a × (act_text a ≡ codes "retry " ++ words) → ⊥
no_things a words word things cut none is =
    let r = retry_parts a words is.0 is.1 in
    none r.gives (r.fit, (front_cut (115 ∷ decimal r.site) word things r.gives (lacks_site r.site r.small) cut.0 (r.spelled ∙ cut.1)).1)
