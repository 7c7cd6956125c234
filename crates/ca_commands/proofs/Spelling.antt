-- What is read from words one after another is the one list of pieces that spells them.
use Rattle.std.proofs.Common.{◌≡◌, ◌≢◌, ℕ, Bool, true, false, cond, List, [], ◌∷◌, ◌++◌, map, Option, Some, None, refl, sym, ap, ◌∙◌, subst}
use Rattle.std.specs.Prelude.{◌==◌, not, All, codes}
use Rattle.std.specs.List.{before_first, after_first, list_any}
use Rattle.std.specs.Str.{bytes_eq}
use Rattle.std.specs.Cmp.Lexicographic.{same_text}
use Rattle.std.proofs.lemmas.Bool.{eqb-true, eq-eqb, false_from_ne_true}
use Rattle.std.proofs.lemmas.List.Elements.{All-head, All-tail, All-nil, All-cons}
use Rattle.std.proofs.lemmas.List.{append_assoc, append-nil}
use Rattle.ca_commands.specs.declared.key.Key.{Key}
use Rattle.ca_commands.specs.declared.key.Key.TheVariants as key
use Rattle.ca_commands.specs.declared.pieces.Mode.{Mode}
use Rattle.ca_commands.specs.declared.pieces.Mode.TheVariants as mode
use Rattle.ca_commands.specs.Words.{spelling, Piece, Name, Plain, Valued, IsBare, Spell, ends, name, plain, apart, joined, names}
use Rattle.ca_commands.specs.Gathering.{Gathered, gathered_as, start, in_mode, with_piece, if_so, key_of, is_equals, with_option, is_bare, with_word, gathered, IsDone}
use Rattle.ca_commands.proofs.Equals.{round_equals}

-- what the words that are left do, after one piece
abbrev Goes : Option Gathered → List (List ℕ) → Option Gathered
Goes r ws = elim r [ None ↦ None | Some h ↦ gathered h ws ]

-- from the pieces that were read before, the words give these more
abbrev Gives : Mode → List Piece → List (List ℕ) → List Piece → Type 0
Gives m before ws ps = (n : Mode) × (gathered (gathered_as m before) ws ≡ Some (gathered_as n (before ++ ps))) × IsDone n

bare_is : (w : List ℕ) → IsBare w → is_bare w ≡ true
bare_is [] bare = refl
bare_is (c ∷ w) bare = ap not (false_from_ne_true (c == 45) (λ e. bare (eqb-true c 45 e)))

is_bare_so : (w : List ℕ) → is_bare w ≡ true → IsBare w
is_bare_so [] is = tt
is_bare_so (c ∷ w) is = λ e. let dash : (c == 45) ≡ true = eq-eqb c 45 e in let no' : false ≡ true = sym (ap not dash) ∙ is in absurd cc

other_text : (w t : List ℕ) → w ≢ t → bytes_eq w t ≡ false
other_text w t differ = false_from_ne_true (bytes_eq w t) (λ e. differ (same_text w t (sym e)))

-- one piece more, before the others
more : (before : List Piece) (p : Piece) (ps : List Piece) → (before ++ p ∷ []) ++ ps ≡ before ++ (p ∷ ps)
more before p ps = append_assoc before (p ∷ []) ps

goes_on : (m : Mode) (before : List Piece) (p : Piece) (ws : List (List ℕ)) (ps : List Piece) → Gives m (before ++ p ∷ []) ws ps → (n : Mode) × (gathered (gathered_as m (before ++ p ∷ [])) ws ≡ Some (gathered_as n (before ++ (p ∷ ps)))) × IsDone n
goes_on m before p ws ps (n, same, done) = (n, same ∙ ap (λ l. Some (gathered_as n l)) (more before p ps), done)

abbrev IsLate : List ℕ → Type 0
IsLate n = n ≢ codes "-"

names_to : (ns : List (List ℕ)) (before : List Piece) → All IsLate ns → Gives mode.Names before ns (map Name ns)
names_to [] before all = (mode.Names, ap (λ l. Some (gathered_as mode.Names l)) (sym (append-nil before)), tt)
names_to (n ∷ ns) before all =
    let rest = goes_on mode.Names before (Name n) ns (map Name ns) (names_to ns (before ++ Name n ∷ []) (All-tail IsLate n ns all)) in
    (rest.0, ap (λ b. Goes (cond b None (Some (gathered_as mode.Names (before ++ Name n ∷ [])))) ns) (other_text n (codes "-") (All-head IsLate n ns all)) ∙ rest.1, rest.2)

-- an option in the next word, or behind `=`
word_apart : (g : Gathered) (k : Key) → with_word g (spelling k) ≡ Some (in_mode g (mode.Value k))
word_apart g key.Limit = refl
word_apart g key.Depth = refl
word_apart g key.Only = refl
word_apart g key.Events = refl
word_apart g key.Patience = refl
word_apart g key.Schedule = refl
word_apart g key.Seed = refl

word_joined : (g : Gathered) (k : Key) (v : List ℕ) → with_word g (spelling k ++ (codes "=" ++ v)) ≡ Some (with_piece g (Valued k v))
word_joined g key.Limit v = refl
word_joined g key.Depth v = refl
word_joined g key.Only v = refl
word_joined g key.Events v = refl
word_joined g key.Patience v = refl
word_joined g key.Schedule v = refl
word_joined g key.Seed v = refl

-- what spells the words is read from them
spelled_to : {ps : List Piece} {ws : List (List ℕ)} → Spell ps ws → (before : List Piece) → Gives mode.Options before ws ps
spelled_to ends before = (mode.Options, ap (λ l. Some (gathered_as mode.Options l)) (sym (append-nil before)), tt)
spelled_to (name {n} {ps} {ws} bare s) before =
    let g : Gathered = gathered_as mode.Options before in
    let rest = goes_on mode.Options before (Name n) ws ps (spelled_to s (before ++ Name n ∷ [])) in
    let step : with_word g n ≡ Some (with_piece g (Name n)) =
    ap (λ b. cond b (Some (with_piece g (Name n))) (cond (bytes_eq n (codes "--")) (Some (in_mode g mode.Names)) (cond (bytes_eq n (codes "--plain")) (Some (with_piece g Plain)) (with_option g n)))) (bare_is n bare) in
    (rest.0, ap (λ r. Goes r ws) step ∙ rest.1, rest.2)
spelled_to (plain {ps} {ws} s) before =
    goes_on mode.Options before Plain ws ps (spelled_to s (before ++ Plain ∷ []))
spelled_to (apart {k} {v} {ps} {ws} s) before =
    let rest = goes_on mode.Options before (Valued k v) ws ps (spelled_to s (before ++ Valued k v ∷ [])) in
    (rest.0, ap (λ r. Goes r (v ∷ ws)) (word_apart (gathered_as mode.Options before) k) ∙ rest.1, rest.2)
spelled_to (joined {k} {v} {ps} {ws} s) before =
    let rest = goes_on mode.Options before (Valued k v) ws ps (spelled_to s (before ++ Valued k v ∷ [])) in
    (rest.0, ap (λ r. Goes r ws) (word_joined (gathered_as mode.Options before) k v) ∙ rest.1, rest.2)
spelled_to (names {ns} all) before = names_to ns before all

-- ---- the other way: what was read spells the words

-- the pieces that were read behind some
abbrev Comes : List Piece → List (List ℕ) → Gathered → Type 0
Comes before ws h = (ps : List Piece) × Spell ps ws × (h.pieces ≡ before ++ ps)

abbrev AreNames : List Piece → List (List ℕ) → Gathered → Type 0
AreNames before ns h = All IsLate ns × (h.pieces ≡ before ++ map Name ns)

late : (n : List ℕ) → bytes_eq n (codes "-") ≡ false → IsLate n
late n other = λ e. let dash : bytes_eq n (codes "-") ≡ true = ap (λ t. bytes_eq t (codes "-")) e in let no' : false ≡ true = sym other ∙ dash in absurd cc

names_by : (before : List Piece) (n : List ℕ) (ns : List (List ℕ)) (h : Gathered) (b : Bool) → bytes_eq n (codes "-") ≡ b → Goes (cond b None (Some (gathered_as mode.Names (before ++ Name n ∷ [])))) ns ≡ Some h
    → (gathered (gathered_as mode.Names (before ++ Name n ∷ [])) ns ≡ Some h → AreNames (before ++ Name n ∷ []) ns h) → AreNames before (n ∷ ns) h
names_by before n ns h true dash same next = absurd cc
names_by before n ns h false other same next = let rest = next same in (All-cons IsLate n ns (late n other) rest.0, rest.1 ∙ more before (Name n) (map Name ns))

names_from : (ns : List (List ℕ)) (before : List Piece) (h : Gathered) → gathered (gathered_as mode.Names before) ns ≡ Some h → AreNames before ns h
names_from [] before h same = let one : gathered_as mode.Names before ≡ h = cc in (All-nil IsLate, ap (λ g. g.pieces) (sym one) ∙ sym (append-nil before))
names_from (n ∷ ns) before h same = names_by before n ns h (bytes_eq n (codes "-")) refl same (λ same. names_from ns (before ++ Name n ∷ []) h same)

-- the option that a text names is spelled so
named_so : (t : List ℕ) (j : Key) (rest : Option Key) (k : Key) (b : Bool) → bytes_eq t (spelling j) ≡ b → cond b (Some j) rest ≡ Some k → (rest ≡ Some k → t ≡ spelling k) → t ≡ spelling k
named_so t j rest k true e is later = let one : j ≡ k = cc in same_text t (spelling j) (sym e) ∙ ap spelling one
named_so t j rest k false e is later = later is

named : (t : List ℕ) (j : Key) (rest : Option Key) (k : Key) → if_so t j rest ≡ Some k → (rest ≡ Some k → t ≡ spelling k) → t ≡ spelling k
named t j rest k is later = named_so t j rest k (bytes_eq t (spelling j)) refl is later

key_is : (t : List ℕ) (k : Key) → key_of t ≡ Some k → t ≡ spelling k
key_is t k is =
    named t key.Limit _ k is (λ is. named t key.Depth _ k is (λ is. named t key.Only _ k is (λ is. named t key.Events _ k is (λ is.
    named t key.Patience _ k is (λ is. named t key.Schedule _ k is (λ is. named t key.Seed _ k is (λ is. absurd cc)))))))

abbrev Next : List Piece → List (List ℕ) → Gathered → Type 0
Next before ws h = gathered (gathered_as mode.Options before) ws ≡ Some h → Comes before ws h

-- an option whose value stands behind `=`
joined_from : (before : List Piece) (w : List ℕ) (ws : List (List ℕ)) (h : Gathered) (found : Option Key) → list_any is_equals w ≡ true → key_of (before_first is_equals w) ≡ found
    → Goes (elim found [ None ↦ None | Some k ↦ Some (with_piece (gathered_as mode.Options before) (Valued k (after_first is_equals w))) ]) ws ≡ Some h
    → ((p : Piece) → Next (before ++ p ∷ []) ws h) → Comes before (w ∷ ws) h
joined_from before w ws h None any is same next = absurd cc
joined_from before w ws h (Some k) any is same next =
    let v : List ℕ = after_first is_equals w in
    let rest = next (Valued k v) same in
    let spelled : w ≡ spelling k ++ (codes "=" ++ v) = round_equals w any ∙ ap (λ t. t ++ (codes "=" ++ v)) (key_is (before_first is_equals w) k is) in
    (Valued k v ∷ rest.0, subst (λ t. Spell (Valued k v ∷ rest.0) (t ∷ ws)) (sym spelled) (joined rest.1), rest.2 ∙ more before (Valued k v) rest.0)

-- one whose value is the next word
value_from : (before : List Piece) (k : Key) (w : List ℕ) (ws : List (List ℕ)) (h : Gathered) → w ≡ spelling k → gathered (gathered_as (mode.Value k) before) ws ≡ Some h → IsDone h.mode
    → ((v : List ℕ) (left : List (List ℕ)) → ws ≡ v ∷ left → (p : Piece) → Next (before ++ p ∷ []) left h) → Comes before (w ∷ ws) h
value_from before k w [] h is same done later = let one : gathered_as (mode.Value k) before ≡ h = cc in absurd (subst (λ g. IsDone g.mode) (sym one) done)
value_from before k w (v ∷ left) h is same done later =
    let rest = later v left refl (Valued k v) same in
    (Valued k v ∷ rest.0, subst (λ t. Spell (Valued k v ∷ rest.0) (t ∷ v ∷ left)) (sym is) (apart rest.1), rest.2 ∙ more before (Valued k v) rest.0)

apart_from : (before : List Piece) (w : List ℕ) (ws : List (List ℕ)) (h : Gathered) (found : Option Key) → key_of w ≡ found
    → Goes (elim found [ None ↦ None | Some k ↦ Some (in_mode (gathered_as mode.Options before) (mode.Value k)) ]) ws ≡ Some h → IsDone h.mode
    → ((v : List ℕ) (left : List (List ℕ)) → ws ≡ v ∷ left → (p : Piece) → Next (before ++ p ∷ []) left h) → Comes before (w ∷ ws) h
apart_from before w ws h None is same done later = absurd cc
apart_from before w ws h (Some k) is same done later = value_from before k w ws h (key_is w k is) same done later

module _ (before : List Piece) (w : List ℕ) (ws : List (List ℕ)) (h : Gathered) (done : IsDone h.mode)
    (next : (p : Piece) → Next (before ++ p ∷ []) ws h) (later : (v : List ℕ) (left : List (List ℕ)) → ws ≡ v ∷ left → (p : Piece) → Next (before ++ p ∷ []) left h) where
  abbrev here : Gathered
  here = gathered_as mode.Options before

  option_from : (b : Bool) → list_any is_equals w ≡ b
      → Goes (cond b (elim (key_of (before_first is_equals w)) [ None ↦ None | Some k ↦ Some (with_piece here (Valued k (after_first is_equals w))) ]) (elim (key_of w) [ None ↦ None | Some k ↦ Some (in_mode here (mode.Value k)) ])) ws ≡ Some h → Comes before (w ∷ ws) h
  option_from true any same = joined_from before w ws h (key_of (before_first is_equals w)) any refl same next
  option_from false any same = apart_from before w ws h (key_of w) refl same done later

  plain_from : (b : Bool) → bytes_eq w (codes "--plain") ≡ b → Goes (cond b (Some (with_piece here Plain)) (with_option here w)) ws ≡ Some h → Comes before (w ∷ ws) h
  plain_from true is same =
      let rest = next Plain same in
      (Plain ∷ rest.0, subst (λ t. Spell (Plain ∷ rest.0) (t ∷ ws)) (sym (same_text w (codes "--plain") (sym is))) (plain rest.1), rest.2 ∙ more before Plain rest.0)
  plain_from false is same = option_from (list_any is_equals w) refl same

  dashes_from : (b : Bool) → bytes_eq w (codes "--") ≡ b → Goes (cond b (Some (in_mode here mode.Names)) (cond (bytes_eq w (codes "--plain")) (Some (with_piece here Plain)) (with_option here w))) ws ≡ Some h → Comes before (w ∷ ws) h
  dashes_from true is same =
      let rest = names_from ws before h same in
      (map Name ws, subst (λ t. Spell (map Name ws) (t ∷ ws)) (sym (same_text w (codes "--") (sym is))) (names rest.0), rest.1)
  dashes_from false is same = plain_from (bytes_eq w (codes "--plain")) refl same

  word_from : (b : Bool) → is_bare w ≡ b → Goes (cond b (Some (with_piece here (Name w))) (cond (bytes_eq w (codes "--")) (Some (in_mode here mode.Names)) (cond (bytes_eq w (codes "--plain")) (Some (with_piece here Plain)) (with_option here w)))) ws ≡ Some h → Comes before (w ∷ ws) h
  word_from true is same =
      let rest = next (Name w) same in
      (Name w ∷ rest.0, name (is_bare_so w is) rest.1, rest.2 ∙ more before (Name w) rest.0)
  word_from false is same = dashes_from (bytes_eq w (codes "--")) refl same

-- the words that are left, and all but the first of them
spelled_from : (ws : List (List ℕ)) (before : List Piece) (h : Gathered) → gathered (gathered_as mode.Options before) ws ≡ Some h → IsDone h.mode → Comes before ws h
spelled_from [] before h same done = let one : gathered_as mode.Options before ≡ h = cc in ([], ends, ap (λ g. g.pieces) (sym one) ∙ sym (append-nil before))
spelled_from (w ∷ []) before h same done =
    word_from before w [] h done (λ p same. spelled_from [] (before ++ p ∷ []) h same done) (λ v left none. absurd cc) (is_bare w) refl same
spelled_from (w ∷ v ∷ ws) before h same done =
    word_from before w (v ∷ ws) h done (λ p same. spelled_from (v ∷ ws) (before ++ p ∷ []) h same done)
    (λ u left words p same. let rest : ws ≡ left = cc in subst (λ l. Comes (before ++ p ∷ []) l h) rest (spelled_from ws (before ++ p ∷ []) h (subst (λ l. gathered (gathered_as mode.Options (before ++ p ∷ [])) l ≡ Some h) (sym rest) same) done))
    (is_bare w) refl same

-- what was read spells the words
pub read_spells : (ws : List (List ℕ)) (h : Gathered) → gathered start ws ≡ Some h → IsDone h.mode → Spell h.pieces ws
read_spells ws h same done = let (ps, s, is) = spelled_from ws [] h same done in subst (λ l. Spell l ws) (sym is) s

-- what spells the words was read from them
pub spells_read : (ps : List Piece) (ws : List (List ℕ)) → Spell ps ws → (n : Mode) × (gathered start ws ≡ Some (gathered_as n ps)) × IsDone n
spells_read ps ws s = spelled_to s []

pub one_spelling : (ws : List (List ℕ)) (ps qs : List Piece) → Spell ps ws → Spell qs ws → ps ≡ qs
one_spelling ws ps qs s t =
    let (m, first, done) = spells_read ps ws s in
    let (n, second, also) = spells_read qs ws t in
    let both : Some (gathered_as m ps) ≡ Some (gathered_as n qs) = sym first ∙ second in
    let one : gathered_as m ps ≡ gathered_as n qs = cc in
    ap (λ g. g.pieces) one

-- words that are refused have no pieces
pub no_spelling : (ws : List (List ℕ)) → gathered start ws ≡ None → (ps : List Piece) → Spell ps ws → ⊥
no_spelling ws none ps s = let (n, read, done) = spells_read ps ws s in let both : Some (gathered_as n ps) ≡ None = sym read ∙ none in absurd cc

-- nor have words at whose end a value is still to come
pub unfinished : (ws : List (List ℕ)) (h : Gathered) (k : Key) → gathered start ws ≡ Some h → h.mode ≡ mode.Value k → (ps : List Piece) → Spell ps ws → ⊥
unfinished ws h k is value ps s =
    let (n, read, done) = spells_read ps ws s in
    let both : Some (gathered_as n ps) ≡ Some h = sym read ∙ is in
    let one : gathered_as n ps ≡ h = cc in
    subst IsDone (ap (λ g. g.mode) one ∙ value) done
